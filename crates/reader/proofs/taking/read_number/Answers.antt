-- `read_number` meets its contract: after k turns the first k characters are digits, with the value n.
use mathlib.Core.Path.{sym, ap, ◌∙◌}
use Prim.Native.Nat.{◌+◌}
use native.Mathlib.Omega.{arith}
use Rattle.reader.proofs.WordRead.{behind}
use Rattle.reader.proofs.DigitsRead.{Counted, counts, counted, number_read, no-number}
use Rattle.reader.proofs.taking.read_number.Goals as goal
use Rattle.reader.proofs.taking.read_number.Goals.{Left-loop-c, else-loop-c-test, then-loop-c-test+then-not-is_ascii_digit}

told : (c : Left-loop-c) → Counted c.args.text.now c.loop-c.k c.loop-c.n
told c =
    counted c.args.text.now c.min.result c.min.ensures c.loop-c.invariant.1 c.loop-c.c-index c.loop-c.invariant.0 (elim c.loop-c-test.branch [
      | else-loop-c-test w ↦ λ more digit. absurd (omega (arith, w.loop-c-test.false))
      | then-loop-c-test+then-not-is_ascii_digit w ↦ λ more digit. let no = w.if-not-is_ascii_digit.ensures.cases in absurd (omega (arith, digit.0, digit.1, no))
    ])

pub loop-c-preserved : goal.loop-c-preserved
loop-c-preserved c = (
  ap (◌+ 1) c.loop-c.invariant.0,
  counts c.args.text.now c.min.result c.min.ensures c.loop-c.invariant.1 c.loop-c.c-index c.loop-c.invariant.0 c.loop-c-test.true c.if-not-is_ascii_digit.ensures.cases,
)

pub returns-then-decimal_length-k : goal.returns-then-decimal_length-k
returns-then-decimal_length-k c =
    no-number c.args.text.now (told (goal.at.returns-then-decimal_length-k c).Left-loop-c) (λ e. c.if-decimal_length-k.true (c.decimal_length.ensures.0 ∙ e))

pub returns : goal.returns
returns c =
    let text = c.args.text.now in
    rw (behind c.loop-c.k text)
    (number_read text (told (goal.at.returns c).Left-loop-c) (sym c.decimal_length.ensures.0 ∙ c.if-decimal_length-k.false))
