-- `judge_lines` meets its contract: the lines before the next one are those of right rows, and their identifiers are marked.
use mathlib.Core.Path.{◌≡◌, sym, subst}
use mathlib.Core.Bool.{Bool, true}
use mathlib.Core.List.{List}
use Prim.Native.Nat.{ℕ, ◌+◌}
use native.Mathlib.Omega.{arith}
use lib.ListN.{set}
use Rattle.std.proofs.Common.{Bor}
use Rattle.std.proofs.lemmas.Option.{MatchOption-at_some, MatchOption-at_none}
use Rattle.std.proofs.lemmas.Result.{err_from_is_err_and}
use Rattle.reader.specs.Taking.{RowRead}
use Rattle.reader.proofs.Judged.{ReadTo, nothing_read, no_row, repeats, row_read, all_read, more_follows, all_right}
use Rattle.reader.proofs.judge.judge_lines.Goals as goal
use Rattle.reader.proofs.judge.judge_lines.Goals.{In_ok-id, After-is_empty, else-loop-line-test, then-loop-line-test+in_ok-id+else-seen-id+else-line-line-end}

found : (c : In_ok-id) → RowRead c.loop-line.rest.now c.args.head.now.values c.in_ok-id.id c.in_ok-id.behind.now
found c = MatchOption-at_some _ _ (c.in_ok-id.id, c.in_ok-id.behind) c.in_ok-id.ensures.ok_part c.read_row.ensures

-- what was read once the loop is over
read : (c : After-is_empty) → (seen : List Bool) × ReadTo c.args.text.now c.args.head.now.rows c.args.head.now.values seen (c.args.head.now.rows + 1) c.loop-line-test.rest.now
read c = elim c.loop-line-test.branch [
  | else-loop-line-test w ↦ (
    c.loop-line.seen,
    subst (λ (b : Bor (List ℕ)). ReadTo c.args.text.now c.args.head.now.rows c.args.head.now.values c.loop-line.seen (c.args.head.now.rows + 1) b.now) (sym w.rest-is)
        (all_read c.loop-line.invariant w.loop-line-test.false),
  )
  | then-loop-line-test+in_ok-id+else-seen-id+else-line-line-end w ↦ (
    set c.loop-line.seen w.in_ok-id.id true,
    let one : RowRead c.loop-line.rest.now c.args.head.now.values w.in_ok-id.id w.in_ok-id.behind.now =
        MatchOption-at_some _ _ (w.in_ok-id.id, w.in_ok-id.behind) w.in_ok-id.ensures.ok_part w.read_row.ensures in
        subst (λ (b : Bor (List ℕ)). ReadTo c.args.text.now c.args.head.now.rows c.args.head.now.values (set c.loop-line.seen w.in_ok-id.id true) (c.args.head.now.rows + 1) b.now) (sym w.rest-is)
        (all_read (row_read c.loop-line.invariant one w.loop-line-test.true w.if-seen-id.false) (omega arith)),
  )
]

pub loop-line-init : goal.loop-line-init
loop-line-init c = nothing_read c.args.text.now c.args.head.now.rows c.args.head.now.values

pub returns-in_err-id : goal.returns-in_err-id
returns-in_err-id c =
    let p = err_from_is_err_and c.from_residual.result c.from_residual.ensures.1 in
    let v = rw c.in_err-id.ensures.ok_part at c.in_err-id.ensures.value in
    let line : c.in_err-id.field-0.0 ≡ c.loop-line.line = cc in
    rw (p.1, p.2, line) (no_row c.loop-line.invariant c.loop-line-test.true (MatchOption-at_none _ _ c.in_err-id.ensures.ok_part c.read_row.ensures))

pub returns-then-seen-id : goal.returns-then-seen-id
returns-then-seen-id c =
    repeats c.loop-line.invariant (found (goal.at.returns-then-seen-id c).In_ok-id) c.loop-line-test.true c.if-seen-id.true

pub loop-line-preserved : goal.loop-line-preserved
loop-line-preserved c =
    row_read c.loop-line.invariant (found (goal.at.loop-line-preserved c).In_ok-id) c.loop-line-test.true c.if-seen-id.false

pub returns-then-not-is_empty : goal.returns-then-not-is_empty
returns-then-not-is_empty c =
    more_follows (read (goal.at.returns-then-not-is_empty c).After-is_empty).1 (sym c.if-not-is_empty.ensures)

pub returns : goal.returns
returns c = all_right (read (goal.at.returns c).After-is_empty).1 (sym c.if-not-is_empty.ensures)
