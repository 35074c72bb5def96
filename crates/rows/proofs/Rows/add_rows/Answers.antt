-- `add_rows` meets its contract: what is left to add to the sums so far makes what is to be made.
use mathlib.Core.Path.{sym, ap, ap₂, ◌∙◌}
use mathlib.Core.List.{◌∷◌}
use mathlib.Core.Logic.{⊎_elim}
use Prim.Native.Nat.{◌*◌}
use native.Mathlib.Nat.{suc-mul}
use native.Mathlib.Omega.{arith}
use lib.ListN.{length, length-append}
use lib.Seq.{length-take-le}
use Rattle.std.specs.Slice.Iter.{chunks_exact_rest, chunks_exact_size, iter_rest}
use Rattle.rows.specs.Combining.{plus_rows}
use Rattle.rows.proofs.Sums.{row_next, plus_stored, all_taken, all_short}
use Rattle.rows.proofs.Rows.add_rows.Goals as goal

pub loop-row-init : goal.loop-row-init
loop-row-init c =
    let r = c.args.self.now in
    let z = c.zip-row-items.ensures in
    let i = c.into_iter-row-iterator.ensures.into_iter_gives in
    let rows = ap (λ z. chunks_exact_rest z.a) i ∙ ap chunks_exact_rest z.first ∙ c.chunks_exact.ensures.rest in
    let cs = ap (λ z. iter_rest z.b) i ∙ z.second.0 in (
      ap (λ z. chunks_exact_size z.a) i ∙ ap chunks_exact_size z.first ∙ c.chunks_exact.ensures.size,
      ap length rows ∙ length-take-le (r.count * r.width) r.bytes.now r.stored ∙ ap (◌* r.width) (sym (ap length cs ∙ c.requires.0)),
      ap₂ (λ t s. plus_rows r.width t s c.args.out.now) cs rows ∙ plus_stored r.width r.count c.args.coefficients.now r.bytes.now c.args.out.now c.requires.1 c.requires.0 r.stored,
    )

pub loop-row-preserved : goal.loop-row-preserved
loop-row-preserved c =
    let l = c.loop-row in
    let s = c.in-Some.ensures.steps in
    let w = c.args.self.now.width in
    let long = s.0.1.1 ∙ l.invariant.0 in (
      s.0.0 ∙ l.invariant.0,
      omega (arith, l.invariant.1, ap length s.0.1.0, length-append c.in-Some.row.now (chunks_exact_rest c.next.new.self.a), long, ap (λ l. length l * w) s.1, suc-mul (length (iter_rest c.next.new.self.b)) w),
      row_next c.in-Some.c.now w (iter_rest c.next.new.self.b) c.in-Some.row.now (chunks_exact_rest c.next.new.self.a) l.out c.add_scaled.new.out (omega (arith, l.auto.out, c.requires.1)) long c.add_scaled.ensures
          ∙ ap (λ r. plus_rows w (c.in-Some.c.now ∷ iter_rest c.next.new.self.b) r l.out) (sym s.0.1.0)
          ∙ ap (λ cs. plus_rows w cs (chunks_exact_rest l.row-iterator.a) l.out) (sym s.1)
          ∙ l.invariant.2,
    )

pub returns : goal.returns
returns c =
    let l = c.loop-row in
    let w = c.args.self.now.width in
    ⊎_elim
    (λ x. sym (all_short w (iter_rest l.row-iterator.b) (chunks_exact_rest l.row-iterator.a) l.out l.invariant.1 (omega (arith, x.1.1.0, l.invariant.0))) ∙ l.invariant.2)
    (λ x. sym (all_taken w (iter_rest l.row-iterator.b) (chunks_exact_rest l.row-iterator.a) l.out x.1.0) ∙ l.invariant.2)
    c.in-None.ensures.steps
