-- `evaluate_row` meets its contract: after the blocks before b the first b values are those of the row.
use mathlib.Core.Path.{refl, sym, ap, ◌∙◌}
use Prim.Native.Nat.{◌+◌, ◌≤◌}
use native.Mathlib.Omega.{arith}
use lib.ListN.{length, drop, length-drop}
use lib.Seq.{drop_at, drop-drop}
use Rattle.polynomial.proofs.Blocks.{block_fills}
use Rattle.polynomial.proofs.Polynomials.evaluate_row.Goals as goal

pub loop-block-preserved : goal.loop-block-preserved
loop-block-preserved c =
    let l = c.loop-block in
    let s = c.args.self.now in
    let p = c.part.ensures in
    let block = c.in-Some.block.now in
    let step = c.in-Some.ensures.steps in
    let e = l.b + length block in
    let parts = sym step.1.0 ∙ l.invariant.1 in
    let inside : e ≤ length s.secret.now = omega (arith, step.1.1, ap length l.invariant.1, length-drop l.b s.secret.now) in (
      step.0 ∙ l.invariant.0,
      sym (drop_at block _ (length block) refl) ∙ ap (drop (length block)) parts ∙ drop-drop (length block) l.b s.secret.now,
      inside,
      block_fills l.b e s.k c.args.x s.secret.now s.coefficients.now c.args.vs.now l.vs c.evaluate_in_place.new.vs (omega arith) inside l.invariant.3
          (rw (p.secret, p.coefficients, p.k) at c.evaluate_in_place.ensures),
    )
