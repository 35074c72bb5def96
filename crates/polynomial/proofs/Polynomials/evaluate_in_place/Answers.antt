-- `evaluate_in_place` meets its contract: each turn of the loop takes Horner's rule one degree down.
use Prim.Native.Nat.{◌-◌}
use mathlib.Core.Path.{◌≡◌, refl, ap, ◌∙◌}
use native.Mathlib.Omega.{arith}
use lib.ListN.{length}
use lib.Seq.{length_front}
use Rattle.strides.specs.Strides.{strided}
use Rattle.polynomial.specs.Steps.{horner_step}
use Rattle.polynomial.proofs.Horner.{partial, partial_top, partial_last, turn}
use Rattle.polynomial.proofs.Polynomials.evaluate_in_place.Goals as goal

pub loop-degree-init : goal.loop-degree-init
loop-degree-init c =
    let s = c.args.self.now in (
      refl,
      c.gather.ensures ∙ ap (λ m. strided s.k (s.k - 1) m s.coefficients.now) c.requires.0
          ∙ partial_top s.k c.args.x (s.k - 1) (length s.secret.now) s.coefficients.now (omega (arith, s.some)) s.enough (omega (arith, s.some)),
    )

pub loop-degree-preserved : goal.loop-degree-preserved
loop-degree-preserved c =
    let l = c.loop-degree in
    let s = c.args.self.now in
    let g = c.gather-in-loop-degree in (
      length_front l.column g.new.out (length s.secret.now) g.auto.out ∙ l.invariant.0,
      c.horner_step.ensures
          ∙ turn s.secret.now s.coefficients.now l.vs l.column g.new.out s.k c.args.x l.degree
          (omega arith) (omega (arith, l.auto.degree, s.some)) s.enough l.invariant.0 c.requires.1 l.invariant.1 g.ensures,
    )

pub returns : goal.returns
returns c =
    let l = c.loop-degree in
    let s = c.args.self.now in
    let z : l.degree ≡ 0 = omega arith in
    c.horner_step-2.ensures
    ∙ ap (λ v. horner_step c.args.x v s.secret.now) (l.invariant.1 ∙ ap (λ i. partial s.k c.args.x i (length s.secret.now) s.coefficients.now) z)
    ∙ partial_last s.k c.args.x s.secret.now s.coefficients.now c.ranges.x.fits
