-- `times_differences` meets its contract: the places before k are multiplied, the others hold what they held.
use mathlib.Core.Path.{◌≡◌, refl, sym, ap, ◌∙◌}
use mathlib.Core.Bool.{cond}
use Prim.Native.Nat.{ℕ, ◌<◌}
use native.Mathlib.Omega.{arith}
use lib.Bits.{bit_xor}
use lib.Dec.{eqb}
use lib.ListN.{get_or}
use borrow.Author.Tests.{eq-eqb, ne_eqb}
use Rattle.gf256.specs.Field256.{mul256}
use Rattle.gf256.proofs.Field256.{ring256}
use Rattle.strides.proofs.InPlace.{next, all-zip}
use Rattle.rows.proofs.times_differences.Goals as goal
use Rattle.rows.proofs.times_differences.Goals.{then-a-x, else-a-x}

-- the product by the factor, whichever it is
hit : (a x d f r : ℕ) → d < 256 → a ≡ x → f ≡ 1 → r ≡ mul256 d f → r ≡ cond (eqb a x) d (mul256 d (bit_xor x a))
hit a x d f r h e q p = p ∙ ap (mul256 d) q ∙ ring256.mul-one d h ∙ sym (ap (λ b. cond b d (mul256 d (bit_xor x a))) (eq-eqb a x e))

miss : (a x d f r : ℕ) → (a ≡ x → ⊥) → f ≡ bit_xor x a → r ≡ mul256 d f → r ≡ cond (eqb a x) d (mul256 d (bit_xor x a))
miss a x d f r e q p = p ∙ ap (mul256 d) q ∙ sym (ap (λ b. cond b d (mul256 d (bit_xor x a))) (ne_eqb a x e))

pub loop-k-preserved : goal.loop-k-preserved
loop-k-preserved c =
    let l = c.loop-k in
    let a = c.args in
    let x = get_or a.xs.now l.k 0 in
    let d = get_or l.ds l.k 0 in
    let f = c.if-a-x.f in
    let p = c.gf256_mul.ensures in
    let h : d < 256 = omega arith in
    next l.k _ l.invariant (omega arith)
    (elim c.if-a-x.branch [ then-a-x w ↦ hit a.a x d f _ h w.if-a-x.true w.f-is p | else-a-x w ↦ miss a.a x d f _ w.if-a-x.false w.f-is p ])

pub returns : goal.returns
returns c =
    let l = c.loop-k in
    all-zip l.k l.invariant (omega arith) _ c.args.xs.now c.requires (λ k d. refl)
