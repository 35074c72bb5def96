-- The bytes are a field: the powers of 3 hold every byte but 0.
-- Assumes nothing.
use mathlib.Core.Path.{◌≡◌, refl, sym, ◌∙◌}
use Prim.Native.Nat.{ℕ}
use native.Mathlib.Omega.{arith}
use lib.Dec.{lit<}
use Rattle.poly2.specs.Poly2.{mul_mod, rem, reduce, clmul}
use Rattle.poly2.proofs.BinaryField.{binary_laws}
use Rattle.algebra.specs.Field.{Ring, Laws, power}
use Rattle.algebra.proofs.Ring.{inv-only, zero-mul}
use Rattle.gf256.specs.Field256.{modulus, mul256, inv256, gf256, Field256}

pub laws256 : Laws gf256
unfolding mul256 inv256 power mul_mod rem reduce clmul
laws256 = binary_laws 8 modulus refl (lit< tt) 3 254 refl (lit< tt) refl tt

pub ring256 : Ring gf256
ring256 = laws256.ring

-- 0 times anything is 0, and so not 1
not_zero : (a b : ℕ) → mul256 a b ≡ 1 → a ≡ 0 → ⊥
not_zero a b e z =
    let zero : mul256 a b ≡ 0 = rw z (zero-mul ring256 b) in
    let absurd-one : ◌≡◌ {A = ℕ} 0 1 = sym zero ∙ e in
    omega arith

pub field256 : Field256
unfolding inv256 power
field256 = record {
  laws = laws256;
  inverse_only = λ a b ha hb e. inv-only laws256 a ha (not_zero a b e) b hb e;
  zero_has_none = zero-mul ring256;
  inverse_of_zero = zero-mul ring256 (power mul256 0 253);
}
