-- The polynomials modulo m, of degree w, are a ring, and a field where the powers of some g, computed once, hold each but 0.
-- Assumes nothing.
use mathlib.Core.Path.{◌≡◌, sym, subst}
use Prim.Native.Nat.{ℕ, suc, ◌-◌, ◌^◌, ◌<◌}
use native.Mathlib.Omega.{arith}
use lib.Bits.{xor_comm, xor_self, xor_zero_r, xor_lt}
use lib.Dec.{T}
use Rattle.algebra.specs.Field.{Ring, Laws, power}
use Rattle.algebra.proofs.Power.{generates, power-lt, inverse_power}
use Rattle.poly2.specs.Poly2.{mul_mod}
use Rattle.poly2.specs.Laws.{Monic}
use Rattle.poly2.specs.BinaryField.{binary_field}
use Rattle.poly2.proofs.Sum.{xor_assoc}
use Rattle.poly2.proofs.Remainder.{modular_laws}

module _ (w m : ℕ) (monic : Monic w m) (wide : 1 < 2 ^ w) where
  pub binary_ring : Ring (binary_field w m)
  binary_ring =
      let modular = modular_laws w m monic in
      record {
        one-lt = wide;
        add-lt = xor_lt w;
        mul-lt = λ a b ha hb. modular.small a b;
        add_comm = xor_comm;
        add_assoc = xor_assoc;
        add-zero = xor_zero_r;
        add-self = xor_self;
        mul_comm = modular.commutes;
        mul_assoc = modular.associates;
        mul-add = modular.distributes;
        mul-one = modular.unit;
      }

  -- n + 1 elements beside 0
  pub binary_laws : (g n : ℕ) → suc (suc n) ≡ 2 ^ w → g < 2 ^ w → power (mul_mod w m) g (suc n) ≡ 1 → T (generates (mul_mod w m) g (suc n)) → Laws (binary_field w m)
  binary_laws g n size hg once every =
      let e : n ≡ 2 ^ w - 2 = omega arith in
      record {
        ring = binary_ring;
        inv-lt = λ a ha. power-lt binary_ring a (2 ^ w - 2) ha;
        mul-inv = λ a ha na. subst (λ k. mul_mod w m a (power (mul_mod w m) a k) ≡ 1) e (inverse_power binary_ring g n hg once every a na (subst (a <◌) (sym size) ha));
      }
