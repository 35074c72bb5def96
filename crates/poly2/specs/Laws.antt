-- What the product and the remainder are, said without the way in which they are computed.
-- Assumes nothing.
use Rattle.std.specs.Prelude.{◌≡◌, ℕ, ◌+◌, ◌/◌, ◌^◌, ◌<◌}
use Rattle.std.specs.Int.Bits.{bit_xor}
use Rattle.poly2.specs.Poly2.{clmul, rem, mul_mod}

-- Numbers under `bit_xor` and `clmul` are a commutative ring. Distributing over sums, with x^i x^j = x^(i + j), leaves no other product.
pub record ProductLaws : Type 0 where
  pub powers : (i j : ℕ) → clmul (2 ^ i) (2 ^ j) ≡ 2 ^ (i + j)
  pub distributes : (a b c : ℕ) → clmul a (bit_xor b c) ≡ bit_xor (clmul a b) (clmul a c)
  pub commutes : (a b : ℕ) → clmul a b ≡ clmul b a
  pub associates : (a b c : ℕ) → clmul (clmul a b) c ≡ clmul a (clmul b c)
  pub unit : (a : ℕ) → clmul a 1 ≡ a

-- m has degree w.
abbrev pub Monic : ℕ → ℕ → Type 0
Monic w m = m / 2 ^ w ≡ 1

-- The remainder of a is a less a multiple of m, it has a degree below that of m, and nothing else is both.
pub record RemainderLaws (w m : ℕ) (monic : Monic w m) : Type 0 where
  pub divides : (a : ℕ) → (q : ℕ) × (a ≡ bit_xor (clmul q m) (rem w m a))
  pub small : (a : ℕ) → rem w m a < 2 ^ w
  pub only : (q r : ℕ) → r < 2 ^ w → rem w m (bit_xor (clmul q m) r) ≡ r

-- The product modulo m: a commutative ring on the numbers below 2^w, and all laws but that of 1 hold of every number.
pub record ModularLaws (w m : ℕ) (monic : Monic w m) : Type 0 where
  pub small : (a b : ℕ) → mul_mod w m a b < 2 ^ w
  pub distributes : (a b c : ℕ) → mul_mod w m a (bit_xor b c) ≡ bit_xor (mul_mod w m a b) (mul_mod w m a c)
  pub commutes : (a b : ℕ) → mul_mod w m a b ≡ mul_mod w m b a
  pub associates : (a b c : ℕ) → mul_mod w m (mul_mod w m a b) c ≡ mul_mod w m a (mul_mod w m b c)
  pub unit : (a : ℕ) → a < 2 ^ w → mul_mod w m a 1 ≡ a
