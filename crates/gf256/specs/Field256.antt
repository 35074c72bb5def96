-- The byte field of FIPS 197 section 4. This is the one place that names its polynomial.
-- Assumes nothing.
use Rattle.std.specs.Prelude.{◌≡◌, ℕ, ◌<◌}
use Rattle.std.specs.Int.Bits.{bit_xor}
use Rattle.poly2.specs.Poly2.{mul_mod}
use Rattle.algebra.specs.Field.{Ops, Laws, power}

-- x^8 + x^4 + x^3 + x + 1
abbrev pub modulus : ℕ
modulus = 0x11b

-- the product: that of the polynomials, reduced
unfoldable pub mul256 : ℕ → ℕ → ℕ
mul256 a b = mul_mod 8 modulus a b

-- the inverse: the 254th power, so that 0 is given for 0
unfoldable pub inv256 : ℕ → ℕ
inv256 a = power mul256 a 254

abbrev pub gf256 : Ops
gf256 = record { size = 256; add = bit_xor; mul = mul256; inv = inv256 }

-- Bytes are a field, in which a byte has no other inverse than `inv256` gives; 0 has none, and 0 stands in for it.
pub record Field256 : Type 0 where
  pub laws : Laws gf256
  pub inverse_only : (a b : ℕ) → a < 256 → b < 256 → mul256 a b ≡ 1 → b ≡ inv256 a
  pub zero_has_none : (b : ℕ) → mul256 0 b ≡ 0
  pub inverse_of_zero : inv256 0 ≡ 0
