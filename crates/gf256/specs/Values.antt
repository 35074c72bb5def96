-- The worked examples of FIPS 197 section 4, beside what our definitions compute.
-- Assumes nothing.
use Rattle.std.specs.Prelude.{◌≡◌, List, [], ◌∷◌, map, ℕ}
use Rattle.std.specs.Int.Bits.{bit_xor}
use Rattle.gf256.specs.Field256.{mul256}

-- What is computed, and what the document states.
pub record Case : Type 0 where
  pub computed : ℕ
  pub stated : ℕ

infix 30 ◌is◌
abbrev pub ◌is◌ : ℕ → ℕ → Case
a is b = record { computed = a; stated = b }

-- The two columns of the table are the same.
abbrev pub Hold : List Case → Type 0
Hold cases = map (λ c. c.computed) cases ≡ map (λ c. c.stated) cases

-- FIPS 197, sections 4.1 and 4.2: the sum, the product, the doublings of 57 and the product that they give.
abbrev pub fips : List Case
fips =
    (bit_xor 0x57 0x83 is 0xd4)
    ∷ (mul256 0x57 0x83 is 0xc1)
    ∷ (mul256 0x57 0x02 is 0xae)
    ∷ (mul256 0xae 0x02 is 0x47)
    ∷ (mul256 0x47 0x02 is 0x8e)
    ∷ (mul256 0x8e 0x02 is 0x07)
    ∷ (mul256 0x57 0x04 is 0x47)
    ∷ (mul256 0x57 0x08 is 0x8e)
    ∷ (mul256 0x57 0x10 is 0x07)
    ∷ (bit_xor 0x57 (bit_xor 0xae 0x07) is 0xfe)
    ∷ (mul256 0x57 0x13 is 0xfe)
    ∷ []

-- The coefficient at x^k of a product modulo x^4 + 1, as section 4.3 sums it.
abbrev sum4 : ℕ → ℕ → ℕ → ℕ → ℕ
sum4 a b c d = bit_xor a (bit_xor b (bit_xor c d))

-- Section 4.3: 03 x^3 + 01 x^2 + 01 x + 02 and 0b x^3 + 0d x^2 + 09 x + 0e are inverse modulo x^4 + 1.
abbrev pub fips_inverses : List Case
fips_inverses =
    (sum4 (mul256 0x02 0x0e) (mul256 0x03 0x09) (mul256 0x01 0x0d) (mul256 0x01 0x0b) is 0x01)
    ∷ (sum4 (mul256 0x01 0x0e) (mul256 0x02 0x09) (mul256 0x03 0x0d) (mul256 0x01 0x0b) is 0x00)
    ∷ (sum4 (mul256 0x01 0x0e) (mul256 0x01 0x09) (mul256 0x02 0x0d) (mul256 0x03 0x0b) is 0x00)
    ∷ (sum4 (mul256 0x03 0x0e) (mul256 0x01 0x09) (mul256 0x01 0x0d) (mul256 0x02 0x0b) is 0x00)
    ∷ []

pub record Values : Type 0 where
  pub standard : Hold fips
  pub inverses : Hold fips_inverses
