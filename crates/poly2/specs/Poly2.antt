-- Polynomials over the field of two elements, as FIPS 197 section 4 writes them: a number stands for the polynomial whose
-- coefficient at x^i is its binary digit at place i. The sum is `bit_xor`.
-- Assumes nothing.
use Rattle.std.specs.Prelude.{ℕ, zero, suc, ◌+◌, ◌*◌, ◌/◌, ◌%◌, ◌^◌}
use Rattle.std.specs.Int.Bits.{bit_xor}

-- A walk through the binary digits of a, highest first, that starts at 0: with the next digit d, s becomes `step s d`.
-- `digits` takes beside a a number that a is not above, as the bound of its recursion.
module _ (step : ℕ → ℕ → ℕ) where
  abbrev pub digits : ℕ → ℕ → ℕ
  digits zero a = zero
  digits (suc n) zero = zero
  digits (suc n) (suc a) = step (digits n (suc a / 2)) (suc a % 2)

  abbrev pub fold : ℕ → ℕ
  fold a = digits a a

-- The product: the schoolbook product in base two, but with no carries.
unfoldable pub clmul : ℕ → ℕ → ℕ
clmul a b = fold (λ s d. bit_xor (d * b) (s * 2)) a

-- A step of long division by m, of degree w: where t reaches that degree, m is taken away.
unfoldable pub reduce : ℕ → ℕ → ℕ → ℕ
reduce w m t = bit_xor (clmul (t / 2 ^ w) m) t

-- The remainder by m, of degree w: long division.
unfoldable pub rem : ℕ → ℕ → ℕ → ℕ
rem w m a = fold (λ s d. reduce w m (s * 2 + d)) a

-- The product modulo m, of degree w.
unfoldable pub mul_mod : ℕ → ℕ → ℕ → ℕ → ℕ
mul_mod w m a b = rem w m (clmul a b)
