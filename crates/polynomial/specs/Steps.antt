-- What the inner loops of an evaluation leave, number by number.
-- Assumes nothing.
use Rattle.std.specs.Prelude.{List, [], ◌∷◌, ℕ, zero, suc, length, get_or}
use Rattle.std.specs.Int.Bits.{bit_xor}
use Rattle.gf256.specs.Field256.{mul256}

-- f 0, f 1, .., f (n - 1)
abbrev pub each : ℕ → (ℕ → ℕ) → List ℕ
each zero f = []
each (suc n) f = f 0 ∷ each n (λ i. f (suc i))

-- one step of Horner's rule for each value: times x, plus the number at its place in cs
abbrev pub horner_step : ℕ → List ℕ → List ℕ → List ℕ
horner_step x vs cs = each (length vs) (λ i. bit_xor (mul256 (get_or vs i 0) x) (get_or cs i 0))

-- the most bytes that are evaluated at once
abbrev pub block_size : ℕ
block_size = 64
