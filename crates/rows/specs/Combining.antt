-- What the code asks of rows before it combines them, and how it sums them.
-- Assumes nothing.
use mathlib.Core.List.{List, [], ◌∷◌, zip_with}
use Rattle.std.specs.Prelude.{ℕ, ◌*◌, ◌≤◌, length, drop}
use Rattle.std.specs.Int.Bits.{bit_xor}
use Rattle.gf256.specs.Field256.{mul256}
use Rattle.rows.specs.Search.{first_zero, first_repeated}
use Rattle.strides.specs.Strides.{strided}

-- s holds m rows of w elements, and no identifier of them is zero or stands twice
pub record Ready (w m : ℕ) (s : List ℕ) : Type 0 where
  pub stored : m * w ≤ length s
  pub nonzero : m ≤ first_zero (strided w 0 m s)
  pub distinct : m ≤ first_repeated (strided w 0 m s)

-- to each sum so far the value at its place times c
abbrev pub plus_times : ℕ → List ℕ → List ℕ → List ℕ
plus_times c sums row = zip_with (λ o v. bit_xor o (mul256 v c)) sums row

-- the rows of w elements in s in turn, each with its coefficient
abbrev pub plus_rows : ℕ → List ℕ → List ℕ → List ℕ → List ℕ
plus_rows w [] s sums = sums
plus_rows w (c ∷ cs) s sums = plus_rows w cs (drop w s) (plus_times c sums (drop 1 s))
