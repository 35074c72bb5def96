-- A secret of many elements, each shared by a polynomial of its own (document 01). Assumes nothing.
use Rattle.std.specs.Prelude.{List, [], ◌∷◌, ◌++◌, map, ℕ, zero, suc, take, drop, get_or}
use Rattle.algebra.specs.Field.{Ops}
use Rattle.shamir.specs.Polynomial.{value, interpolate}

-- element i of each row
abbrev pub column : ℕ → List (List ℕ) → List ℕ
column i rows = map (λ r. get_or r i 0) rows

module _ (F : Ops) where
  -- the values of document 01's row at x: each element s of the secret takes the next k = t - 1 coefficients
  abbrev pub row : ℕ → ℕ → List ℕ → List ℕ → List ℕ
  row k x [] cs = []
  row k x (s ∷ ss) cs = value F (s ∷ take k cs) x ∷ row k x ss (drop k cs)

  -- document 01's combine, there at z = 0: element i of l is interpolated from element i of every row
  abbrev pub combined : ℕ → List ℕ → List (List ℕ) → ℕ → List ℕ
  combined z xs rows zero = []
  combined z xs rows (suc i) = combined z xs rows i ++ interpolate F z xs (column i rows) ∷ []
