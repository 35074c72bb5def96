-- Rows in flat storage: one after another, each its identifier and then its values.
-- Assumes nothing.
use Rattle.std.specs.Prelude.{List, [], ◌∷◌, ◌++◌, map, ℕ, take, drop}
use Rattle.shamir.specs.Rows.{column}

-- the storage cut into rows of these lengths
abbrev pub cut : List ℕ → List ℕ → List (List ℕ)
cut [] s = []
cut (n ∷ ns) s = take n s ∷ cut ns (drop n s)

-- rows laid together
abbrev pub laid : List (List ℕ) → List ℕ
laid [] = []
laid (row ∷ rows) = row ++ laid rows

abbrev pub identifiers : List (List ℕ) → List ℕ
identifiers rows = column 0 rows

-- the part of each row after its identifier
abbrev pub values : List (List ℕ) → List (List ℕ)
values rows = map (drop 1) rows
