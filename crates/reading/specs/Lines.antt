-- What the lines of a sheet say: three numbers in range, and rows.
-- Assumes nothing.
use Rattle.std.specs.Prelude.{◌≡◌, List, ℕ, ◌+◌, ◌<◌, ◌≤◌, length, get_or}
use Rattle.shamir.specs.Lists.{All, Below, Distinct}
use Rattle.rows.specs.Storage.{identifiers}
use Rattle.row_set.specs.Limits.{max_shares, max_secret}

-- threshold, row count and L of a first line
pub record Head (t m l : ℕ) : Type 0 where
  pub threshold_least : 2 ≤ t
  pub threshold_most : t ≤ max_shares
  pub some_rows : 1 ≤ m
  pub rows_most : m ≤ max_shares
  pub some_values : 1 ≤ l
  pub values_most : l ≤ max_secret

-- a row of a sheet with l values a row
pub record Row (l : ℕ) (row : List ℕ) : Type 0 where
  pub long : length row ≡ l + 1
  pub bytes : Below 256 row
  pub nonzero : 0 < get_or row 0 0

-- rows of l values each, with different identifiers
pub record Rows (l : ℕ) (rows : List (List ℕ)) : Type 0 where
  pub each : All (Row l) rows
  pub distinct : Distinct (identifiers rows)
