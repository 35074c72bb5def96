-- Rows that lie one after another, and their identifiers.
-- Assumes nothing.
use Rattle.std.specs.Prelude.{List, ℕ, replicate}
use Rattle.strides.specs.Strides.{strided}
use Rattle.rows.specs.Storage.{cut}
use Rattle.rows.specs.declared.Rows.{Rows}

-- the first byte of each row
abbrev pub row_ids : Rows → List ℕ
row_ids rows = strided rows.width 0 rows.count rows.bytes.now

-- the rows one by one
abbrev pub row_list : Rows → List (List ℕ)
row_list rows = cut (replicate rows.count rows.width) rows.bytes.now
