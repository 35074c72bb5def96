-- What the program shows of a text: document 02, §2. Of a sheet its row lines as they stand, of any other text the number 14.
-- Assumes nothing.
use Rattle.std.specs.Prelude.{◌≡◌, List, ℕ, Result, Ok, Err, ◌≤◌, length, drop}
use Rattle.sheets.specs.Sheet.{row_lines}
use Rattle.reading.specs.Reading.{IsSheet}
use Rattle.reading.specs.Unsheet.{SheetOf}

-- from this place on stand the lines of the rows of which the text is a sheet, and nothing else
pub record RowLinesFrom (text : List ℕ) (at : ℕ) : Type 0 where
  pub threshold : ℕ
  pub values : ℕ
  pub rows : List (List ℕ)
  pub is_sheet : SheetOf threshold values rows text
  pub inside : at ≤ length text
  pub lines : drop at text ≡ row_lines rows

-- what is shown of a text is all from such a place on, or else a number
abbrev pub ShowsRight : List ℕ → Result (List ℕ) ℕ → Type 0
ShowsRight text (Ok shown) = (at : ℕ) × RowLinesFrom text at × (shown ≡ drop at text)
ShowsRight text (Err n) = (n ≡ 14) × (IsSheet text → ⊥)
