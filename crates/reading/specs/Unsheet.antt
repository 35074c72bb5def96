-- What the reader finds in a text, line by line: document 02, §2. A line is right where what it is read as, written again, is that line.
-- Assumes nothing.
use Rattle.std.specs.Prelude.{◌≡◌, Bool, true, false, cond, not, ◌&&◌, ◌||◌, List, [], ◌∷◌, ◌++◌, map, ◌⊎◌, ℕ, zero, suc, ◌+◌, eqb, ltb, length, get_or}
use Rattle.rows.specs.Search.{place_of, within}
use Rattle.rows.specs.Storage.{cut, laid, identifiers}
use Rattle.rows.specs.Lengths.{lengths_of}
use Rattle.row_set.specs.Limits.{max_shares, max_secret}
use Rattle.row_set.specs.RowSet.{secret_length}
use Rattle.sheets.specs.ReadAs.{value, unhex}
use Rattle.sheets.specs.Text.{tab, line_feed}
use Rattle.sheets.specs.Sheet.{head_line, row_line, sheet}
use Rattle.reading.specs.Reading.{IsSheet, first_lines, RefusedAt}

-- ---- a line

-- field k of a line, counted from 0: a tab or a line feed ends a field
abbrev pub field_at : ℕ → List ℕ → List ℕ
field_at k [] = []
field_at zero (c ∷ text) =
    let longer = c ∷ field_at zero text in
    cond (eqb c tab || eqb c line_feed) [] longer
field_at (suc k) (c ∷ text) =
    let next = field_at k text in
    let same = field_at (suc k) text in
    cond (eqb c tab || eqb c line_feed) next same

-- the text behind its first line
abbrev pub after_line : List ℕ → List ℕ
after_line [] = []
after_line (c ∷ text) = let later = after_line text in cond (eqb c line_feed) text later

abbrev pub same : List ℕ → List ℕ → Bool
same [] [] = true
same [] (d ∷ other) = false
same (c ∷ text) [] = false
same (c ∷ text) (d ∷ other) = eqb c d && same text other

abbrev pub between : ℕ → ℕ → ℕ → Bool
between least most n = not (ltb n least) && not (ltb most n)

-- the first line: its three numbers are in range, and written again they are this line
abbrev pub right_head : ℕ → ℕ → ℕ → List ℕ → Bool
right_head t m l line = between 2 max_shares t && between 1 max_shares m && between 1 max_secret l && same line (head_line t m l)

-- the row of a line: its identifier and its values
abbrev pub row_of : List ℕ → List ℕ
row_of line = value (field_at 1 line) ∷ unhex (field_at 2 line)

abbrev pub all_below : ℕ → List ℕ → Bool
all_below n [] = true
all_below n (x ∷ xs) = ltb x n && all_below n xs

-- a row's line, behind rows with the identifiers ids: the row has l values, all of it is bytes, its identifier is neither 0 nor among
-- ids, and written again it is this line
abbrev pub right_row : ℕ → List ℕ → List ℕ → List ℕ → Bool
right_row l ids row line =
    eqb (length row) (l + 1) && all_below 256 row && ltb 0 (get_or row 0 0) && not (within (place_of (get_or row 0 0) ids) ids) && same line (row_line row)

-- ---- the text

-- a sheet for threshold t of rows with l values each, or a line at which it is none
pub data Read : Type 0 where
  sheet_of : (t l : ℕ) → List (List ℕ) → Read
  not_at : ℕ → Read

-- behind some rows: so many more, the first of them at line k, and then nothing
abbrev pub unrows : ℕ → ℕ → ℕ → ℕ → List (List ℕ) → List ℕ → Read
unrows t l zero k rows [] = sheet_of t l rows
unrows t l zero k rows (c ∷ text) = not_at k
unrows t l (suc left) k rows text =
    let line = first_lines 1 text in
    let row = row_of line in
    let later = unrows t l left (suc k) (rows ++ (row ∷ [])) (after_line text) in
    cond (right_row l (identifiers rows) row line) later (not_at k)

unfoldable pub unsheet : List ℕ → Read
unsheet text =
    let line = first_lines 1 text in
    let t = value (field_at 1 line) in
    let m = value (field_at 2 line) in
    let l = value (field_at 3 line) in
    let later = unrows t l m 1 [] (after_line text) in
    cond (right_head t m l line) later (not_at 0)

-- ---- that this is what the document says

-- a sheet of these rows, which the writer writes for them laid together and their lengths
pub record SheetOf (t l : ℕ) (rows : List (List ℕ)) (text : List ℕ) : Type 0 where
  pub is_sheet : IsSheet text
  pub threshold_is : is_sheet.threshold ≡ t
  pub rows_are : is_sheet.storage ≡ laid rows
  pub lengths_are : lengths_of is_sheet.lengths ≡ map length rows
  pub text_is : text ≡ sheet t l rows

-- what is found is a sheet, every sheet is found as it was written, and every other text is refused at the line that is found
pub record UnsheetRight : Type 0 where
  pub accepts : (text : List ℕ) (t l : ℕ) (rows : List (List ℕ)) → unsheet text ≡ sheet_of t l rows → SheetOf t l rows text
  pub finds :
      (text : List ℕ) (s : IsSheet text) → let ns = lengths_of s.lengths in
      (unsheet text ≡ sheet_of s.threshold (secret_length ns) (cut ns s.storage)) × (laid (cut ns s.storage) ≡ s.storage)
  pub refuses : (text : List ℕ) (k : ℕ) → unsheet text ≡ not_at k → RefusedAt text k

-- so that every text is a sheet or is refused at some line ..
abbrev pub EveryText : Type 0
EveryText = (text : List ℕ) → IsSheet text ⊎ ((k : ℕ) × RefusedAt text k)

-- .. and there is only one such line
abbrev pub OnlyLine : Type 0
OnlyLine = (text : List ℕ) (j k : ℕ) → RefusedAt text j → RefusedAt text k → j ≡ k
