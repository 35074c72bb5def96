-- How the code reads a text: what the text begins with, and the rest behind it. Each piece has two definitions, for a reading that gives
-- something and for one that gives nothing: what is given stands there, and where something stands, that is given.
-- Assumes nothing.
use Rattle.std.specs.Prelude.{◌≡◌, Bool, ◌&&◌, ◌||◌, List, [], ◌∷◌, ◌++◌, ℕ, ◌<◌, ◌≤◌, leb, length, get_or, drop}
use Rattle.rows.specs.Storage.{laid}
use Rattle.row_set.specs.Limits.{max_shares}
use Rattle.sheets.specs.ReadAs.{IsDigit}
use Rattle.sheets.specs.Text.{tab, decimal}
use Rattle.sheets.specs.Sheet.{row_word, head_line, row_line, row_lines}
use Rattle.reading.specs.Lines.{Head, Row, Rows}

-- ---- pieces of a line

-- the text begins with the number n, which is below 100,000; where it begins with such a number and no further digit, that is n
pub record NumberRead (text : List ℕ) (n : ℕ) (rest : List ℕ) : Type 0 where
  pub small : n < 100000
  pub stands : text ≡ decimal n ++ rest
  pub only : (m c : ℕ) (others : List ℕ) → m < 100000 → (IsDigit c → ⊥) → text ≡ decimal m ++ c ∷ others → n ≡ m

-- it begins with no such number
abbrev pub NoNumber : List ℕ → Type 0
NoNumber text = (m c : ℕ) (others : List ℕ) → m < 100000 → (IsDigit c → ⊥) → text ≡ decimal m ++ c ∷ others → ⊥

-- the text begins with a tab and the number n, from least to most; where it begins with such a field and no further digit, that is n's
pub record FieldRead (text : List ℕ) (least most n : ℕ) (rest : List ℕ) : Type 0 where
  pub low : least ≤ n
  pub high : n ≤ most
  pub stands : text ≡ tab ∷ (decimal n ++ rest)
  pub only : (m c : ℕ) (others : List ℕ) → least ≤ m → m ≤ most → (IsDigit c → ⊥) → text ≡ tab ∷ (decimal m ++ c ∷ others) → n ≡ m

abbrev pub NoField : List ℕ → ℕ → ℕ → Type 0
NoField text least most = (m c : ℕ) (others : List ℕ) → least ≤ m → m ≤ most → (IsDigit c → ⊥) → text ≡ tab ∷ (decimal m ++ c ∷ others) → ⊥

-- whether a character is a digit of lower-case hex
abbrev pub is_hex_digit : ℕ → Bool
is_hex_digit c = leb 48 c && leb c 57 || leb 97 c && leb c 102

-- ---- lines

-- the text begins with the first line of these numbers
pub record HeadRead (text : List ℕ) (t m l : ℕ) (rest : List ℕ) : Type 0 where
  pub numbers : Head t m l
  pub stands : text ≡ head_line t m l ++ rest

-- a row's line up to its values
abbrev pub row_start : ℕ → List ℕ
row_start id = row_word ++ tab ∷ (decimal id ++ (tab ∷ []))

-- the text begins with the start of a row that has the identifier id, and with no other
pub record StartRead (text : List ℕ) (id : ℕ) (rest : List ℕ) : Type 0 where
  pub low : 1 ≤ id
  pub high : id ≤ max_shares
  pub stands : text ≡ row_start id ++ rest
  pub only : (m : ℕ) (others : List ℕ) → 1 ≤ m → m ≤ max_shares → text ≡ row_start m ++ others → id ≡ m

abbrev pub NoStart : List ℕ → Type 0
NoStart text = (m : ℕ) (others : List ℕ) → 1 ≤ m → m ≤ max_shares → text ≡ row_start m ++ others → ⊥

-- the text begins with the line of a row that has l values and the identifier id
pub record RowRead (text : List ℕ) (l id : ℕ) (rest : List ℕ) : Type 0 where
  pub row : List ℕ
  pub is_row : Row l row
  pub identifier : get_or row 0 0 ≡ id
  pub stands : text ≡ row_line row ++ rest

abbrev pub NoRow : List ℕ → ℕ → Type 0
NoRow text l = (row rest : List ℕ) → Row l row → text ≡ row_line row ++ rest → ⊥

-- the text is the lines of these rows, m with l values each
pub record RowsStand (text : List ℕ) (m l : ℕ) (rows : List (List ℕ)) : Type 0 where
  pub are_rows : Rows l rows
  pub count : length rows ≡ m
  pub stand : text ≡ row_lines rows

abbrev pub SomeRows : List ℕ → ℕ → ℕ → Type 0
SomeRows text m l = (rows : List (List ℕ)) × RowsStand text m l rows

-- ---- what is taken from lines that stand there

abbrev pub SomeRow : List ℕ → ℕ → Type 0
SomeRow text l = (row : List ℕ) × (rest : List ℕ) × Row l row × (text ≡ row_line row ++ rest)

-- left is the row, and rest stands behind its line
pub record TakesRow (text : List ℕ) (l : ℕ) (left rest : List ℕ) : Type 0 where
  pub takes : (row others : List ℕ) → Row l row → text ≡ row_line row ++ others → (left ≡ row) × (rest ≡ others)

-- the rows, and behind them what stood in the output
pub record TakesRows (text : List ℕ) (m l : ℕ) (out left : List ℕ) : Type 0 where
  pub takes : (rows : List (List ℕ)) → RowsStand text m l rows → left ≡ laid rows ++ drop (length (laid rows)) out
