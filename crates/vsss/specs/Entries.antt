-- What the entries promise, under names that the exports' contracts and the theorems about them share.
-- Assumes nothing.
use Rattle.std.specs.Prelude.{List, ℕ, length}
use Rattle.sharing.specs.Split.{split_outcome, split_bytes}
use Rattle.sharing.specs.ByteLengths.{byte_lengths_answer, byte_lengths_bytes}
use Rattle.sheets.specs.Sheet.{sheet_answer, sheet_bytes}
use Rattle.vsss.specs.Words.{Gives}

-- vsss_split_bytes: the word that comes back, and what the output holds then
abbrev pub SplitGives : ℕ → ℕ → List ℕ → List ℕ → List ℕ → List ℕ → ℕ → List ℕ → Type 0
SplitGives t n secret ids coefficients out word left =
    Gives (split_outcome t n (length secret) ids (length coefficients) (length out)) (split_bytes t n secret ids coefficients out) word left

-- vsss_combine_bytes: the same, for rows one after another and their lengths as bytes
abbrev pub CombineGives : List ℕ → List ℕ → List ℕ → ℕ → List ℕ → Type 0
CombineGives rows lengths out word left = Gives (byte_lengths_answer rows lengths (length out)) (byte_lengths_bytes rows lengths out) word left

-- vsss_write_sheet: the same, for the sheet of these rows
abbrev pub SheetGives : ℕ → List ℕ → List ℕ → List ℕ → ℕ → List ℕ → Type 0
SheetGives t rows lengths out word left = Gives (sheet_answer t rows lengths (length out)) (sheet_bytes t rows lengths out) word left
