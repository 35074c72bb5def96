-- What the promise of the sheet writer leaves open, which is nothing; that its text tells what was written; and document 02's
-- example.
-- Assumes nothing.
use Rattle.std.specs.Prelude.{◌≡◌, List, [], ◌∷◌, ℕ, Result, length, get_or, replicate}
use Rattle.answer.specs.Outcome.{done}
use Rattle.answer.specs.Answers.{answer_of}
use Rattle.answer.specs.declared.Reason.{Reason}
use Rattle.shamir.specs.Lists.{Below}
use Rattle.rows.specs.Storage.{cut, identifiers}
use Rattle.rows.specs.Lengths.{lengths_of}
use Rattle.sheets.specs.Text.{digit, decimal}
use Rattle.sheets.specs.Sheet.{sheet_text, sheet_answer, sheet_bytes, WritesSheet}
use Rattle.sheets.specs.ReadAs.{value}

-- Determined: two answers and outputs that the promise allows for one call are the same.
abbrev pub Determined : Type 0
Determined =
    (t : ℕ) (s bytes out : List ℕ) (a b : Result ℕ Reason) (left right : List ℕ)
    → WritesSheet t s bytes out (answer_of a) left → WritesSheet t s bytes out (answer_of b) right → (a ≡ b) × (left ≡ right)

-- Independent: the answer is the same for two calls that agree on the threshold, the lengths, the identifiers and the room.
abbrev pub Independent : Type 0
Independent =
    (t : ℕ) (s s' bytes : List ℕ) (room : ℕ) → length s ≡ length s'
    → identifiers (cut (lengths_of bytes) s) ≡ identifiers (cut (lengths_of bytes) s') → sheet_answer t s bytes room ≡ sheet_answer t s' bytes room

-- Told apart: two accepted calls whose sheets are the same have the same threshold, rows and lengths.
abbrev pub ToldApart : Type 0
ToldApart =
    (t u : ℕ) (s bytes z others : List ℕ) (room space m n : ℕ) → Below 256 s → Below 256 bytes → Below 256 z → Below 256 others
    → sheet_answer t s bytes room ≡ done m → sheet_answer u z others space ≡ done n
    → sheet_text t s bytes ≡ sheet_text u z others → (t ≡ u) × (s ≡ z) × (bytes ≡ others)

-- Numbers are written right: the digits have the number's value, and 0 alone begins with the digit 0.
pub record DecimalRight : Type 0 where
  pub valued : (n : ℕ) → value (decimal n) ≡ n
  pub no_leading_zero : (n : ℕ) → get_or (decimal n) 0 0 ≡ digit 0 → n ≡ 0

-- §1's example: the three rows of document 01's case G, with threshold 2. Line by line: `seal 2 3 1`, `row 1 2f`, `row 2 20`,
-- `row 3 25`, with tabs for the blanks.
abbrev pub rows_g : List ℕ
rows_g = 0x01 ∷ 0x2f ∷ 0x02 ∷ 0x20 ∷ 0x03 ∷ 0x25 ∷ []

abbrev pub lengths_g : List ℕ
lengths_g = 2 ∷ 0 ∷ 0 ∷ 0 ∷ 2 ∷ 0 ∷ 0 ∷ 0 ∷ 2 ∷ 0 ∷ 0 ∷ 0 ∷ []

abbrev pub sheet_g : List ℕ
sheet_g =
    115 ∷ 101 ∷ 97 ∷ 108 ∷ 9 ∷ 50 ∷ 9 ∷ 51 ∷ 9 ∷ 49 ∷ 10
    ∷ 114 ∷ 111 ∷ 119 ∷ 9 ∷ 49 ∷ 9 ∷ 50 ∷ 102 ∷ 10
    ∷ 114 ∷ 111 ∷ 119 ∷ 9 ∷ 50 ∷ 9 ∷ 50 ∷ 48 ∷ 10
    ∷ 114 ∷ 111 ∷ 119 ∷ 9 ∷ 51 ∷ 9 ∷ 50 ∷ 53 ∷ 10
    ∷ []

pub record CaseG : Type 0 where
  pub text : sheet_text 2 rows_g lengths_g ≡ sheet_g
  pub answer : sheet_answer 2 rows_g lengths_g 38 ≡ done 38
  pub bytes : sheet_bytes 2 rows_g lengths_g (replicate 38 0) ≡ sheet_g
