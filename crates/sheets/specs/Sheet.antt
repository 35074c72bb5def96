-- The sheet of a set of rows, which answer its writer gives, and the bytes that it leaves: document 02, §1.
-- Assumes nothing.
use Rattle.std.specs.Prelude.{◌≡◌, List, [], ◌∷◌, ◌++◌, ℕ, ◌+◌, ltb, length, get_or, drop, replicate}
use Rattle.answer.specs.Outcome.{Outcome, done, refused, refuse}
use Rattle.rows.specs.Storage.{cut}
use Rattle.rows.specs.Lengths.{lengths_of}
use Rattle.row_set.specs.Limits.{max_shares, at_exit}
use Rattle.row_set.specs.RowSet.{secret_length, judged_byte_lengths}
use Rattle.sheets.specs.Text.{decimal, hex, line}

-- `seal` and `row`
abbrev pub seal_word : List ℕ
seal_word = 115 ∷ 101 ∷ 97 ∷ 108 ∷ []

abbrev pub row_word : List ℕ
row_word = 114 ∷ 111 ∷ 119 ∷ []

-- the first line: threshold, row count, L
abbrev pub head_line : ℕ → ℕ → ℕ → List ℕ
head_line t m l = line (seal_word ∷ decimal t ∷ decimal m ∷ decimal l ∷ [])

-- a row's line: its identifier, and its values
abbrev pub row_line : List ℕ → List ℕ
row_line row = line (row_word ∷ decimal (get_or row 0 0) ∷ hex (drop 1 row) ∷ [])

abbrev pub row_lines : List (List ℕ) → List ℕ
row_lines [] = []
row_lines (row ∷ rows) = row_line row ++ row_lines rows

-- the sheet for threshold t of these rows, with l values each
unfoldable pub sheet : ℕ → ℕ → List (List ℕ) → List ℕ
sheet t l rows = head_line t (length rows) l ++ row_lines rows

-- of the rows s with lengths that come as bytes
abbrev pub sheet_text : ℕ → List ℕ → List ℕ → List ℕ
sheet_text t s bytes = sheet t (secret_length (lengths_of bytes)) (cut (lengths_of bytes) s)

-- what is asked of the threshold, and of the room for so many bytes
abbrev pub judged_threshold : ℕ → ℕ → ℕ → Outcome
judged_threshold t room count =
    refuse (ltb t 2) (refused 4 0 0)
    (refuse (ltb max_shares t) (refused 1 0 0)
    (refuse (ltb room count) (refused 12 0 0)
    (done count)))

-- the answer for an output of so much room: before that the checks of rows, of which one is enough
unfoldable pub sheet_answer : ℕ → List ℕ → List ℕ → ℕ → Outcome
sheet_answer t s bytes room = judged_byte_lengths 1 s bytes (judged_threshold t room (length (sheet_text t s bytes)))

unfoldable pub sheet_bytes : ℕ → List ℕ → List ℕ → List ℕ → List ℕ
sheet_bytes t s bytes out = at_exit (sheet_answer t s bytes (length out)) (sheet_text t s bytes) out

-- what is left for m accepted rows of l values each
pub record WritesAccepted (t m l : ℕ) (s out : List ℕ) (answer : Outcome) (left : List ℕ) : Type 0 where
  pub answers :
      answer
      ≡ judged_threshold t (length out) (length (sheet t l (cut (replicate m (l + 1)) s)))
  pub leaves : left ≡ at_exit answer (sheet t l (cut (replicate m (l + 1)) s)) out

-- the promise of the writer
pub record WritesSheet (t : ℕ) (s bytes out : List ℕ) (answer : Outcome) (left : List ℕ) : Type 0 where
  pub answers : answer ≡ sheet_answer t s bytes (length out)
  pub leaves : left ≡ sheet_bytes t s bytes out
