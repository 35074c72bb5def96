-- What document 02, §2, says of the reader's answer: which texts it accepts, and that reading and writing undo each other. Beside that,
-- what the promise of the reader leaves open, which is nothing.
-- Assumes nothing.
use Rattle.std.specs.Prelude.{◌≡◌, List, ◌++◌, ◌⊎◌, ℕ, Result, ◌+◌, ◌/◌, ◌<◌, ◌≤◌, length, get_or, take, drop, replicate}
use Rattle.answer.specs.Outcome.{done, refused}
use Rattle.answer.specs.Answers.{answer_of}
use Rattle.answer.specs.declared.Reason.{Reason}
use Rattle.shamir.specs.Lists.{Below}
use Rattle.rows.specs.Lengths.{four_bytes, length_bytes, fours, lengths_of}
use Rattle.row_set.specs.RowSet.{secret_length}
use Rattle.sheets.specs.Sheet.{sheet_text, sheet_answer, sheet_bytes}
use Rattle.reading.specs.Reading.{IsSheet, RefusedAt}
use Rattle.reading.specs.Answer.{read_answer, read_head, read_rows, ReadsSheet}

-- 02's sentences on what is accepted, and on short room. A sheet is done with the bytes of its rows where the head has room for 12 bytes
-- and the output for the rows; it is 12 where either has not. Any other text is 14 with its line, whatever the rooms.
pub record Accepts : Type 0 where
  pub sheet :
      (text : List ℕ) (s : IsSheet text) (headRoom room : ℕ) → 12 ≤ headRoom → length s.storage ≤ room
      → read_answer text headRoom room ≡ done (length s.storage)
  pub short :
      (text : List ℕ) (s : IsSheet text) (headRoom room : ℕ) → (headRoom < 12) ⊎ (room < length s.storage)
      → read_answer text headRoom room ≡ refused 12 0 0
  pub other : (text : List ℕ) (k headRoom room : ℕ) → RefusedAt text k → read_answer text headRoom room ≡ refused 14 k 0

-- 02's word "exactly": each answer is given in its own case alone, and there are no others
pub record AcceptsOnly : Type 0 where
  pub sheet : (text : List ℕ) (headRoom room count : ℕ) → read_answer text headRoom room ≡ done count → IsSheet text
  pub short : (text : List ℕ) (headRoom room i j : ℕ) → read_answer text headRoom room ≡ refused 12 i j → IsSheet text
  pub other : (text : List ℕ) (headRoom room k j : ℕ) → read_answer text headRoom room ≡ refused 14 k j → RefusedAt text k × (j ≡ 0)
  pub numbers : (text : List ℕ) (headRoom room number i j : ℕ) → read_answer text headRoom room ≡ refused number i j → (number ≡ 12) ⊎ (number ≡ 14)

-- What is read from the sheet of the rows s for threshold t: these rows, and a head of the threshold, the count of rows and L. Behind
-- both stands what stood there.
pub record ReadsWritten (t : ℕ) (s lengths head out : List ℕ) : Type 0 where
  pub answers : read_answer (sheet_text t s lengths) (length head) (length out) ≡ done (length s)
  pub rows_are : read_rows (sheet_text t s lengths) head out ≡ s ++ drop (length s) out
  pub head-is :
      read_head (sheet_text t s lengths) head out
      ≡ four_bytes t ++ four_bytes (length lengths / 4) ++ four_bytes (secret_length (lengths_of lengths)) ++ drop 12 head
  -- the row lengths follow from the head's numbers
  pub lengths_are : length_bytes (replicate (length lengths / 4) (secret_length (lengths_of lengths) + 1)) ≡ lengths

-- 02's sentence on the way there and back, its first half: an accepted call of the writer on bytes, read in enough room, gives the same
-- rows and threshold.
abbrev pub WrittenThenRead : Type 0
WrittenThenRead =
    (t : ℕ) (s lengths head out : List ℕ) (room count : ℕ) → Below 256 s → Below 256 lengths → sheet_answer t s lengths room ≡ done count
    → 12 ≤ length head → length s ≤ length out → ReadsWritten t s lengths head out

-- This call of the writer writes this text wherever there is room for it.
pub record WritesText (t : ℕ) (rows lengths text : List ℕ) : Type 0 where
  pub text_is : sheet_text t rows lengths ≡ text
  pub answers : (room : ℕ) → length text ≤ room → sheet_answer t rows lengths room ≡ done (length text)
  pub leaves : (out : List ℕ) → length text ≤ length out → sheet_bytes t rows lengths out ≡ text ++ drop (length text) out

-- the numbers that the first twelve bytes of a head hold
abbrev pub number_in : List ℕ → ℕ → ℕ
number_in head i = get_or (fours 3 head) i 0

-- .. and its second half: what was read, threshold, rows and lengths as the head says, is written as the text that was read.
abbrev pub ReadThenWritten : Type 0
ReadThenWritten =
    (text head out : List ℕ) (count : ℕ) → read_answer text (length head) (length out) ≡ done count
    → let number = number_in (read_head text head out) in
    WritesText (number 0) (take count (read_rows text head out)) (length_bytes (replicate (number 1) (number 2 + 1))) text

-- 01's sentence that no lent byte changes where a call is refused
abbrev pub Untouched : Type 0
Untouched =
    (text head out : List ℕ) (number i j : ℕ) → read_answer text (length head) (length out) ≡ refused number i j
    → (read_head text head out ≡ head) × (read_rows text head out ≡ out)

-- Determined: two answers and memories that the promise allows for one call are the same.
abbrev pub Determined : Type 0
Determined =
    (text head out : List ℕ) (a b : Result ℕ Reason) (head-a left-a head-b left-b : List ℕ)
    → ReadsSheet text head out (answer_of a) head-a left-a → ReadsSheet text head out (answer_of b) head-b left-b
    → (a ≡ b) × (head-a ≡ head-b) × (left-a ≡ left-b)
