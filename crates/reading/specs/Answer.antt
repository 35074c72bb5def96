-- Which answer the reader gives, and the bytes that it leaves: document 02, §2. The rows go into the output one after another, the numbers
-- of the first line into a memory of their own, the head.
-- Assumes nothing.
use Rattle.std.specs.Prelude.{◌≡◌, List, [], ◌++◌, ℕ, ltb, length, drop}
use Rattle.answer.specs.Outcome.{Outcome, done, refused, refuse}
use Rattle.rows.specs.Storage.{laid}
use Rattle.rows.specs.Lengths.{four_bytes}
use Rattle.reading.specs.Unsheet.{Read, sheet_of, not_at, unsheet}

-- threshold, row count and L, four bytes each, least first
abbrev pub head_of : Read → List ℕ
head_of (sheet_of t l rows) = four_bytes t ++ four_bytes (length rows) ++ four_bytes l
head_of (not_at k) = []

abbrev pub rows_of : Read → List ℕ
rows_of (sheet_of t l rows) = laid rows
rows_of (not_at k) = []

-- refusal 14 with its line where the text is no sheet; then 12 for either memory that is too short; done with the bytes of the rows
abbrev pub answer_to : Read → ℕ → ℕ → Outcome
answer_to (sheet_of t l rows) headRoom room =
    refuse (ltb headRoom (length (head_of (sheet_of t l rows)))) (refused 12 0 0)
    (refuse (ltb room (length (laid rows))) (refused 12 0 0)
    (done (length (laid rows))))
answer_to (not_at k) headRoom room = refused 14 k 0

-- done: these bytes, and behind them what stood there; refused: what stood there
abbrev pub left_in : Outcome → List ℕ → List ℕ → List ℕ
left_in (done count) bytes memory = bytes ++ drop (length bytes) memory
left_in (refused number first second) bytes memory = memory

unfoldable pub read_answer : List ℕ → ℕ → ℕ → Outcome
read_answer text headRoom room = answer_to (unsheet text) headRoom room

unfoldable pub read_head : List ℕ → List ℕ → List ℕ → List ℕ
read_head text head out = left_in (read_answer text (length head) (length out)) (head_of (unsheet text)) head

unfoldable pub read_rows : List ℕ → List ℕ → List ℕ → List ℕ
read_rows text head out = left_in (read_answer text (length head) (length out)) (rows_of (unsheet text)) out

-- the promise of the reader
pub record ReadsSheet (text head out : List ℕ) (answer : Outcome) (head-left left : List ℕ) : Type 0 where
  pub answers : answer ≡ read_answer text (length head) (length out)
  pub head_leaves : head-left ≡ read_head text head out
  pub leaves : left ≡ read_rows text head out
