-- Combine where the row lengths come as bytes, four a row, as they do from the host (document 01, what must change shape).
-- Assumes nothing.
use Rattle.std.specs.Prelude.{◌≡◌, cond, List, ℕ, length}
use Rattle.answer.specs.Outcome.{Outcome, refused, refuse}
use Rattle.rows.specs.Lengths.{lengths_of}
use Rattle.row_set.specs.RowSet.{unreadable}
use Rattle.sharing.specs.Combine.{combine_answer, combine_bytes}

-- of the rows s with these lengths, and an output of so much room
unfoldable pub byte_lengths_answer : List ℕ → List ℕ → ℕ → Outcome
byte_lengths_answer s bytes room = refuse (unreadable bytes) (refused 13 0 0) (combine_answer s (lengths_of bytes) room)

unfoldable pub byte_lengths_bytes : List ℕ → List ℕ → List ℕ → List ℕ
byte_lengths_bytes s bytes out = cond (unreadable bytes) out (combine_bytes s (lengths_of bytes) out)

-- the promise
pub record CombinesByByteLengths (s bytes out : List ℕ) (answer : Outcome) (left : List ℕ) : Type 0 where
  pub answers : answer ≡ byte_lengths_answer s bytes (length out)
  pub leaves : left ≡ byte_lengths_bytes s bytes out
