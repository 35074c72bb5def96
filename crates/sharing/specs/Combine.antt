-- Combine, as document 01 has it: which answer it gives, and the bytes that it leaves.
-- Assumes nothing.
use Rattle.std.specs.Prelude.{◌≡◌, List, ℕ, ◌+◌, ltb, length, replicate}
use Rattle.answer.specs.Outcome.{Outcome, done, refused, refuse}
use Rattle.shamir.specs.Rows.{combined}
use Rattle.gf256.specs.Field256.{gf256}
use Rattle.strides.specs.Strides.{strided}
use Rattle.rows.specs.Storage.{cut, identifiers, values}
use Rattle.row_set.specs.Limits.{at_exit}
use Rattle.row_set.specs.RowSet.{secret_length, judged}

-- the answer for so many stored bytes, these row lengths, these identifiers and so much room: two rows are enough
unfoldable pub combine_outcome : ℕ → List ℕ → List ℕ → ℕ → Outcome
combine_outcome stored lengths ids room =
    judged 2 stored lengths ids
    (refuse (ltb room (secret_length lengths)) (refused 12 0 0)
    (done (secret_length lengths)))

-- of the rows s with these lengths, and an output of so much room
abbrev pub combine_answer : List ℕ → List ℕ → ℕ → Outcome
combine_answer s lengths room = combine_outcome (length s) lengths (identifiers (cut lengths s)) room

-- the rows are points of a polynomial a byte, with as many coefficients as there are rows, and the secret is what it is at 0
unfoldable pub combine_bytes : List ℕ → List ℕ → List ℕ → List ℕ
combine_bytes s lengths out =
    let rows = cut lengths s in
    at_exit (combine_answer s lengths (length out)) (combined gf256 0 (identifiers rows) (values rows) (secret_length lengths)) out

-- what is left for m accepted rows of l values each: the room for the secret
pub record CombinesAccepted (l m : ℕ) (s out : List ℕ) (answer : Outcome) (left : List ℕ) : Type 0 where
  pub answers : answer ≡ refuse (ltb (length out) l) (refused 12 0 0) (done l)
  pub leaves : left ≡ at_exit answer (combined gf256 0 (strided (l + 1) 0 m s) (values (cut (replicate m (l + 1)) s)) l) out

-- the promise of combine
pub record Combines (s lengths out : List ℕ) (answer : Outcome) (left : List ℕ) : Type 0 where
  pub answers : answer ≡ combine_answer s lengths (length out)
  pub leaves : left ≡ combine_bytes s lengths out
