-- What each answer of the code means in document 01: the number of its row in the table of refusals, and the places inside it.
-- Assumes nothing.
use Rattle.std.specs.Prelude.{◌≡◌, ℕ, Result, Ok, Err}
use Rattle.answer.specs.Outcome.{Outcome, done, refused}
use Rattle.answer.specs.declared.Reason.{Reason}
use Rattle.answer.specs.declared.Reason.TheVariants.{InvalidSizeRequest, InvalidSecret, SharingLimitLessThanThreshold, SharingMinThreshold, NotEnoughShareIdentifiers, SharingInvalidIdentifier, SharingDuplicateIdentifier, InvalidShare, InvalidShareElement, TooLong, CoefficientCount, NoRoom, RowLengths, InvalidSheet}

-- the rows of 01's table, in its order: 6 has one place, 7 has two; 14 is 02's, §2, and has its line
abbrev pub reason_of : Reason → Outcome
reason_of InvalidSizeRequest = refused 1 0 0
reason_of InvalidSecret = refused 2 0 0
reason_of SharingLimitLessThanThreshold = refused 3 0 0
reason_of SharingMinThreshold = refused 4 0 0
reason_of NotEnoughShareIdentifiers = refused 5 0 0
reason_of (SharingInvalidIdentifier i) = refused 6 i 0
reason_of (SharingDuplicateIdentifier i j) = refused 7 i j
reason_of InvalidShare = refused 8 0 0
reason_of InvalidShareElement = refused 9 0 0
reason_of TooLong = refused 10 0 0
reason_of CoefficientCount = refused 11 0 0
reason_of NoRoom = refused 12 0 0
reason_of RowLengths = refused 13 0 0
reason_of (InvalidSheet k) = refused 14 k 0

-- an answer is done with its count, or refused for its reason
abbrev pub answer_of : Result ℕ Reason → Outcome
answer_of (Ok count) = done count
answer_of (Err reason) = reason_of reason

-- Promises say what an answer means and leave it to this that they say which answer it is: two answers that mean the same are equal.
abbrev pub MeaningTells : Type 0
MeaningTells = (a b : Result ℕ Reason) → answer_of a ≡ answer_of b → a ≡ b
