-- An answer can be read back from what it means, so two answers that mean the same are equal.
-- Assumes nothing.
use mathlib.Core.Path.{◌≡◌, refl, sym, ap, ◌∙◌}
use mathlib.Core.List.{List, [], ◌∷◌}
use Prim.Native.Nat.{ℕ}
use lib.ListN.{get_or}
use Rattle.answer.specs.Outcome.{Outcome, done, refused, number_of, first_of, second_of}
use Rattle.answer.specs.Answers.{reason_of, answer_of, MeaningTells}
use Rattle.std.specs.Prelude.{Result, Ok, Err}
use Rattle.answer.specs.declared.Reason.{Reason}
use Rattle.answer.specs.declared.Reason.TheVariants.{InvalidSizeRequest, InvalidSecret, SharingLimitLessThanThreshold, SharingMinThreshold, NotEnoughShareIdentifiers, SharingInvalidIdentifier, SharingDuplicateIdentifier, InvalidShare, InvalidShareElement, TooLong, CoefficientCount, NoRoom, RowLengths, InvalidSheet}

-- the reasons by their numbers; no reason has the number 0
abbrev table : ℕ → ℕ → List Reason
table i j =
    RowLengths ∷ InvalidSizeRequest ∷ InvalidSecret ∷ SharingLimitLessThanThreshold ∷ SharingMinThreshold ∷ NotEnoughShareIdentifiers
    ∷ SharingInvalidIdentifier i ∷ SharingDuplicateIdentifier i j ∷ InvalidShare ∷ InvalidShareElement ∷ TooLong ∷ CoefficientCount ∷ NoRoom ∷ RowLengths ∷ InvalidSheet i ∷ []

abbrev back : Outcome → Result ℕ Reason
back (done count) = Ok count
back (refused number i j) = Err (get_or (table i j) number RowLengths)

back_reason : (r : Reason) → back (reason_of r) ≡ Err r
back_reason InvalidSizeRequest = refl
back_reason InvalidSecret = refl
back_reason SharingLimitLessThanThreshold = refl
back_reason SharingMinThreshold = refl
back_reason NotEnoughShareIdentifiers = refl
back_reason (SharingInvalidIdentifier i) = refl
back_reason (SharingDuplicateIdentifier i j) = refl
back_reason InvalidShare = refl
back_reason InvalidShareElement = refl
back_reason TooLong = refl
back_reason CoefficientCount = refl
back_reason NoRoom = refl
back_reason RowLengths = refl
back_reason (InvalidSheet k) = refl

back_answer : (a : Result ℕ Reason) → back (answer_of a) ≡ a
back_answer (Ok count) = refl
back_answer (Err r) = back_reason r

pub told : MeaningTells
told a b e = sym (back_answer a) ∙ ap back e ∙ back_answer b

-- a reason means a refusal, whose parts are what the code reads off it
pub refusal : (r : Reason) → reason_of r ≡ refused (number_of (reason_of r)) (first_of (reason_of r)) (second_of (reason_of r))
refusal InvalidSizeRequest = refl
refusal InvalidSecret = refl
refusal SharingLimitLessThanThreshold = refl
refusal SharingMinThreshold = refl
refusal NotEnoughShareIdentifiers = refl
refusal (SharingInvalidIdentifier i) = refl
refusal (SharingDuplicateIdentifier i j) = refl
refusal InvalidShare = refl
refusal InvalidShareElement = refl
refusal TooLong = refl
refusal CoefficientCount = refl
refusal NoRoom = refl
refusal RowLengths = refl
refusal (InvalidSheet k) = refl
