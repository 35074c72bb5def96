-- What the field's answers mean in document 01, and what they are to be: there is no inverse of 0 and no quotient by it, and a
-- slice is an identifier where it holds one byte. The refusal is 9.
-- Assumes nothing.
use Rattle.std.specs.Prelude.{◌≡◌, not, List, ℕ, Result, Ok, Err, eqb, length, get_or}
use Rattle.answer.specs.Outcome.{Outcome, done, refused, refuse}
use Rattle.answer.specs.Answers.{reason_of}
use Rattle.answer.specs.declared.Reason.{Reason}
use Rattle.gf256.specs.declared.Gf256.{Gf256}
use Rattle.gf256.specs.declared.IdentifierGf256.{IdentifierGf256}
use Rattle.gf256.specs.Field256.{mul256, inv256}

abbrev pub gf256_answer_of : Result Gf256 Reason → Outcome
gf256_answer_of (Ok a) = done a.0
gf256_answer_of (Err reason) = reason_of reason

abbrev pub identifier_answer_of : Result IdentifierGf256 Reason → Outcome
identifier_answer_of (Ok x) = done x.0.0
identifier_answer_of (Err reason) = reason_of reason

abbrev pub quotient_outcome : ℕ → ℕ → Outcome
quotient_outcome a b = refuse (eqb b 0) (refused 9 0 0) (done (mul256 a (inv256 b)))

abbrev pub inverse_outcome : ℕ → Outcome
inverse_outcome a = refuse (eqb a 0) (refused 9 0 0) (done (inv256 a))

abbrev pub slice_outcome : List ℕ → Outcome
slice_outcome s = refuse (not (eqb (length s) 1)) (refused 9 0 0) (done (get_or s 0 0))

-- Promises say what an answer means; this says that they leave no choice: answers that mean the same are equal.
pub record MeaningTells : Type 0 where
  pub element : (a b : Result Gf256 Reason) → gf256_answer_of a ≡ gf256_answer_of b → a ≡ b
  pub identifier : (a b : Result IdentifierGf256 Reason) → identifier_answer_of a ≡ identifier_answer_of b → a ≡ b
