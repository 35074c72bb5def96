-- The field's answers can be read back from what they mean, by way of the general answer.
-- Assumes nothing.
use mathlib.Core.Path.{◌≡◌, refl, sym, ap, ◌∙◌}
use Rattle.answer.specs.Outcome.{Outcome}
use Rattle.answer.specs.Answers.{answer_of}
use Prim.Native.Nat.{ℕ}
use Rattle.std.specs.Prelude.{Result, Ok, Err}
use Rattle.answer.specs.declared.Reason.{Reason}
use Rattle.answer.proofs.Meaning.{told}
use Rattle.gf256.specs.declared.Gf256.{Gf256}
use Rattle.gf256.specs.declared.IdentifierGf256.{IdentifierGf256}
use Rattle.gf256.specs.Answers.{gf256_answer_of, identifier_answer_of, MeaningTells}

-- a kind of answer that goes to the general one and comes back
module _ {A : Type 0} (meaning : A → Outcome) (plain : A → Result ℕ Reason) (back : Result ℕ Reason → A) where
  tells : ((a : A) → answer_of (plain a) ≡ meaning a) → ((a : A) → back (plain a) ≡ a) → (a b : A) → meaning a ≡ meaning b → a ≡ b
  tells means comes a b e = sym (comes a) ∙ ap back (told (plain a) (plain b) (means a ∙ e ∙ sym (means b))) ∙ comes b

abbrev plain_element : Result Gf256 Reason → Result ℕ Reason
plain_element (Ok a) = Ok a.0
plain_element (Err reason) = Err reason

abbrev back_element : Result ℕ Reason → Result Gf256 Reason
back_element (Ok n) = Ok (record { 0 = n })
back_element (Err reason) = Err reason

element_means : (a : Result Gf256 Reason) → answer_of (plain_element a) ≡ gf256_answer_of a
element_means (Ok a) = refl
element_means (Err reason) = refl

element_comes : (a : Result Gf256 Reason) → back_element (plain_element a) ≡ a
element_comes (Ok a) = refl
element_comes (Err reason) = refl

abbrev plain_identifier : Result IdentifierGf256 Reason → Result ℕ Reason
plain_identifier (Ok x) = Ok x.0.0
plain_identifier (Err reason) = Err reason

abbrev back_identifier : Result ℕ Reason → Result IdentifierGf256 Reason
back_identifier (Ok n) = Ok (record { 0 = record { 0 = n } })
back_identifier (Err reason) = Err reason

identifier_means : (a : Result IdentifierGf256 Reason) → answer_of (plain_identifier a) ≡ identifier_answer_of a
identifier_means (Ok x) = refl
identifier_means (Err reason) = refl

identifier_comes : (a : Result IdentifierGf256 Reason) → back_identifier (plain_identifier a) ≡ a
identifier_comes (Ok x) = refl
identifier_comes (Err reason) = refl

pub meaning_tells : MeaningTells
meaning_tells = record {
  element = tells gf256_answer_of plain_element back_element element_means element_comes;
  identifier = tells identifier_answer_of plain_identifier back_identifier identifier_means identifier_comes;
}
