-- What the promises of split and combine leave open, which is nothing, and what they shut out.
-- Assumes nothing.
use Rattle.std.specs.Prelude.{◌≡◌, List, [], ◌∷◌, ℕ, Result, length}
use Rattle.answer.specs.Outcome.{Outcome, done, refused}
use Rattle.answer.specs.Answers.{answer_of}
use Rattle.answer.specs.declared.Reason.{Reason}
use Rattle.rows.specs.Lengths.{lengths_of}
use Rattle.rows.specs.Storage.{cut, identifiers}
use Rattle.sharing.specs.Split.{Splits}
use Rattle.sharing.specs.Combine.{Combines}
use Rattle.sharing.specs.ByteLengths.{CombinesByByteLengths}

-- Determined: two answers and outputs that a promise allows for one call are the same.
abbrev pub Same : (Outcome → List ℕ → Type 0) → Type 0
Same Promise =
    (a b : Result ℕ Reason) (left right : List ℕ) → Promise (answer_of a) left → Promise (answer_of b) right → (a ≡ b) × (left ≡ right)

pub record Determined : Type 0 where
  pub split : (t n : ℕ) (secret ids coefficients out : List ℕ) → Same (Splits t n secret ids coefficients out)
  pub combine : (s lengths out : List ℕ) → Same (Combines s lengths out)
  pub by_byte_lengths : (s bytes out : List ℕ) → Same (CombinesByByteLengths s bytes out)

-- Independent: the answer is the same for two calls that agree on lengths, t, n and identifiers.
pub record Independent : Type 0 where
  pub split : (t n : ℕ) (ids secret secret' coefficients coefficients' out out' left left' : List ℕ) (a a' : Outcome)
      → length secret ≡ length secret' → length coefficients ≡ length coefficients' → length out ≡ length out'
      → Splits t n secret ids coefficients out a left → Splits t n secret' ids coefficients' out' a' left' → a ≡ a'
  pub combine : (s s' lengths out out' left left' : List ℕ) (a a' : Outcome)
      → length s ≡ length s' → identifiers (cut lengths s) ≡ identifiers (cut lengths s') → length out ≡ length out'
      → Combines s lengths out a left → Combines s' lengths out' a' left' → a ≡ a'
  pub by_byte_lengths : (s s' bytes out out' left left' : List ℕ) (a a' : Outcome)
      → length s ≡ length s' → identifiers (cut (lengths_of bytes) s) ≡ identifiers (cut (lengths_of bytes) s') → length out ≡ length out'
      → CombinesByByteLengths s bytes out a left → CombinesByByteLengths s' bytes out' a' left' → a ≡ a'

-- Document 01's call G with an output of zeros, and two calls of combine
abbrev CallG : Outcome → List ℕ → Type 0
CallG = Splits 2 3 (0x2a ∷ []) (1 ∷ 2 ∷ 3 ∷ []) (0x05 ∷ []) (0 ∷ 0 ∷ 0 ∷ 0 ∷ 0 ∷ 0 ∷ [])

abbrev CallH : Outcome → List ℕ → Type 0
CallH = Combines (0x01 ∷ 0x2f ∷ 0x02 ∷ 0x20 ∷ []) (2 ∷ 2 ∷ []) (0 ∷ [])

abbrev CallJ : Outcome → List ℕ → Type 0
CallJ = Combines (0x01 ∷ 0x28 ∷ 0x02 ∷ 0x3c ∷ []) (2 ∷ 2 ∷ []) (0 ∷ [])

-- The five wrong programs of document 01 break the promises at these calls.
pub record ShutOut : Type 0 where
  -- a split that refuses everything
  pub refuses_all : (number first second : ℕ) (left : List ℕ) → CallG (refused number first second) left → ⊥
  -- a combine that always gives the same key
  pub fixed_key : (a b : Outcome) (key : List ℕ) → CallH a key → CallJ b key → ⊥
  -- a split that copies the secret into each row
  pub copies_secret : (a : Outcome) → CallG a (1 ∷ 0x2a ∷ 2 ∷ 0x2a ∷ 3 ∷ 0x2a ∷ []) → ⊥
  -- a split that writes identifiers only
  pub only_identifiers : (a : Outcome) → CallG a (1 ∷ 0 ∷ 2 ∷ 0 ∷ 3 ∷ 0 ∷ []) → ⊥
  -- an output left as it came, with the right count
  pub nothing_written : CallG (done 6) (0 ∷ 0 ∷ 0 ∷ 0 ∷ 0 ∷ 0 ∷ []) → ⊥
  pub nothing_combined : CallH (done 1) (0 ∷ []) → ⊥
