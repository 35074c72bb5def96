-- The word that an entry gives back, and that it can be read: document 01 lays number and places into one 64-bit number.
-- Assumes nothing.
use Rattle.std.specs.Prelude.{◌≡◌, List, ℕ, ◌^◌, ◌<◌}
use Rattle.answer.specs.Outcome.{Outcome, done, refused, word_of}
use Rattle.shamir.specs.Lists.{Below}
use Rattle.sharing.specs.Split.{split_outcome}
use Rattle.sharing.specs.ByteLengths.{byte_lengths_answer}
use Rattle.sheets.specs.Sheet.{sheet_answer}
use Rattle.reading.specs.Answer.{read_answer}

-- an outcome whose parts keep to their bits of the word
abbrev pub Fits : Outcome → Type 0
Fits (done count) = count < 2 ^ 40
Fits (refused number first second) = ((0 < number) × (number < 2 ^ 24)) × ((first < 2 ^ 16) × (second < 2 ^ 16))

-- such words tell outcomes apart, and the outcomes of the entries are such
pub record Readable : Type 0 where
  pub small : (o : Outcome) → Fits o → word_of o < 2 ^ 64
  pub told : (o p : Outcome) → Fits o → Fits p → word_of o ≡ word_of p → o ≡ p
  pub split : (t n l : ℕ) (ids : List ℕ) (count room : ℕ) → Fits (split_outcome t n l ids count room)
  pub combine : (s lengths : List ℕ) (room : ℕ) → Fits (byte_lengths_answer s lengths room)
  pub sheet : (t : ℕ) (s lengths : List ℕ) (room : ℕ) → Below 256 s → Fits (sheet_answer t s lengths room)
  pub read : (text : List ℕ) (headRoom room : ℕ) → Fits (read_answer text headRoom room)

-- the promise of an entry: the word of this outcome, and these bytes in the output
pub record Gives (outcome : Outcome) (bytes : List ℕ) (word : ℕ) (left : List ℕ) : Type 0 where
  pub answers : word ≡ word_of outcome
  pub leaves : left ≡ bytes

-- which leaves no choice
abbrev pub Determined : Type 0
Determined =
    (outcome : Outcome) (bytes left right : List ℕ) (w v : ℕ) → Gives outcome bytes w left → Gives outcome bytes v right → (w ≡ v) × (left ≡ right)
