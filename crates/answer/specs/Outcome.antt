-- What document 01 says that an answer is, with no word of how the code holds it: done with a count, or refused with a number
-- from its table and two places.
-- Assumes nothing.
use Rattle.std.specs.Prelude.{Bool, true, false, ℕ, ◌+◌, ◌*◌, ◌^◌}

-- 01, the refusals: done with the count of bytes written, or refused with the number of a row of the table and two places, each 0 where
-- that row has none
pub data Outcome : Type 0 where
  done : ℕ → Outcome
  refused : ℕ → ℕ → ℕ → Outcome

-- 01, their order: the refusal where its condition holds, and otherwise what the conditions after it give. A chain of these in 01's
-- order gives each refusal exactly where its own condition holds and none before it.
abbrev pub refuse : Bool → Outcome → Outcome → Outcome
refuse true refusal later = refusal
refuse false refusal later = later

-- the number of the refusal in the table; a done answer has none, and 0 is no number there
abbrev pub number_of : Outcome → ℕ
number_of (done count) = 0
number_of (refused number first second) = number

-- the first place of the refusal, 0 where there is none
abbrev pub first_of : Outcome → ℕ
first_of (done count) = 0
first_of (refused number first second) = first

-- the second place of the refusal, 0 where there is none
abbrev pub second_of : Outcome → ℕ
second_of (done count) = 0
second_of (refused number first second) = second

-- 01, what crosses to the host: a done answer is its count, and a refusal is its number above bit 40, its first place above bit 16 and
-- its second below
abbrev pub word_of : Outcome → ℕ
word_of (done count) = count
word_of (refused number first second) = number * 2 ^ 40 + first * 2 ^ 16 + second
