-- Document 01's marked values A to L, as one list: what our definitions compute beside what the document states.
-- Assumes nothing.
use Rattle.std.specs.Prelude.{◌≡◌, List, [], ◌∷◌, map, ℕ}
use Rattle.answer.specs.Outcome.{Outcome, done, refused}
use Rattle.util.specs.Small.{bounded_add}
use Rattle.gf256.specs.Field256.{gf256, mul256, inv256}
use Rattle.gf256.specs.Answers.{inverse_outcome}
use Rattle.shamir.specs.Polynomial.{polynomial}
use Rattle.sharing.specs.Split.{split_outcome, split_bytes}
use Rattle.sharing.specs.Combine.{combine_answer, combine_bytes}

pub data Result : Type 0 where
  number : ℕ → Result
  answer : Outcome → Result
  bytes : List ℕ → Result

pub record Case : Type 0 where
  pub computed : Result
  pub stated : Result

infix 30 ◌is◌
abbrev pub ◌is◌ : Result → Result → Case
a is b = record { computed = a; stated = b }

-- rows to combine, of two bytes each
abbrev rows_h : List ℕ
rows_h = 0x01 ∷ 0x2f ∷ 0x02 ∷ 0x20 ∷ []

abbrev rows_i : List ℕ
rows_i = 0x01 ∷ 0x28 ∷ 0x02 ∷ 0x3c ∷ 0x03 ∷ 0x3e ∷ []

abbrev first_two_of_i : List ℕ
first_two_of_i = 0x01 ∷ 0x28 ∷ 0x02 ∷ 0x3c ∷ []

abbrev zeros6 : List ℕ
zeros6 = 0 ∷ 0 ∷ 0 ∷ 0 ∷ 0 ∷ 0 ∷ []

abbrev pub table : List Case
table =
    -- A to E: products and inverses
    (number (mul256 0x57 0x83) is number 0xc1)
    ∷ (number (mul256 0x57 0x13) is number 0xfe)
    ∷ (number (mul256 0x53 0xca) is number 0x01)
    ∷ (number (inv256 0x02) is number 0x8d)
    ∷ (number (inv256 0x03) is number 0xf6)
    ∷ (number (mul256 0x80 0x02) is number 0x1b)
    -- F: there is no inverse of 0
    ∷ (answer (inverse_outcome 0x00) is answer (refused 9 0 0))
    -- G: a split
    ∷ (answer (split_outcome 2 3 1 (1 ∷ 2 ∷ 3 ∷ []) 1 6) is answer (done 6))
    ∷ (bytes (split_bytes 2 3 (0x2a ∷ []) (1 ∷ 2 ∷ 3 ∷ []) (0x05 ∷ []) zeros6) is bytes (0x01 ∷ 0x2f ∷ 0x02 ∷ 0x20 ∷ 0x03 ∷ 0x25 ∷ []))
    -- H: two of its rows give the secret
    ∷ (answer (combine_answer rows_h (2 ∷ 2 ∷ []) 1) is answer (done 1))
    ∷ (bytes (combine_bytes rows_h (2 ∷ 2 ∷ []) (0 ∷ [])) is bytes (0x2a ∷ []))
    -- I: a split with threshold 3
    ∷ (bytes (split_bytes 3 3 (0x2a ∷ []) (1 ∷ 2 ∷ 3 ∷ []) (0x05 ∷ 0x07 ∷ []) zeros6) is bytes rows_i)
    -- J: its three rows give the secret; the first two are accepted and give another byte
    ∷ (bytes (combine_bytes rows_i (2 ∷ 2 ∷ 2 ∷ []) (0 ∷ [])) is bytes (0x2a ∷ []))
    ∷ (answer (combine_answer first_two_of_i (2 ∷ 2 ∷ []) 1) is answer (done 1))
    ∷ (bytes (combine_bytes first_two_of_i (2 ∷ 2 ∷ []) (0 ∷ [])) is bytes (0x24 ∷ []))
    -- K: secret 00 shows the row 01 2f with the coefficient 2f, and the one polynomial with 00 at 0 and 2f at 1 has no other
    ∷ (bytes (split_bytes 2 2 (0x00 ∷ []) (1 ∷ 2 ∷ []) (0x2f ∷ []) (0 ∷ 0 ∷ 0 ∷ 0 ∷ [])) is bytes (0x01 ∷ 0x2f ∷ 0x02 ∷ 0x5e ∷ []))
    ∷ (bytes (polynomial gf256 (0 ∷ 1 ∷ []) (0x00 ∷ 0x2f ∷ [])) is bytes (0x00 ∷ 0x2f ∷ []))
    -- L: the bounded sum
    ∷ (number (bounded_add 250 5 256) is number 255)
    ∷ (number (bounded_add 250 6 256) is number 0)
    ∷ []

-- the two columns are the same
abbrev pub TableHolds : Type 0
TableHolds = map (λ c. c.computed) table ≡ map (λ c. c.stated) table
