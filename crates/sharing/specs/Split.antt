-- Split, as document 01 has it: which answer it gives, and the bytes that it leaves.
-- Assumes nothing.
use Rattle.std.specs.Prelude.{◌≡◌, not, List, [], ◌∷◌, ◌++◌, ℕ, zero, suc, ◌+◌, ◌-◌, ◌*◌, eqb, ltb, length, take}
use Rattle.answer.specs.Outcome.{Outcome, done, refused, refuse}
use Rattle.shamir.specs.Rows.{row}
use Rattle.gf256.specs.Field256.{gf256}
use Rattle.row_set.specs.Limits.{max_secret, max_shares, at_exit}

-- refusals 5 and 6: n identifiers in turn, from place i on; the first that is missing or zero decides
abbrev pub in_turn : ℕ → ℕ → List ℕ → Outcome → Outcome
in_turn i zero ids later = later
in_turn i (suc n) [] later = refused 5 0 0
in_turn i (suc n) (x ∷ ids) later = refuse (eqb x 0) (refused 6 i 0) (in_turn (suc i) n ids later)

-- refusal 11: t - 1 coefficients for each of l bytes
abbrev pub coefficient_count : ℕ → ℕ → ℕ
coefficient_count t l = l * (t - 1)

-- refusal 12: n rows of an identifier and l values
abbrev pub split_room : ℕ → ℕ → ℕ
split_room n l = n * (l + 1)

-- the answer for threshold t, limit n, a secret of l bytes, these identifiers, so many coefficients and so much room
unfoldable pub split_outcome : ℕ → ℕ → ℕ → List ℕ → ℕ → ℕ → Outcome
split_outcome t n l ids count room =
    refuse (ltb max_shares n) (refused 1 0 0)
    (refuse (eqb l 0) (refused 2 0 0)
    (refuse (ltb n t) (refused 3 0 0)
    (refuse (ltb t 2) (refused 4 0 0)
    (in_turn 0 n ids
    (refuse (ltb max_secret l) (refused 10 0 0)
    (refuse (not (eqb count (coefficient_count t l))) (refused 11 0 0)
    (refuse (ltb room (split_room n l)) (refused 12 0 0)
    (done (split_room n l)))))))))

-- the rows one after another: each its identifier x, and then for each byte of the secret the value at x of the polynomial with
-- that byte and its own k coefficients
abbrev pub rows_of : ℕ → List ℕ → List ℕ → List ℕ → List ℕ
rows_of k secret coefficients [] = []
rows_of k secret coefficients (x ∷ ids) = (x ∷ row gf256 k x secret coefficients) ++ rows_of k secret coefficients ids

unfoldable pub split_bytes : ℕ → ℕ → List ℕ → List ℕ → List ℕ → List ℕ → List ℕ
split_bytes t n secret ids coefficients out =
    at_exit (split_outcome t n (length secret) ids (length coefficients) (length out)) (rows_of (t - 1) secret coefficients (take n ids)) out

-- the promise of split
pub record Splits (t n : ℕ) (secret ids coefficients out : List ℕ) (answer : Outcome) (left : List ℕ) : Type 0 where
  pub answers : answer ≡ split_outcome t n (length secret) ids (length coefficients) (length out)
  pub leaves : left ≡ split_bytes t n secret ids coefficients out
