-- The checks that every use of a set of rows begins with: those of combine in document 01, from its first to 10.
-- Assumes nothing.
use Rattle.std.specs.Prelude.{Bool, not, ◌||◌, List, ℕ, ◌-◌, ◌/◌, ◌%◌, eqb, ltb, length, get_or}
use Rattle.answer.specs.Outcome.{Outcome, refused, refuse}
use Rattle.rows.specs.Search.{sum, all_are, first_zero, first_repeated, first_repeating, within}
use Rattle.rows.specs.Storage.{cut, identifiers}
use Rattle.rows.specs.Lengths.{lengths_of}
use Rattle.row_set.specs.Limits.{max_secret, max_rows}

-- the length of the first row, and of its values: the secret's length
abbrev pub first_length : List ℕ → ℕ
first_length lengths = get_or lengths 0 0

abbrev pub secret_length : List ℕ → ℕ
secret_length lengths = first_length lengths - 1

-- what is asked of identifiers, with so many values a row: the first refusal, or what comes later
abbrev pub judged_identifiers : ℕ → List ℕ → Outcome → Outcome
judged_identifiers l ids later =
    refuse (within (first_zero ids) ids) (refused 6 (first_zero ids) 0)
    (refuse (within (first_repeated ids) ids) (refused 7 (first_repeated ids) (first_repeating ids))
    (refuse (ltb max_secret l) (refused 10 0 0)
    later))

-- .. and before that of the lengths, where so many rows are enough and so many bytes are stored
unfoldable pub judged : ℕ → ℕ → List ℕ → List ℕ → Outcome → Outcome
judged enough stored lengths ids later =
    refuse (not (eqb (sum lengths) stored)) (refused 13 0 0)
    (refuse (ltb (length lengths) enough) (refused 4 0 0)
    (refuse (ltb (first_length lengths) 2) (refused 8 0 0)
    (refuse (not (all_are (first_length lengths) lengths)) (refused 8 0 0)
    (judged_identifiers (secret_length lengths) ids later))))

-- of the rows s with these lengths
abbrev pub judged_rows : ℕ → List ℕ → List ℕ → Outcome → Outcome
judged_rows enough s lengths later = judged enough (length s) lengths (identifiers (cut lengths s)) later

-- refusal 13 before all else, where the lengths come as bytes: they are not whole fours, or are too many
abbrev pub unreadable : List ℕ → Bool
unreadable bytes = not (eqb (length bytes % 4) 0) || ltb max_rows (length bytes / 4)

-- of the rows s with lengths that come as bytes
abbrev pub judged_byte_lengths : ℕ → List ℕ → List ℕ → Outcome → Outcome
judged_byte_lengths enough s bytes later = refuse (unreadable bytes) (refused 13 0 0) (judged_rows enough s (lengths_of bytes) later)
