-- What holders may rely on: enough rows give the secret back, and fewer say nothing of it. All of it is said of the definitions
-- in Split and Combine of `sharing`, which the code is proved to meet.
-- Assumes nothing.
use Rattle.std.specs.Prelude.{◌≡◌, List, ◌++◌, map, ℕ, ◌+◌, ◌*◌, ◌-◌, ◌≤◌, length, take, drop}
use Rattle.answer.specs.Outcome.{done}
use Rattle.shamir.specs.Lists.{Below, Distinct}
use Rattle.shamir.specs.Count.{Unique}
use Rattle.rows.specs.Storage.{laid}
use Rattle.sharing.specs.Split.{split_room, split_outcome, split_bytes}
use Rattle.sharing.specs.Combine.{combine_answer, combine_bytes}

-- row p of what a split of l bytes has written
abbrev pub row_at : ℕ → List ℕ → ℕ → List ℕ
row_at l bytes p = take (l + 1) (drop (p * (l + 1)) bytes)

-- A split that is accepted: threshold t, limit n, this secret, these identifiers and coefficients, and an output that comes
-- with these bytes. All are bytes, and the identifiers that are used are different.
pub record Accepted (t n : ℕ) (secret ids coefficients out : List ℕ) : Type 0 where
  pub done_all : split_outcome t n (length secret) ids (length coefficients) (length out) ≡ done (split_room n (length secret))
  pub secret_bytes : Below 256 secret
  pub id_bytes : Below 256 ids
  pub coefficient_bytes : Below 256 coefficients
  pub distinct : Distinct (take n ids)

-- the rows of a split at some places
abbrev pub shown : ℕ → ℕ → List ℕ → List ℕ → List ℕ → List ℕ → List ℕ → List (List ℕ)
shown t n secret ids coefficients out places =
    map (row_at (length secret) (split_bytes t n secret ids coefficients out)) places

-- Demand 3, first half. Any t or more different rows, in any order, laid together with their lengths, and with room: combine is
-- done with the secret's length and leaves the secret.
pub record Recovers (t n : ℕ) (secret ids coefficients out places room : List ℕ) : Type 0 where
  pub answers :
      let rows = shown t n secret ids coefficients out places in
      combine_answer (laid rows) (map length rows) (length room) ≡ done (length secret)
  pub leaves :
      let rows = shown t n secret ids coefficients out places in
      combine_bytes (laid rows) (map length rows) room ≡ secret ++ drop (length secret) room

abbrev pub Recovery : Type 0
Recovery =
    (t n : ℕ) (secret ids coefficients out places room : List ℕ) → Accepted t n secret ids coefficients out
    → Below n places → Distinct places → t ≤ length places → length secret ≤ length room
    → Recovers t n secret ids coefficients out places room

-- Demand 3, second half. A list of coefficients shows these rows at these places where it makes an accepted split of the secret
-- in which they stand there.
pub record Shows (t n : ℕ) (secret ids out places : List ℕ) (rows : List (List ℕ)) (coefficients : List ℕ) : Type 0 where
  pub accepted : Accepted t n secret ids coefficients out
  pub rows_same : shown t n secret ids coefficients out places ≡ rows

-- Of any t - 1 different rows of an accepted split and any secret of the same length: exactly one list of coefficients, of length
-- L(t - 1) as every accepted split asks, makes a split with the same threshold, limit and identifiers that shows those rows.
abbrev pub Hiding : Type 0
Hiding =
    (t n : ℕ) (secret ids coefficients out places other : List ℕ) → Accepted t n secret ids coefficients out
    → Below n places → Distinct places → length places ≡ t - 1 → Below 256 other → length other ≡ length secret
    → Unique (Shows t n other ids out places (shown t n secret ids coefficients out places))
