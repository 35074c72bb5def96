-- Demand 3 of what vsss_split_bytes and vsss_combine_bytes give back and leave: words, bytes, and lengths as bytes. A word below 2^40
-- says that a call was done (`counts`, in proofs/Entries.antt).
-- Assumes nothing.
use Rattle.std.specs.Prelude.{◌≡◌, List, ◌++◌, map, ℕ, ◌-◌, ◌^◌, ◌<◌, ◌≤◌, length, take, drop}
use Rattle.shamir.specs.Lists.{Below, Distinct}
use Rattle.shamir.specs.Count.{Unique}
use Rattle.rows.specs.Storage.{laid}
use Rattle.rows.specs.Lengths.{length_bytes}
use Rattle.demands.specs.Demands.{row_at}
use Rattle.vsss.specs.Entries.{SplitGives, CombineGives, SheetGives}

-- A call of the split entry that is done, on bytes and with different identifiers: its word, and what its output then holds.
pub record SplitDone (t n : ℕ) (secret ids coefficients out : List ℕ) (word : ℕ) (written : List ℕ) : Type 0 where
  pub gives : SplitGives t n secret ids coefficients out word written
  pub is_done : word < 2 ^ 40
  pub secret_bytes : Below 256 secret
  pub id_bytes : Below 256 ids
  pub coefficient_bytes : Below 256 coefficients
  pub distinct : Distinct (take n ids)

-- First half. Rows taken out of what the split entry has written, t or more different ones in any order, are laid together and lent to
-- the combine entry with their lengths as bytes: the word is the secret's length, and the output begins with the secret.
abbrev pub EntryRecovery : Type 0
EntryRecovery =
    (t n : ℕ) (secret ids coefficients out written places room left : List ℕ) (split combine : ℕ)
    → SplitDone t n secret ids coefficients out split written
    → Below n places → Distinct places → t ≤ length places → length secret ≤ length room
    → let rows = map (row_at (length secret) written) places in
    CombineGives (laid rows) (length_bytes (map length rows)) room combine left
    → (combine ≡ length secret) × (left ≡ secret ++ drop (length secret) room)

-- These rows stand at these places of what the split entry writes for this secret and these coefficients.
pub record EntryShows (t n : ℕ) (secret ids out places : List ℕ) (rows : List (List ℕ)) (coefficients : List ℕ) : Type 0 where
  pub word : ℕ
  pub written : List ℕ
  pub split : SplitDone t n secret ids coefficients out word written
  pub rows_same : map (row_at (length secret) written) places ≡ rows

-- Second half. Of what the split entry has written take t - 1 different rows, and any secret as long: one list of coefficients, and no
-- other, lets the entry write those rows for it.
abbrev pub EntryHiding : Type 0
EntryHiding =
    (t n : ℕ) (secret ids coefficients out written places other : List ℕ) (word : ℕ)
    → SplitDone t n secret ids coefficients out word written
    → Below n places → Distinct places → length places ≡ t - 1 → Below 256 other → length other ≡ length secret
    → Unique (EntryShows t n other ids out places (map (row_at (length secret) written) places))

-- Demand 1: a word from 2^40 on is a refusal, and what was lent is left as it came, by the split entry, the combine entry and the one
-- that writes sheets. Of the reader's two memories `reading` has it (`Untouched`).
pub record EntryUntouched : Type 0 where
  pub split : (t n : ℕ) (secret ids coefficients out left : List ℕ) (word : ℕ) → SplitGives t n secret ids coefficients out word left → 2 ^ 40 ≤ word → left ≡ out
  pub combine : (rows lengths out left : List ℕ) (word : ℕ) → CombineGives rows lengths out word left → 2 ^ 40 ≤ word → left ≡ out
  pub sheet : (t : ℕ) (rows lengths out left : List ℕ) (word : ℕ) → Below 256 rows → SheetGives t rows lengths out word left → 2 ^ 40 ≤ word → left ≡ out
