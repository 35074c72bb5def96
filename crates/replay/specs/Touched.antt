-- Whether lent memory was written to. Assumes nothing.
use Rattle.std.specs.Prelude.{◌≡◌, Bool, true, false, List, ℕ, ◌<◌, length, get_or}

-- what lent memory holds before a call
abbrev pub unwritten : ℕ
unwritten = 0xee

-- r says whether some byte is another
pub record TouchedIs (s : List ℕ) (r : Bool) : Type 0 where
  pub yes : r ≡ true → (i : ℕ) × (i < length s) × (get_or s i 0 ≡ unwritten → ⊥)
  pub no : r ≡ false → (i : ℕ) → i < length s → get_or s i 0 ≡ unwritten
