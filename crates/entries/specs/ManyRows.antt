-- Why combine needs no limit on rows (document 01, bounds): there are 255 identifiers, so of 256 rows one is 0 or stands twice.
-- Assumes nothing.
use Rattle.std.specs.Prelude.{◌≡◌, true, false, List, ◌⊎◌, ℕ, ◌/◌, ◌<◌, ◌≤◌, length}
use Rattle.answer.specs.Outcome.{done, number_of}
use Rattle.shamir.specs.Lists.{Below}
use Rattle.rows.specs.Search.{sum, all_are}
use Rattle.rows.specs.Lengths.{lengths_of}
use Rattle.row_set.specs.RowSet.{unreadable}
use Rattle.sharing.specs.Combine.{combine_answer}
use Rattle.sharing.specs.ByteLengths.{byte_lengths_answer}

pub record ManyRows : Type 0 where
  -- more than 255 rows are never combined, ..
  pub never : (s lengths : List ℕ) (room count : ℕ) → Below 256 s → 255 < length lengths → combine_answer s lengths room ≡ done count → ⊥
  -- .. where their lengths come as bytes neither, ..
  pub never_by_bytes : (s bytes : List ℕ) (room count : ℕ) → Below 256 s → 255 < length bytes / 4 → byte_lengths_answer s bytes room ≡ done count → ⊥
  -- .. and where nothing is wrong with their lengths, the refusal is 6 or 7, ..
  pub zero_or_repeat : (s lengths : List ℕ) (room w : ℕ) → Below 256 s → 255 < length lengths → 2 ≤ w → all_are w lengths ≡ true → sum lengths ≡ length s
      → (number_of (combine_answer s lengths room) ≡ 6) ⊎ (number_of (combine_answer s lengths room) ≡ 7)
  -- .. also where they come as bytes that can be read
  pub zero_or_repeat_by_bytes : (s bytes : List ℕ) (room w : ℕ) → Below 256 s → 255 < length bytes / 4 → unreadable bytes ≡ false → 2 ≤ w
      → all_are w (lengths_of bytes) ≡ true → sum (lengths_of bytes) ≡ length s
      → (number_of (byte_lengths_answer s bytes room) ≡ 6) ⊎ (number_of (byte_lengths_answer s bytes room) ≡ 7)
