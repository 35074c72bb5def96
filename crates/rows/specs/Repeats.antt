-- The pair of refusal 7 in the words of document 02, §5: the least second place, with the earlier place that it repeats.
-- Assumes nothing.
use Rattle.std.specs.Prelude.{◌≡◌, List, [], ◌∷◌, ℕ, ◌<◌, ◌≤◌, length, get_or}
use Rattle.rows.specs.Search.{first_repeated, first_repeating}

pub record FirstRepeat (ids : List ℕ) : Type 0 where
  -- wherever an identifier stands twice, the second place of the pair is found there or before
  pub least : (a b : ℕ) → a < b → b < length ids → get_or ids a 0 ≡ get_or ids b 0 → first_repeating ids ≤ b
  -- the first place is before it, with the same identifier, ..
  pub earlier : first_repeating ids < length ids → first_repeated ids < first_repeating ids
  pub same : first_repeating ids < length ids → get_or ids (first_repeated ids) 0 ≡ get_or ids (first_repeating ids) 0
  -- .. and no other place is
  pub only : (a : ℕ) → first_repeating ids < length ids → a < first_repeating ids → get_or ids a 0 ≡ get_or ids (first_repeating ids) 0
      → a ≡ first_repeated ids
  -- none where the other is none
  pub neither : length ids ≤ first_repeating ids → length ids ≤ first_repeated ids

-- §5's example
abbrev pub ids5775 : List ℕ
ids5775 = 5 ∷ 7 ∷ 7 ∷ 5 ∷ []

pub record Pair5775 : Type 0 where
  pub first : first_repeated ids5775 ≡ 1
  pub second : first_repeating ids5775 ≡ 2
