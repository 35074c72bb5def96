-- K of document 01's marked values says 'needs'; the values themselves are in `demands` (Table.antt).
-- Assumes nothing.
use Rattle.std.specs.Prelude.{◌≡◌, List, [], ◌∷◌, ℕ, ◌<◌}
use Rattle.demands.specs.Demands.{Shows}

-- With threshold 2, whatever the limit and the other identifiers as long as they differ, no other coefficient shows row 01 2f for
-- secret 00.
abbrev pub NeedsK : Type 0
NeedsK =
    (n p : ℕ) (ids coefficients out : List ℕ) → p < n
    → Shows 2 n (0x00 ∷ []) ids out (p ∷ []) ((0x01 ∷ 0x2f ∷ []) ∷ []) coefficients → coefficients ≡ 0x2f ∷ []
