-- The fields of a line are read from it.
-- Assumes nothing.
use mathlib.Core.Path.{◌≡◌, refl, ap, ap₂, ◌∙◌}
use mathlib.Core.Bool.{true, false, cond, ◌||◌}
use mathlib.Core.List.{List, [], ◌∷◌, ◌++◌}
use Prim.Native.Nat.{ℕ, zero, suc}
use lib.Dec.{eqb}
use lib.ListN.{get_or}
use borrow.Author.Tests.{ne_eqb}
use Rattle.shamir.specs.Lists.{All}
use Rattle.sheets.specs.Text.{tab, line_feed, line}
use Rattle.reading.specs.Unsheet.{field_at}
use Rattle.sheets.proofs.Fields.{Plain}

goes_on : (c : ℕ) → Plain c → (eqb c tab || eqb c line_feed) ≡ false
goes_on c p = ap₂ ◌||◌ (ne_eqb c tab p.0) (ne_eqb c line_feed p.1)

-- a field that d ends
module _ (d : ℕ) (v : List ℕ) (ends : (eqb d tab || eqb d line_feed) ≡ true) where
  field_first : (f : List ℕ) → All Plain f → field_at 0 (f ++ d ∷ v) ≡ f
  field_first [] h = ap (λ t. cond t [] (d ∷ field_at 0 v)) ends
  field_first (c ∷ f) h = ap (λ t. cond t [] (c ∷ field_at 0 (f ++ d ∷ v))) (goes_on c h.0) ∙ ap (c ∷◌) (field_first f h.1)

  field_next : (k : ℕ) (f : List ℕ) → All Plain f → field_at (suc k) (f ++ d ∷ v) ≡ field_at k v
  field_next k [] h = ap (λ t. cond t (field_at k v) (field_at (suc k) v)) ends
  field_next k (c ∷ f) h =
      ap (λ t. cond t (field_at k (f ++ d ∷ v)) (field_at (suc k) (f ++ d ∷ v))) (goes_on c h.0) ∙ field_next k f h.1

pub field_of : (k : ℕ) (f : List ℕ) (fs : List (List ℕ)) → All (All Plain) (f ∷ fs) → field_at k (line (f ∷ fs)) ≡ get_or (f ∷ fs) k []
field_of zero f [] h = field_first line_feed [] refl f h.0
field_of zero f (g ∷ fs) h = field_first tab (line (g ∷ fs)) refl f h.0
field_of (suc k) f [] h = field_next line_feed [] refl k f h.0
field_of (suc k) f (g ∷ fs) h = field_next tab (line (g ∷ fs)) refl k f h.0 ∙ field_of k g fs h.1
