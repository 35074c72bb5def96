-- Rows laid together and storage cut into rows: each undoes the other, where the lengths add up to that of the storage.
-- Assumes nothing.
use mathlib.Core.Path.{◌≡◌, refl, sym, ap, ap₂, ◌∙◌}
use mathlib.Core.List.{List, [], ◌∷◌, ◌++◌, map}
use Prim.Native.Nat.{ℕ, ◌+◌, ◌≤◌}
use native.Mathlib.Omega.{arith}
use lib.ListN.{length, take, drop, length-append, length-drop, take-append-drop}
use lib.Seq.{take_at, drop_at, length-take-le}
use Rattle.rows.specs.Search.{sum}
use Rattle.rows.specs.Storage.{cut, laid}

pub sum_laid : (rows : List (List ℕ)) → sum (map length rows) ≡ length (laid rows)
sum_laid [] = refl
sum_laid (r ∷ rows) = ap (length r +◌) (sum_laid rows) ∙ sym (length-append r (laid rows))

pub cut-laid : (rows : List (List ℕ)) → cut (map length rows) (laid rows) ≡ rows
cut-laid [] = refl
cut-laid (r ∷ rows) =
    ap₂ (λ a b. a ∷ cut (map length rows) b) (take_at r (laid rows) (length r) refl) (drop_at r (laid rows) (length r) refl)
    ∙ ap (r ∷◌) (cut-laid rows)

pub laid-cut : (ns s : List ℕ) → length s ≤ sum ns → laid (cut ns s) ≡ s
laid-cut [] [] h = refl
laid-cut [] (x ∷ s) h = absurd (omega arith)
laid-cut (n ∷ ns) s h = ap (take n s ++◌) (laid-cut ns (drop n s) (simp length-drop (omega arith))) ∙ take-append-drop n s

pub lengths-cut : (ns s : List ℕ) → sum ns ≤ length s → map length (cut ns s) ≡ ns
lengths-cut [] s h = refl
lengths-cut (n ∷ ns) s h = ap₂ ◌∷◌ (length-take-le n s (omega arith)) (lengths-cut ns (drop n s) (simp length-drop (omega arith)))

-- the same rows are cut to the same lengths from the same storage
pub cut-told : (ns ms s z : List ℕ) → sum ns ≡ length s → sum ms ≡ length z → cut ns s ≡ cut ms z → (ns ≡ ms) × (s ≡ z)
cut-told ns ms s z hs hz e = (
  sym (lengths-cut ns s (omega arith)) ∙ ap (map length) e ∙ lengths-cut ms z (omega arith),
  sym (laid-cut ns s (omega arith)) ∙ ap laid e ∙ laid-cut ms z (omega arith),
)
