-- A loop that fills a list d from the front has p, as long as it has come, and then the rest of d: `p ++ drop n d`.
-- Assumes nothing.
use mathlib.Core.Path.{◌≡◌, ◌∙◌, sym, ap, ap₂}
use mathlib.Core.List.{List, [], ◌∷◌, ◌++◌, append_assoc}
use Prim.Native.Nat.{ℕ, suc, ◌+◌, ◌<◌}
use native.Mathlib.Numerals.{add-one}
use lib.ListN.{length, drop, get_or, set}
use lib.Seq.{drop-cons, set_at, get_or_at, append_snoc, take_at, drop_at, drop-drop}
use borrow.Rule.Slice.PartMut.{put_mid}

module _ (p d : List ℕ) (n : ℕ) (long : length p ≡ n) where
  -- one element is written behind p
  pub fill_one : (v : ℕ) → n < length d → set (p ++ drop n d) n v ≡ (p ++ v ∷ []) ++ drop (n + 1) d
  fill_one v h =
      ap (λ l. set (p ++ l) n v) (drop-cons d n 0 h)
      ∙ set_at p (get_or d n 0) (drop (suc n) d) v n long
      ∙ sym (append_snoc p v (drop (suc n) d))
      ∙ ap (λ i. (p ++ v ∷ []) ++ drop i d) (sym (add-one n))

  -- a part that was lent comes back behind p
  pub fill_part : (w : ℕ) (new : List ℕ) → put_mid n w (p ++ drop n d) new ≡ (p ++ new) ++ drop (n + w) d
  fill_part w new =
      ap₂ (λ a b. a ++ (new ++ b)) (take_at p (drop n d) n long) (ap (drop w) (drop_at p (drop n d) n long) ∙ drop-drop w n d)
      ∙ sym (append_assoc p new (drop (n + w) d))

  -- what is behind p was not written yet
  pub fill_next : n < length d → get_or (p ++ drop n d) n 0 ≡ get_or d n 0
  fill_next h = ap (λ l. get_or (p ++ l) n 0) (drop-cons d n 0 h) ∙ get_or_at p (get_or d n 0) (drop (suc n) d) 0 n long
