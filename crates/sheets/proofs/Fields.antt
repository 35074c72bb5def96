-- A line tells its fields and what follows it, where no field holds a tab or a line feed.
-- Assumes nothing.
use mathlib.Core.Path.{◌≡◌, refl, sym, ap, ap₂, ◌∙◌, subst}
use mathlib.Core.List.{List, [], ◌∷◌, ◌++◌, append_assoc}
use Prim.Native.Nat.{ℕ}
use native.Mathlib.Omega.{arith}
use Rattle.shamir.specs.Lists.{All}
use Rattle.sheets.specs.Text.{tab, line_feed, line}

-- ---- a field of characters P, up to one that is none: c and d end it, and v and w follow

module _ (P : ℕ → Type 0) (c d : ℕ) (not-c : P c → ⊥) (not-d : P d → ⊥) where
  pub field_told : (xs ys v w : List ℕ) → All P xs → All P ys → xs ++ c ∷ v ≡ ys ++ d ∷ w → (xs ≡ ys) × (c ≡ d) × (v ≡ w)
  field_told [] [] v w hx hy e = (refl, cc, cc)
  field_told [] (y ∷ ys) v w hx hy e = absurd (let z : y ≡ c = cc in not-c (subst P z hy.0))
  field_told (x ∷ xs) [] v w hx hy e = absurd (let z : x ≡ d = cc in not-d (subst P z hx.0))
  field_told (x ∷ xs) (y ∷ ys) v w hx hy e =
      let first : x ≡ y = cc in
      let rest = field_told xs ys v w hx.1 hy.1 (cc) in
      (ap₂ ◌∷◌ first rest.0, rest.1, rest.2)

  -- .. where p and q stand between
  part_told : (xs ys p q v w : List ℕ) → All P xs → All P ys → (xs ++ c ∷ p) ++ v ≡ (ys ++ d ∷ q) ++ w → (xs ≡ ys) × (c ≡ d) × (p ++ v ≡ q ++ w)
  part_told xs ys p q v w hx hy e =
      field_told xs ys (p ++ v) (q ++ w) hx hy (sym (append_assoc xs (c ∷ p) v) ∙ e ∙ append_assoc ys (d ∷ q) w)

-- ---- a line

-- a character that ends no field
abbrev pub Plain : ℕ → Type 0
Plain c = (c ≡ tab → ⊥) × (c ≡ line_feed → ⊥)

no-tab : Plain tab → ⊥
no-tab p = p.0 refl

no_feed : Plain line_feed → ⊥
no_feed p = p.1 refl

pub line-told : (f g : List ℕ) (fs gs : List (List ℕ)) (v w : List ℕ) → All (All Plain) (f ∷ fs) → All (All Plain) (g ∷ gs)
    → line (f ∷ fs) ++ v ≡ line (g ∷ gs) ++ w → (f ∷ fs ≡ g ∷ gs) × (v ≡ w)
line-told f g [] [] v w hf hg e =
    let r = part_told Plain line_feed line_feed no_feed no_feed f g [] [] v w hf.0 hg.0 e in
    (ap (◌∷ []) r.0, r.2)
line-told f g [] (g₁ ∷ gs) v w hf hg e =
    absurd (let r = part_told Plain line_feed tab no_feed no-tab f g [] (line (g₁ ∷ gs)) v w hf.0 hg.0 e in omega (arith, r.1))
line-told f g (f₁ ∷ fs) [] v w hf hg e =
    absurd (let r = part_told Plain tab line_feed no-tab no_feed f g (line (f₁ ∷ fs)) [] v w hf.0 hg.0 e in omega (arith, r.1))
line-told f g (f₁ ∷ fs) (g₁ ∷ gs) v w hf hg e =
    let r = part_told Plain tab tab no-tab no-tab f g (line (f₁ ∷ fs)) (line (g₁ ∷ gs)) v w hf.0 hg.0 e in
    let rest = line-told f₁ g₁ fs gs v w hf.1 hg.1 r.2 in
    (ap₂ ◌∷◌ r.0 rest.0, rest.1)
