-- Polynomials: Shamir's sum by Horner's rule, one point divided out or joined on, the polynomial through points. Assumes nothing.
use mathlib.Core.Path.{◌≡◌, ◌∙◌, sym, ap, ap₂, refl, subst}
use mathlib.Core.List.{List, [], ◌∷◌, ◌++◌, map, zip_with}
use Prim.Native.Nat.{ℕ, zero, suc, ◌<◌, ◌+◌}
use native.Mathlib.Omega.{arith}
use lib.ListN.{length, replicate, length-append, length-replicate}
use Rattle.algebra.specs.Field.{Ops, Laws, power}
use Rattle.algebra.proofs.Ring.{ring, eq_of_add, mul-div, div-mul}
use Rattle.shamir.specs.Lists.{All, Below, Fresh, Distinct}
use Rattle.shamir.specs.Polynomial.{sum_from, value, horner, with_value, quotients, polynomial}
use Rattle.shamir.specs.Theorems.{Places, Points, Through, HornerIsValue}
use Rattle.shamir.proofs.Lists.{all_append, all_both, map_same, length-zip, zip-lt, unzip, zip-map}

module _ {F : Ops} (L : Laws F) where
  infixl 60 ◌⊕◌
  infixl 70 ◌⊗◌
  open F use {size, add as ◌⊕◌, mul as ◌⊗◌, inv}
  open L use {ring as R}

  -- ---- values: by Horner's form, which needs no powers

  sum-horner : (k x : ℕ) (cs : List ℕ) → power ◌⊗◌ x k ⊗ horner F cs x ≡ sum_from F k x cs
  unfolding power
  sum-horner k x [] = simp (ring, R)
  sum-horner k x (c ∷ cs) =
      let p = power ◌⊗◌ x k in
      let e : p ⊗ (c ⊕ x ⊗ horner F cs x) ≡ c ⊗ p ⊕ (x ⊗ p) ⊗ horner F cs x = simp (ring, R) in
      e ∙ ap (c ⊗ p ⊕◌) (sum-horner (suc k) x cs)

  pub horner_is_value : HornerIsValue L
  unfolding power
  horner_is_value [] x h = refl
  horner_is_value (c ∷ cs) x h = ap (c ⊕◌) (ap (◌⊗ horner F cs x) (sym (R.mul-one x h)) ∙ sum-horner 1 x cs)

  pub value-zero : (s : ℕ) (cs : List ℕ) → value F (s ∷ cs) 0 ≡ s
  value-zero s cs =
      let e : s ⊕ 0 ⊗ horner F cs 0 ≡ s = simp (ring, R) in
      sym (horner_is_value (s ∷ cs) 0 (omega (arith, R.one-lt))) ∙ e

  horner-lt : (p : List ℕ) (x : ℕ) → Below size p → x < size → horner F p x < size
  horner-lt [] x hp hx = omega arith
  horner-lt (c ∷ p) x hp hx = R.add-lt _ _ hp.0 (R.mul-lt _ _ hx (horner-lt p x hp.1 hx))

  pub value-lt : (p : List ℕ) (x : ℕ) → Below size p → x < size → value F p x < size
  value-lt p x hp hx = subst (◌< size) (horner_is_value p x hx) (horner-lt p x hp hx)

  pub zeros_lt : (n : ℕ) → Below size (replicate n 0)
  zeros_lt zero = tt
  zeros_lt (suc n) = (omega (arith, R.one-lt), zeros_lt n)

  horner-append : (p q : List ℕ) (x : ℕ) → horner F (p ++ q) x ≡ horner F p x ⊕ horner F (replicate (length p) 0 ++ q) x
  horner-append [] q x = let h = horner F q x in let e : h ≡ 0 ⊕ h = simp (ring, R) in e
  horner-append (c ∷ p) q x =
      let h = horner F p x in
      let g = horner F (replicate (length p) 0 ++ q) x in
      let e : c ⊕ x ⊗ (h ⊕ g) ≡ (c ⊕ x ⊗ h) ⊕ (0 ⊕ x ⊗ g) = simp (ring, R) in
      ap (λ t. c ⊕ x ⊗ t) (horner-append p q x) ∙ e

  pub value-append : (p q : List ℕ) (k x : ℕ) → length p ≡ k → x < size → value F (p ++ q) x ≡ value F p x ⊕ value F (replicate k 0 ++ q) x
  value-append p q k x l hx =
      rw (← horner_is_value (p ++ q) x hx, ← horner_is_value p x hx, ← horner_is_value (replicate k 0 ++ q) x hx, ← l) (horner-append p q x)

  horner_pad : (p : List ℕ) (n x : ℕ) → horner F (p ++ replicate n 0) x ≡ horner F p x
  horner_pad [] zero x = refl
  horner_pad [] (suc n) x = let e : 0 ⊕ x ⊗ 0 ≡ 0 = simp (ring, R) in ap (λ t. 0 ⊕ x ⊗ t) (horner_pad [] n x) ∙ e
  horner_pad (c ∷ p) n x = ap (λ t. c ⊕ x ⊗ t) (horner_pad p n x)

  pub value_pad : (p : List ℕ) (n x : ℕ) → x < size → value F (p ++ replicate n 0) x ≡ value F p x
  value_pad p n x hx = rw (← horner_is_value (p ++ replicate n 0) x hx, ← horner_is_value p x hx) (horner_pad p n x)

  -- ---- y + (X - a)·q

  horner_with : (a y : ℕ) (q : List ℕ) (x : ℕ) → horner F (with_value F a y q) x ≡ y ⊕ (x ⊕ a) ⊗ horner F q x
  horner_with a y [] x = simp (ring, R)
  horner_with a y (c ∷ q) x = ap (λ t. (y ⊕ a ⊗ c) ⊕ x ⊗ t) (horner_with a c q x) ∙ step (horner F q x)
    where
      step : (h : ℕ) → (y ⊕ a ⊗ c) ⊕ x ⊗ (c ⊕ (x ⊕ a) ⊗ h) ≡ y ⊕ (x ⊕ a) ⊗ (c ⊕ x ⊗ h)
      step h = simp (ring, R)

  pub value_with : (a y : ℕ) (q : List ℕ) (x : ℕ) → x < size → value F (with_value F a y q) x ≡ y ⊕ (x ⊕ a) ⊗ value F q x
  value_with a y q x hx = rw (← horner_is_value (with_value F a y q) x hx, ← horner_is_value q x hx) (horner_with a y q x)

  value_at : (a y : ℕ) (q : List ℕ) → a < size → value F (with_value F a y q) a ≡ y
  value_at a y q ha = let e : y ⊕ (a ⊕ a) ⊗ value F q a ≡ y = simp (ring, R) in value_with a y q a ha ∙ e

  length_with : (a y : ℕ) (q : List ℕ) → length (with_value F a y q) ≡ suc (length q)
  length_with a y [] = refl
  length_with a y (c ∷ q) = ap suc (length_with a c q)

  with_lt : (a y : ℕ) (q : List ℕ) → a < size → y < size → Below size q → Below size (with_value F a y q)
  with_lt a y [] ha hy hq = (hy, tt)
  with_lt a y (c ∷ q) ha hy hq = (R.add-lt _ _ hy (R.mul-lt _ _ ha hq.0), with_lt a c q ha hq.0 hq.1)

  -- division by X - a: each polynomial is y + (X - a)·q
  record Divided (a : ℕ) (p : List ℕ) : Type 0 where
    y : ℕ
    q : List ℕ
    y_lt : y < size
    q_lt : Below size q
    back : with_value F a y q ≡ p

  divide : (a c : ℕ) (p : List ℕ) → a < size → Below size (c ∷ p) → Divided a (c ∷ p)
  divide a c [] ha hp = record { y = c; q = []; y_lt = hp.0; q_lt = tt; back = refl }
  divide a c (d ∷ p) ha hp =
      let r = divide a d p ha hp.1 in
      let e : (c ⊕ a ⊗ r.y) ⊕ a ⊗ r.y ≡ c = simp (ring, R) in
      record { y = c ⊕ a ⊗ r.y; q = r.y ∷ r.q; y_lt = R.add-lt _ _ hp.0 (R.mul-lt _ _ ha r.y_lt); q_lt = (r.y_lt, r.q_lt); back = ap₂ ◌∷◌ e r.back }

  -- an element other than a
  abbrev pub Off : ℕ → ℕ → Type 0
  Off a x = (x < size) × (x ≡ a → ⊥)

  pub off : (a : ℕ) (xs : List ℕ) → Below size xs → Fresh a xs → All (Off a) xs
  off a = all_both _ _ (Off a) (λ x h k. (h, k))

  -- it has the value b just where q has the quotient
  module _ (a y : ℕ) (q : List ℕ) (ha : a < size) (x b : ℕ) (hx : Off a x) where
    with_up : y < size → b < size → value F q x ≡ (b ⊕ y) ⊗ inv (x ⊕ a) → value F (with_value F a y q) x ≡ b
    with_up hy hb e =
        let r : y ⊕ (b ⊕ y) ≡ b = simp (ring, R) in
        value_with a y q x hx.0 ∙ ap (λ t. y ⊕ (x ⊕ a) ⊗ t) e
        ∙ ap (y ⊕◌) (div-mul L (x ⊕ a) (R.add-lt _ _ hx.0 ha) (λ z. hx.1 (eq_of_add R x a z)) (b ⊕ y) (R.add-lt _ _ hb hy)) ∙ r

    with_down : Below size q → value F (with_value F a y q) x ≡ b → value F q x ≡ (b ⊕ y) ⊗ inv (x ⊕ a)
    with_down hq e =
        let r : (y ⊕ (x ⊕ a) ⊗ value F q x) ⊕ y ≡ (x ⊕ a) ⊗ value F q x = simp (ring, R) in
        sym (mul-div L (x ⊕ a) (R.add-lt _ _ hx.0 ha) (λ z. hx.1 (eq_of_add R x a z)) _ (value-lt q x hq hx.0))
        ∙ ap (◌⊗ inv (x ⊕ a)) (sym r ∙ ap (◌⊕ y) (sym (value_with a y q x hx.0) ∙ e))

  -- ---- the polynomial through points

  pub points_zip : {h : ℕ → ℕ → ℕ} → ((x y : ℕ) → x < size → y < size → h x y < size) → (xs ys : List ℕ) → Places F xs → length ys ≡ length xs → Below size ys
      → Points F xs (zip_with h xs ys)
  points_zip s xs ys p l hy = record { places = p; same = length-zip _ xs ys l; small = zip-lt s xs ys p.small hy }

  pub rest : (a y : ℕ) (xs ys : List ℕ) → Points F (a ∷ xs) (y ∷ ys) → Points F xs (quotients F a y xs ys)
  rest a y xs ys h = points_zip (λ x b hx hb. R.mul-lt _ _ (R.add-lt _ _ hb h.small.0) (L.inv-lt _ (R.add-lt _ _ hx h.places.small.0))) xs ys
      (record { distinct = h.places.distinct.1; small = h.places.small.1 }) (omega arith) h.small.1

  pub through : (xs ys : List ℕ) → Points F xs ys → Through F (length xs) xs ys (polynomial F xs ys)
  through [] [] h = record { long = refl; small = tt; fits = refl }
  through [] (y ∷ ys) h = absurd (omega arith)
  through (a ∷ xs) [] h = absurd (omega arith)
  through (a ∷ xs) (y ∷ ys) h =
      let ha = h.places.small.0 in
      let q = polynomial F xs (quotients F a y xs ys) in
      let t = through xs (quotients F a y xs ys) (rest a y xs ys h) in
      let o = off a xs h.places.small.1 h.places.distinct.0 in
      record {
        long = length_with a y q ∙ ap suc t.long;
        small = with_lt a y q ha h.small.0 t.small;
        fits = ap₂ ◌∷◌ (value_at a y q ha) (unzip (Off a) size (λ x b k. with_up a y q ha x b k h.small.0) xs ys (omega arith) o h.small.1 t.fits);
      }

  -- k coefficients are those of the polynomial through k of their points
  pub polynomial-only : (xs p : List ℕ) → length p ≡ length xs → Distinct xs → Below size xs → Below size p → polynomial F xs (map (value F p) xs) ≡ p
  polynomial-only [] [] l d hx hp = refl
  polynomial-only [] (c ∷ p) l d hx hp = absurd (omega arith)
  polynomial-only (a ∷ xs) [] l d hx hp = absurd (omega arith)
  polynomial-only (a ∷ xs) (c ∷ p) l d hx hp =
      let r = divide a c p hx.0 hp in
      let y = r.y in
      let q = r.q in
      subst (λ t. polynomial F (a ∷ xs) (map (value F t) (a ∷ xs)) ≡ t) r.back
      (ap (λ v. with_value F a v (polynomial F xs (quotients F a v xs (map (value F (with_value F a y q)) xs)))) (value_at a y q hx.0)
      ∙ ap (λ t. with_value F a y (polynomial F xs t)) (sym (zip-map (Off a) (λ x b k. with_down a y q hx.0 x b k r.q_lt) xs (off a xs hx.1 d.0)))
      ∙ ap (with_value F a y) (polynomial-only xs q (omega (arith, length_with a y q, ap length r.back)) d.1 hx.1 r.q_lt))

  -- fewer are followed by zeros
  pub polynomial_pad : (xs p : List ℕ) (n : ℕ) → length p + n ≡ length xs → Places F xs → Below size p → polynomial F xs (map (value F p) xs) ≡ p ++ replicate n 0
  polynomial_pad xs p n l h hp =
      ap (polynomial F xs) (map_same (◌< size) (λ x hx. sym (value_pad p n x hx)) xs h.small)
      ∙ polynomial-only xs (p ++ replicate n 0) (omega (arith, length-append p (replicate n 0), length-replicate {A = ℕ} n 0)) h.distinct h.small
      (all_append (◌< size) p (replicate n 0) hp (zeros_lt n))
