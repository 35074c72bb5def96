-- Lagrange's sum is the interpolation. Assumes nothing.
use mathlib.Core.Path.{◌≡◌, ◌∙◌, sym, ap, ap₂, refl}
use mathlib.Core.List.{List, [], ◌∷◌, zip_with}
use mathlib.Core.Bool.{Bool, true, false, cond}
use Prim.Native.Nat.{ℕ, ◌<◌}
use native.Mathlib.Omega.{arith}
use lib.ListN.{length}
use lib.Dec.{eqb}
use borrow.Author.Tests.{eq-eqb, ne_eqb, eqb-false}
use Rattle.algebra.specs.Field.{Ops, Laws}
use Rattle.algebra.proofs.Ring.{ring, eq_of_add, mul-div, mul_ne-zero, inv-only}
use Rattle.shamir.specs.Lists.{All, Below, Distinct}
use Rattle.shamir.specs.Polynomial.{quotients, polynomial, others, weight, weighted}
use Rattle.shamir.specs.Theorems.{LagrangeIsInterpolation}
use Rattle.shamir.proofs.Polynomial.{Off, off, rest, value_with}

module _ {F : Ops} (L : Laws F) where
  infixl 60 ◌⊕◌
  infixl 70 ◌⊗◌
  open F use {size, add as ◌⊕◌, mul as ◌⊗◌, inv}
  open L use {ring as R}

  -- ---- products and weights

  others_same : (x z : ℕ) (xs : List ℕ) → others F x z (x ∷ xs) ≡ others F x z xs
  others_same x z xs = rw (eq-eqb x x refl)

  others_more : (x z a : ℕ) (xs : List ℕ) → (a ≡ x → ⊥) → others F x z (a ∷ xs) ≡ (z ⊕ a) ⊗ others F x z xs
  others_more x z a xs n = rw (ne_eqb a x n)

  -- one factor more, or not
  others_step : (P : ℕ → Type 0) (x z a : ℕ) (xs : List ℕ) → P (others F x z xs) → ((a ≡ x → ⊥) → P ((z ⊕ a) ⊗ others F x z xs)) → P (others F x z (a ∷ xs))
  others_step P x z a xs s t = pick (eqb a x) (eqb-false a x)
    where
      pick : (c : Bool) → (c ≡ false → a ≡ x → ⊥) → P (cond c (others F x z xs) ((z ⊕ a) ⊗ others F x z xs))
      pick true n = s
      pick false n = t (n refl)

  pub others-lt : (x z : ℕ) (xs : List ℕ) → z < size → Below size xs → others F x z xs < size
  others-lt x z [] hz h = R.one-lt
  others-lt x z (a ∷ xs) hz h =
      let k = others-lt x z xs hz h.1 in others_step (◌< size) x z a xs k (λ n. R.mul-lt _ _ (R.add-lt _ _ hz h.0) k)

  pub own_ne : (x : ℕ) (xs : List ℕ) → x < size → Below size xs → others F x x xs ≡ 0 → ⊥
  own_ne x [] hx h = λ e. omega arith
  own_ne x (a ∷ xs) hx h =
      let k = own_ne x xs hx h.1 in
      others_step (λ t. t ≡ 0 → ⊥) x x a xs k
      (λ n. mul_ne-zero L (x ⊕ a) (R.add-lt _ _ hx h.0) (λ e. n (sym (eq_of_add R x a e))) _ (others-lt x x xs hx h.1) k)

  inv-mul : (u v : ℕ) → u < size → v < size → (u ≡ 0 → ⊥) → (v ≡ 0 → ⊥) → inv (u ⊗ v) ≡ inv u ⊗ inv v
  inv-mul u v hu hv nu nv =
      let e : (u ⊗ v) ⊗ (inv u ⊗ inv v) ≡ (u ⊗ inv u) ⊗ (v ⊗ inv v) = simp (ring, R) in
      sym (inv-only L (u ⊗ v) (R.mul-lt u v hu hv) (mul_ne-zero L u hu nu v hv nv) (inv u ⊗ inv v) (R.mul-lt _ _ (L.inv-lt u hu) (L.inv-lt v hv))
      (e ∙ ap₂ ◌⊗◌ (L.mul-inv u hu nu) (L.mul-inv v hv nv) ∙ R.mul-one 1 R.one-lt))

  weight-same : (z x : ℕ) (xs : List ℕ) → weight F z (x ∷ xs) x ≡ weight F z xs x
  weight-same z x xs = ap₂ (λ u v. u ⊗ inv v) (others_same x z xs) (others_same x x xs)

  weight_more : (z a x : ℕ) (xs : List ℕ) → a < size → Off L a x → Below size xs → weight F z (a ∷ xs) x ≡ ((z ⊕ a) ⊗ inv (x ⊕ a)) ⊗ weight F z xs x
  weight_more z a x xs ha hx h =
      let n : a ≡ x → ⊥ = λ e. hx.1 (sym e) in
      let p = others F x z xs in
      let d = others F x x xs in
      let e : ((z ⊕ a) ⊗ p) ⊗ (inv (x ⊕ a) ⊗ inv d) ≡ ((z ⊕ a) ⊗ inv (x ⊕ a)) ⊗ (p ⊗ inv d) = simp (ring, R) in
      ap₂ (λ u v. u ⊗ inv v) (others_more x z a xs n) (others_more x x a xs n)
      ∙ ap (((z ⊕ a) ⊗ p) ⊗◌) (inv-mul (x ⊕ a) d (R.add-lt _ _ hx.0 ha) (others-lt x x xs hx.0 h) (λ e. hx.1 (eq_of_add R x a e)) (own_ne x xs hx.0 h)) ∙ e

  -- ---- the weights add up to 1

  abbrev total : (ℕ → ℕ) → List ℕ → ℕ
  total f [] = 0
  total f (x ∷ xs) = f x ⊕ total f xs

  linear_nil : (c d : ℕ) → 0 ≡ c ⊗ 0 ⊕ d ⊗ 0
  linear_nil c d = simp (ring, R)

  linear_cons : (c d g h s t : ℕ) → (c ⊗ g ⊕ d ⊗ h) ⊕ (c ⊗ s ⊕ d ⊗ t) ≡ c ⊗ (g ⊕ s) ⊕ d ⊗ (h ⊕ t)
  linear_cons c d g h s t = simp (ring, R)

  -- 1/((x - a)(x - b)) = (1/(x - a) - 1/(x - b)) / (a - b)
  inv_difference : (a b x : ℕ) → a < size → b < size → (a ≡ b → ⊥) → Off L a x → Off L b x → inv (x ⊕ a) ⊗ inv (x ⊕ b) ≡ inv (a ⊕ b) ⊗ (inv (x ⊕ a) ⊕ inv (x ⊕ b))
  inv_difference a b x ha hb n ka kb =
      let hu = R.add-lt x a ka.0 ha in
      let hv = R.add-lt x b ka.0 hb in
      let i = inv (x ⊕ a) in
      let j = inv (x ⊕ b) in
      let hi : i < size = L.inv-lt _ hu in
      let hj : j < size = L.inv-lt _ hv in
      let e : ((a ⊕ b) ⊗ (i ⊗ j)) ⊗ inv (a ⊕ b) ≡ inv (a ⊕ b) ⊗ (i ⊗ ((x ⊕ b) ⊗ j) ⊕ j ⊗ ((x ⊕ a) ⊗ i)) = simp (ring, R) in
      sym (mul-div L (a ⊕ b) (R.add-lt a b ha hb) (λ e. n (eq_of_add R a b e)) (i ⊗ j) (R.mul-lt i j hi hj))
      ∙ e
      ∙ ap (inv (a ⊕ b) ⊗◌)
      (ap₂ (λ s t. i ⊗ s ⊕ j ⊗ t) (L.mul-inv _ hv (λ e. kb.1 (eq_of_add R x b e))) (L.mul-inv _ hu (λ e. ka.1 (eq_of_add R x a e)))
      ∙ ap₂ ◌⊕◌ (R.mul-one i hi) (R.mul-one j hj))

  -- the weight among two points more, from the weights among one more
  weight_two : (z a b x : ℕ) (xs : List ℕ) → a < size → b < size → (a ≡ b → ⊥) → Below size xs → Off L a x → Off L b x
      → weight F z (a ∷ b ∷ xs) x ≡ (inv (a ⊕ b) ⊗ (z ⊕ b)) ⊗ weight F z (a ∷ xs) x ⊕ (inv (a ⊕ b) ⊗ (z ⊕ a)) ⊗ weight F z (b ∷ xs) x
  weight_two z a b x xs ha hb n h ka kb =
      let w = weight F z xs x in
      let i = inv (x ⊕ a) in
      let j = inv (x ⊕ b) in
      weight_more z a x (b ∷ xs) ha ka (hb, h) ∙ ap (((z ⊕ a) ⊗ i) ⊗◌) (weight_more z b x xs hb kb h)
      ∙ spread (z ⊕ a) (z ⊕ b) i j w (inv (a ⊕ b)) (inv_difference a b x ha hb n ka kb)
      ∙ ap₂ (λ s t. (inv (a ⊕ b) ⊗ (z ⊕ b)) ⊗ s ⊕ (inv (a ⊕ b) ⊗ (z ⊕ a)) ⊗ t) (sym (weight_more z a x xs ha ka h)) (sym (weight_more z b x xs hb kb h))
    where
      spread : (u v i j w k : ℕ) → i ⊗ j ≡ k ⊗ (i ⊕ j) → (u ⊗ i) ⊗ ((v ⊗ j) ⊗ w) ≡ (k ⊗ v) ⊗ ((u ⊗ i) ⊗ w) ⊕ (k ⊗ u) ⊗ ((v ⊗ j) ⊗ w)
      spread u v i j w k e =
          let s : (u ⊗ i) ⊗ ((v ⊗ j) ⊗ w) ≡ (u ⊗ (v ⊗ w)) ⊗ (i ⊗ j) = simp (ring, R) in
          let t : (u ⊗ (v ⊗ w)) ⊗ (k ⊗ (i ⊕ j)) ≡ (k ⊗ v) ⊗ ((u ⊗ i) ⊗ w) ⊕ (k ⊗ u) ⊗ ((v ⊗ j) ⊗ w) = simp (ring, R) in
          s ∙ ap ((u ⊗ (v ⊗ w)) ⊗◌) e ∙ t

  total_two : (z a b : ℕ) (all xs : List ℕ) → a < size → b < size → (a ≡ b → ⊥) → Below size all → All (Off L a) xs → All (Off L b) xs
      → total (weight F z (a ∷ b ∷ all)) xs ≡ (inv (a ⊕ b) ⊗ (z ⊕ b)) ⊗ total (weight F z (a ∷ all)) xs ⊕ (inv (a ⊕ b) ⊗ (z ⊕ a)) ⊗ total (weight F z (b ∷ all)) xs
  total_two z a b all [] ha hb n h ka kb = linear_nil (inv (a ⊕ b) ⊗ (z ⊕ b)) (inv (a ⊕ b) ⊗ (z ⊕ a))
  total_two z a b all (x ∷ xs) ha hb n h ka kb =
      ap₂ ◌⊕◌ (weight_two z a b x all ha hb n h ka.0 kb.0) (total_two z a b all xs ha hb n h ka.1 kb.1) ∙ linear_cons _ _ _ _ _ _

  -- by induction on the points, for all heads at once
  unity : (z : ℕ) (xs : List ℕ) (a : ℕ) → Distinct (a ∷ xs) → Below size (a ∷ xs) → weight F z xs a ⊕ total (weight F z (a ∷ xs)) xs ≡ 1
  unity z [] a d h = let e : 1 ⊗ inv 1 ⊕ 0 ≡ 1 ⊗ inv 1 = simp (ring, R) in e ∙ L.mul-inv 1 R.one-lt (λ e. omega arith)
  unity z (b ∷ xs) a d h =
      let ha = h.0 in
      let hb = h.1.0 in
      let hx = h.1.1 in
      let n : a ≡ b → ⊥ = λ e. d.0.0 (sym e) in
      let i = inv (a ⊕ b) in
      ap₂ ◌⊕◌ (weight_more z b a xs hb (ha, n) hx)
      (ap₂ ◌⊕◌ (weight_more z a b (b ∷ xs) ha (hb, d.0.0) (hb, hx) ∙ ap₂ (λ c w. ((z ⊕ a) ⊗ inv c) ⊗ w) (R.add_comm b a) (weight-same z b xs))
      (total_two z a b xs xs ha hb n hx (off L a xs hx d.0.1) (off L b xs hx d.1.0)))
      ∙ gather (z ⊕ a) (z ⊕ b) i _ _ _ _
      ∙ ap₂ (λ s t. i ⊗ ((z ⊕ b) ⊗ s ⊕ (z ⊕ a) ⊗ t)) (unity z xs a (d.0.1, d.1.1) (ha, hx)) (unity z xs b d.1 h.1)
      ∙ ends z a b i
      ∙ ap (◌⊗ 1) (L.mul-inv (a ⊕ b) (R.add-lt a b ha hb) (λ e. n (eq_of_add R a b e)))
      ∙ R.mul-one 1 R.one-lt
    where
      gather : (u v i p q s t : ℕ) → (v ⊗ i) ⊗ p ⊕ ((u ⊗ i) ⊗ q ⊕ ((i ⊗ v) ⊗ s ⊕ (i ⊗ u) ⊗ t)) ≡ i ⊗ (v ⊗ (p ⊕ s) ⊕ u ⊗ (q ⊕ t))
      gather u v i p q s t = simp (ring, R)

      ends : (z a b i : ℕ) → i ⊗ ((z ⊕ b) ⊗ 1 ⊕ (z ⊕ a) ⊗ 1) ≡ ((a ⊕ b) ⊗ i) ⊗ 1
      ends z a b i = simp (ring, R)

  -- ---- the sum

  -- what the first point takes off the others
  weighted_more : (z a y : ℕ) (all xs ys : List ℕ) → a < size → Below size all → All (Off L a) xs → length ys ≡ length xs
      → weighted F z (a ∷ all) xs ys ≡ y ⊗ total (weight F z (a ∷ all)) xs ⊕ (z ⊕ a) ⊗ weighted F z all xs (quotients F a y xs ys)
  unfolding zip_with
  weighted_more z a y all [] ys ha h k l = linear_nil y (z ⊕ a)
  weighted_more z a y all (x ∷ xs) [] ha h k l = absurd (omega arith)
  weighted_more z a y all (x ∷ xs) (b ∷ ys) ha h k l =
      let w = weight F z all x in
      let i = inv (x ⊕ a) in
      ap₂ ◌⊕◌
      (ap (b ⊗◌) (weight_more z a x all ha k.0 h) ∙ term b y (z ⊕ a) i w ∙ ap (λ t. y ⊗ t ⊕ (z ⊕ a) ⊗ (((b ⊕ y) ⊗ i) ⊗ w)) (sym (weight_more z a x all ha k.0 h)))
      (weighted_more z a y all xs ys ha h k.1 (omega arith))
      ∙ linear_cons _ _ _ _ _ _
    where
      term : (b y u i w : ℕ) → b ⊗ ((u ⊗ i) ⊗ w) ≡ y ⊗ ((u ⊗ i) ⊗ w) ⊕ u ⊗ (((b ⊕ y) ⊗ i) ⊗ w)
      term b y u i w = simp (ring, R)

  pub lagrange_is_interpolation : LagrangeIsInterpolation L
  lagrange_is_interpolation z [] ys hz h = refl
  lagrange_is_interpolation z (a ∷ xs) [] hz h = absurd (omega arith)
  lagrange_is_interpolation z (a ∷ xs) (y ∷ ys) hz h =
      let qs = quotients F a y xs ys in
      let hx = h.places.small in
      ap₂ ◌⊕◌ (ap (y ⊗◌) (weight-same z a xs)) (weighted_more z a y xs xs ys hx.0 hx.1 (off L a xs hx.1 h.places.distinct.0) (omega arith))
      ∙ gather y (z ⊕ a) _ _ _
      ∙ ap₂ ◌⊕◌ (ap (y ⊗◌) (unity z xs a h.places.distinct hx) ∙ R.mul-one y h.small.0) (ap ((z ⊕ a) ⊗◌) (lagrange_is_interpolation z xs qs hz (rest L a y xs ys h)))
      ∙ sym (value_with L a y (polynomial F xs qs) z hz)
    where
      gather : (y u w t s : ℕ) → y ⊗ w ⊕ (y ⊗ t ⊕ u ⊗ s) ≡ y ⊗ (w ⊕ t) ⊕ u ⊗ s
      gather y u w t s = simp (ring, R)
