-- What the loops over identifiers compute are Lagrange's coefficients for the value at 0: with the product of all identifiers in
-- hand, one inverse and one product give the coefficient of each.
-- Assumes nothing.
use mathlib.Core.Path.{◌≡◌, refl, sym, ap, ap₂, ◌∙◌}
use mathlib.Core.Bool.{Bool, true, false, cond}
use mathlib.Core.List.{List, [], ◌∷◌, ◌++◌, foldr, map, zip_with}
use Prim.Native.Nat.{ℕ, suc, ◌+◌, ◌<◌}
use native.Mathlib.Numerals.{add-one}
use native.Mathlib.Omega.{arith}
use lib.Bits.{bit_xor}
use lib.Dec.{eqb}
use lib.ListN.{length, get_or, take}
use lib.Seq.{take-suc}
use borrow.Author.Tests.{eq-eqb, ne_eqb}
use Rattle.algebra.specs.Field.{Ops, Laws}
use Rattle.algebra.proofs.Ring.{ring, zero-add, mul_left_comm, mul_ne-zero, cancel}
use Rattle.gf256.specs.Field256.{mul256, inv256, gf256}
use Rattle.gf256.proofs.Field256.{ring256, laws256}
use Rattle.shamir.specs.Lists.{All, Below, Fresh, Distinct}
use Rattle.shamir.specs.Polynomial.{others, weight}
use Rattle.shamir.proofs.Lists.{all_both, map_same}
use Rattle.shamir.proofs.Lagrange.{others-lt, own_ne}

-- ---- the denominators, from the first identifier to the last

zip-zip : (f g h : ℕ → ℕ → ℕ) (ds xs : List ℕ) → ((d x : ℕ) → g (f d x) x ≡ h d x) → zip_with g (zip_with f ds xs) xs ≡ zip_with h ds xs
unfolding zip_with
zip-zip f g h [] xs s = refl
zip-zip f g h (d ∷ ds) [] s = refl
zip-zip f g h (d ∷ ds) (x ∷ xs) s = ap₂ ◌∷◌ (s d x) (zip-zip f g h ds xs s)

pub denominators_none : (ds xs : List ℕ) → length ds ≡ length xs → ((k : ℕ) → get_or ds k 0 < 256) → ds ≡ zip_with (λ d x. mul256 d 1) ds xs
unfolding zip_with
denominators_none [] xs e h = refl
denominators_none (d ∷ ds) [] e h = absurd (omega arith)
denominators_none (d ∷ ds) (x ∷ xs) e h = ap₂ ◌∷◌ (sym (ring256.mul-one d (h 0))) (denominators_none ds xs (omega arith) (λ k. h (suc k)))

-- one identifier more, behind the others
others-snoc : (x a : ℕ) (ys : List ℕ) → others gf256 x x (ys ++ a ∷ []) ≡ cond (eqb a x) (others gf256 x x ys) (mul256 (others gf256 x x ys) (bit_xor x a))
others-snoc x a [] = ap (cond (eqb a x) 1) (ring256.mul_comm (bit_xor x a) 1)
others-snoc x a (y ∷ ys) =
    let o = others gf256 x x ys in
    ap (λ o. cond (eqb y x) o (mul256 (bit_xor x y) o)) (others-snoc x a ys) ∙ past (eqb y x) (eqb a x) (bit_xor x y) o (bit_xor x a)
  where
    past : (b c : Bool) (g o f : ℕ) → cond b (cond c o (mul256 o f)) (mul256 g (cond c o (mul256 o f))) ≡ cond c (cond b o (mul256 g o)) (mul256 (cond b o (mul256 g o)) f)
    past true c g o f = refl
    past false true g o f = refl
    past false false g o f = sym (ring256.mul_assoc g o f)

factor_in : (b : Bool) (d o f : ℕ) → cond b (mul256 d o) (mul256 (mul256 d o) f) ≡ mul256 d (cond b o (mul256 o f))
factor_in true d o f = refl
factor_in false d o f = ring256.mul_assoc d o f

pub denominators_next : (xs ds₀ ds ds₁ : List ℕ) (i : ℕ) → i < length xs
    → ds ≡ zip_with (λ d x. mul256 d (others gf256 x x (take i xs))) ds₀ xs
    → ds₁ ≡ zip_with (λ d x. cond (eqb (get_or xs i 0) x) d (mul256 d (bit_xor x (get_or xs i 0)))) ds xs
    → ds₁ ≡ zip_with (λ d x. mul256 d (others gf256 x x (take (i + 1) xs))) ds₀ xs
denominators_next xs ds₀ ds ds₁ i h e e₁ =
    let a = get_or xs i 0 in
    let t : take i xs ++ a ∷ [] ≡ take (i + 1) xs = sym (ap (λ n. take n xs) (add-one i) ∙ take-suc xs i 0 h) in
    e₁
    ∙ ap (λ d. zip_with (λ d x. cond (eqb a x) d (mul256 d (bit_xor x a))) d xs) e
    ∙ zip-zip _ _ (λ d x. mul256 d (others gf256 x x (take (i + 1) xs))) ds₀ xs
    (λ d x. factor_in (eqb a x) d (others gf256 x x (take i xs)) (bit_xor x a)
    ∙ ap (mul256 d) (sym (others-snoc x a (take i xs)) ∙ ap (others gf256 x x) t))

-- ---- over any field

module _ {F : Ops} (L : Laws F) where
  infixl 60 ◌⊕◌
  infixl 70 ◌⊗◌
  open F use {size, add as ◌⊕◌, mul as ◌⊗◌, inv}
  open L use {ring as R}

  all_others : (x : ℕ) (xs : List ℕ) → Fresh x xs → foldr ◌⊗◌ 1 xs ≡ others F x 0 xs
  all_others x [] f = refl
  all_others x (a ∷ xs) f =
      ap₂ ◌⊗◌ (sym (zero-add R a)) (all_others x xs f.1) ∙ sym (ap (λ b. cond b (others F x 0 xs) ((0 ⊕ a) ⊗ others F x 0 xs)) (ne_eqb a x f.0))

  -- the product of all is each times that of the others
  all_but : (xs : List ℕ) → Distinct xs → All (λ x. foldr ◌⊗◌ 1 xs ≡ x ⊗ others F x 0 xs) xs
  all_but [] d = tt
  all_but (a ∷ xs) d = (
    ap (a ⊗◌) (all_others a xs d.0 ∙ sym (ap (λ b. cond b (others F a 0 xs) ((0 ⊕ a) ⊗ others F a 0 xs)) (eq-eqb a a refl))),
    all_both (λ x. foldr ◌⊗◌ 1 xs ≡ x ⊗ others F x 0 xs) (λ x. x ≡ a → ⊥) _ later xs (all_but xs d.1) d.0,
  )
    where
      later : (x : ℕ) → foldr ◌⊗◌ 1 xs ≡ x ⊗ others F x 0 xs → (x ≡ a → ⊥) → a ⊗ foldr ◌⊗◌ 1 xs ≡ x ⊗ others F x 0 (a ∷ xs)
      later x e n =
          ap (a ⊗◌) e ∙ mul_left_comm R a x (others F x 0 xs)
          ∙ ap (x ⊗◌)
          (ap (◌⊗ others F x 0 xs) (sym (zero-add R a))
          ∙ sym (ap (λ b. cond b (others F x 0 xs) ((0 ⊕ a) ⊗ others F x 0 xs)) (ne_eqb a x (λ z. n (sym z)))))

  -- u / (u d) is 1 / d
  over : (u d : ℕ) → u < size → d < size → (u ≡ 0 → ⊥) → (d ≡ 0 → ⊥) → u ⊗ inv (u ⊗ d) ≡ inv d
  over u d hu hd nu nd =
      let hud = R.mul-lt u d hu hd in
      let e : d ⊗ (u ⊗ inv (u ⊗ d)) ≡ (u ⊗ d) ⊗ inv (u ⊗ d) = simp (ring, R) in
      cancel L d hd nd (u ⊗ inv (u ⊗ d)) (inv d) (R.mul-lt _ _ hu (L.inv-lt _ hud)) (L.inv-lt _ hd)
      (e ∙ L.mul-inv (u ⊗ d) hud (mul_ne-zero L u hu nu d hd nd) ∙ sym (L.mul-inv d hd nd))

  group : (i x n : ℕ) → i ⊗ (x ⊗ n) ≡ n ⊗ (x ⊗ i)
  group i x n = simp (ring, R)

  weighed : (all : List ℕ) → Below size all → (x : ℕ) → (x < size) × (x ≡ 0 → ⊥) → foldr ◌⊗◌ 1 all ≡ x ⊗ others F x 0 all
      → inv (x ⊗ others F x x all) ⊗ foldr ◌⊗◌ 1 all ≡ weight F 0 all x
  weighed all b x h e =
      let m = others F x x all in
      ap (inv (x ⊗ m) ⊗◌) e ∙ group (inv (x ⊗ m)) x (others F x 0 all)
      ∙ ap (others F x 0 all ⊗◌) (over x m h.0 (others-lt L x x all h.0 b) h.1 (own_ne L x all h.0 b))

  pub weights : (xs : List ℕ) → Below size xs → Distinct xs → Fresh 0 xs → map (λ x. inv (x ⊗ others F x x xs) ⊗ foldr ◌⊗◌ 1 xs) xs ≡ map (weight F 0 xs) xs
  weights xs b d f =
      map_same (λ x. ((x < size) × (x ≡ 0 → ⊥)) × (foldr ◌⊗◌ 1 xs ≡ x ⊗ others F x 0 xs)) (λ x h. weighed xs b x h.0 h.1) xs
      (all_both (λ x. (x < size) × (x ≡ 0 → ⊥)) (λ x. foldr ◌⊗◌ 1 xs ≡ x ⊗ others F x 0 xs) _ (λ x p q. (p, q)) xs
      (all_both (◌< size) (λ x. x ≡ 0 → ⊥) _ (λ x p q. (p, q)) xs b f)
      (all_but xs d))

-- ---- the coefficients

zip_self : (f : ℕ → ℕ) (g : ℕ → ℕ → ℕ) (xs : List ℕ) → map f (zip_with g xs xs) ≡ map (λ x. f (g x x)) xs
unfolding zip_with
zip_self f g [] = refl
zip_self f g (x ∷ xs) = ap (f (g x x) ∷◌) (zip_self f g xs)

pub coefficients_are : (xs ds ds₁ ds₂ : List ℕ) (p : ℕ) → Below 256 xs → Distinct xs → Fresh 0 xs → ds ≡ xs
    → ds₁ ≡ zip_with (λ d x. mul256 d (others gf256 x x xs)) ds xs → p ≡ foldr mul256 1 xs → ds₂ ≡ map (λ d. mul256 (inv256 d) p) ds₁
    → ds₂ ≡ map (weight gf256 0 xs) xs
coefficients_are xs ds ds₁ ds₂ p b d f e e₁ ep e₂ =
    e₂
    ∙ ap₂ (λ q l. map (λ d. mul256 (inv256 d) q) l) ep (e₁ ∙ ap (λ l. zip_with (λ d x. mul256 d (others gf256 x x xs)) l xs) e)
    ∙ zip_self (λ d. mul256 (inv256 d) (foldr mul256 1 xs)) (λ d x. mul256 d (others gf256 x x xs)) xs
    ∙ weights laws256 xs b d f
