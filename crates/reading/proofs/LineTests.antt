-- What the tests of texts and of numbers say.
-- Assumes nothing.
use mathlib.Core.Path.{◌≡◌, refl, ap₂}
use mathlib.Core.Bool.{Bool, true, false, not, ◌&&◌}
use mathlib.Core.List.{List, [], ◌∷◌}
use Prim.Native.Nat.{ℕ, ◌≤◌}
use native.Mathlib.Omega.{arith}
use lib.Dec.{eqb, ltb}
use borrow.Author.Tests.{eqb-true, eq-eqb, ltb-true, ltb-false, lt-ltb, le-ltb, not-true}
use Rattle.shamir.specs.Lists.{Below}
use Rattle.reading.specs.Unsheet.{same, between, all_below}

pub both : (a b : Bool) → (a && b) ≡ true → (a ≡ true) × (b ≡ true)
both true b e = (refl, e)
both false b e = absurd (let z : ◌≡◌ {A = ℕ} 0 1 = cc in omega arith)

pub same_true : (xs ys : List ℕ) → same xs ys ≡ true → xs ≡ ys
same_true [] [] e = refl
same_true [] (y ∷ ys) e = absurd (let z : ◌≡◌ {A = ℕ} 0 1 = cc in omega arith)
same_true (x ∷ xs) [] e = absurd (let z : ◌≡◌ {A = ℕ} 0 1 = cc in omega arith)
same_true (x ∷ xs) (y ∷ ys) e = let p = both (eqb x y) (same xs ys) e in ap₂ ◌∷◌ (eqb-true x y p.0) (same_true xs ys p.1)

pub same_self : (xs : List ℕ) → same xs xs ≡ true
same_self [] = refl
same_self (x ∷ xs) = ap₂ ◌&&◌ (eq-eqb x x refl) (same_self xs)

pub below_true : (n : ℕ) (xs : List ℕ) → all_below n xs ≡ true → Below n xs
below_true n [] e = tt
below_true n (x ∷ xs) e = let p = both (ltb x n) (all_below n xs) e in (ltb-true x n p.0, below_true n xs p.1)

pub true_below : (n : ℕ) (xs : List ℕ) → Below n xs → all_below n xs ≡ true
true_below n [] h = refl
true_below n (x ∷ xs) h = ap₂ ◌&&◌ (lt-ltb x n h.0) (true_below n xs h.1)

pub between_true : (least most n : ℕ) → between least most n ≡ true → (least ≤ n) × (n ≤ most)
between_true least most n e =
    let p = both (not (ltb n least)) (not (ltb most n)) e in
    (ltb-false n least (not-true _ p.0), ltb-false most n (not-true _ p.1))

pub true_between : (least most n : ℕ) → least ≤ n → n ≤ most → between least most n ≡ true
true_between least most n h k = ap₂ (λ a b. not a && not b) (le-ltb n least h) (le-ltb most n k)
