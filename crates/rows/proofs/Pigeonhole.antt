-- No more distinct numbers below n than n.
-- Assumes nothing.
use mathlib.Core.Path.{◌≡◌, refl, subst}
use mathlib.Core.Bool.{Bool, true, false, cond}
use mathlib.Core.List.{List, [], ◌∷◌}
use Prim.Native.Nat.{ℕ, zero, suc, ◌≤◌}
use native.Mathlib.Omega.{arith}
use lib.Dec.{eqb}
use lib.ListN.{length}
use borrow.Author.Tests.{eqb-true, eqb-false}
use Rattle.shamir.specs.Lists.{All, Below, Fresh, Distinct}

-- xs without the first x
abbrev without : ℕ → List ℕ → List ℕ
without x [] = []
without x (a ∷ xs) = cond (eqb a x) xs (a ∷ without x xs)

length_without : (x : ℕ) (xs : List ℕ) → length xs ≤ suc (length (without x xs))
length_without x [] = omega arith
length_without x (a ∷ xs) = pick (eqb a x) (length_without x xs)
  where
    pick : (b : Bool) → length xs ≤ suc (length (without x xs)) → suc (length xs) ≤ suc (length (cond b xs (a ∷ without x xs)))
    pick true h = omega arith
    pick false h = omega arith

all_without : (P : ℕ → Type 0) (x : ℕ) (xs : List ℕ) → All P xs → All P (without x xs)
all_without P x [] h = tt
all_without P x (a ∷ xs) h = pick (eqb a x) (all_without P x xs h.1)
  where
    pick : (b : Bool) → All P (without x xs) → All P (cond b xs (a ∷ without x xs))
    pick true k = h.1
    pick false k = (h.0, k)

distinct_without : (x : ℕ) (xs : List ℕ) → Distinct xs → Distinct (without x xs)
distinct_without x [] d = tt
distinct_without x (a ∷ xs) d = pick (eqb a x) (distinct_without x xs d.1)
  where
    pick : (b : Bool) → Distinct (without x xs) → Distinct (cond b xs (a ∷ without x xs))
    pick true k = d.1
    pick false k = (all_without (λ e. e ≡ a → ⊥) x xs d.0, k)

below_fresh : (n : ℕ) (xs : List ℕ) → Fresh n xs → Below (suc n) xs → Below n xs
below_fresh n [] f b = tt
below_fresh n (a ∷ xs) f b = let e = f.0 in let h = b.0 in (omega arith, below_fresh n xs f.1 b.1)

below_without : (n : ℕ) (xs : List ℕ) → Distinct xs → Below (suc n) xs → Below n (without n xs)
below_without n [] d b = tt
below_without n (a ∷ xs) d b = pick (eqb a n) (eqb-true a n) (eqb-false a n) (below_without n xs d.1 b.1)
  where
    pick : (t : Bool) → (t ≡ true → a ≡ n) → (t ≡ false → a ≡ n → ⊥) → Below n (without n xs) → Below n (cond t xs (a ∷ without n xs))
    pick true e ne k = below_fresh n xs (subst (λ x. Fresh x xs) (e refl) d.0) b.1
    pick false e ne k = let h = b.0 in let q = ne refl in (omega arith, k)

pub pigeonhole : (n : ℕ) (xs : List ℕ) → Distinct xs → Below n xs → length xs ≤ n
pigeonhole zero [] d b = omega arith
pigeonhole zero (a ∷ xs) d b = absurd (omega (arith, b.0))
pigeonhole (suc n) xs d b = omega (arith, length_without n xs, pigeonhole n (without n xs) (distinct_without n xs d) (below_without n xs d b))
