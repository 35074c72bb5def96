-- Fewer than n numbers leave out one below n; and different numbers one behind the other.
-- Assumes nothing.
use mathlib.Core.Path.{◌≡◌, refl, sym, ◌∙◌}
use mathlib.Core.Bool.{Bool, true, false, cond}
use mathlib.Core.List.{List, [], ◌∷◌, ◌++◌}
use mathlib.Core.Logic.{◌⊎◌, inl, inr, ⊎_elim}
use Prim.Native.Nat.{ℕ, zero, suc, ◌<◌, ◌≤◌}
use native.Mathlib.Omega.{arith}
use lib.Dec.{eqb}
use lib.ListN.{length}
use borrow.Author.Tests.{eqb-true, eqb-false}
use Rattle.shamir.specs.Lists.{Fresh, Distinct}
use Rattle.shamir.proofs.Lists.{all_append, all_parts}

-- xs without any x
abbrev others : ℕ → List ℕ → List ℕ
others x [] = []
others x (a ∷ xs) = cond (eqb a x) (others x xs) (a ∷ others x xs)

no_more : (x : ℕ) (xs : List ℕ) → length (others x xs) ≤ length xs
no_more x [] = omega arith
no_more x (a ∷ xs) = pick (eqb a x) (no_more x xs)
  where
    pick : (b : Bool) → length (others x xs) ≤ length xs → length (cond b (others x xs) (a ∷ others x xs)) ≤ suc (length xs)
    pick true h = omega arith
    pick false h = omega arith

fresh_or_fewer : (x : ℕ) (xs : List ℕ) → Fresh x xs ⊎ (length (others x xs) < length xs)
fresh_or_fewer x [] = inl tt
fresh_or_fewer x (a ∷ xs) = pick (eqb a x) (eqb-false a x) (fresh_or_fewer x xs)
  where
    pick : (b : Bool) → (b ≡ false → a ≡ x → ⊥) → Fresh x xs ⊎ (length (others x xs) < length xs)
        → Fresh x (a ∷ xs) ⊎ (length (cond b (others x xs) (a ∷ others x xs)) < suc (length xs))
    pick true f r = inr (omega (arith, no_more x xs))
    pick false f r = ⊎_elim (λ k. inl (f refl, k)) (λ k. inr (omega arith)) r

fresh_others : (x y : ℕ) (xs : List ℕ) → (x ≡ y → ⊥) → Fresh y (others x xs) → Fresh y xs
fresh_others x y [] ne f = tt
fresh_others x y (a ∷ xs) ne f = pick (eqb a x) (eqb-true a x) f (fresh_others x y xs ne)
  where
    pick : (b : Bool) → (b ≡ true → a ≡ x) → Fresh y (cond b (others x xs) (a ∷ others x xs)) → (Fresh y (others x xs) → Fresh y xs) → Fresh y (a ∷ xs)
    pick true e k later = ((λ q. ne (sym (e refl) ∙ q)), later k)
    pick false e k later = (k.0, later k.1)

pub fresh_number : (n : ℕ) (xs : List ℕ) → length xs < n → (x : ℕ) × (x < n) × Fresh x xs
fresh_number zero xs h = absurd (omega arith)
fresh_number (suc n) xs h =
    ⊎_elim
    (λ f. (n, omega arith, f))
    (λ k. let r = fresh_number n (others n xs) (omega arith) in let l = r.1 in (r.0, omega arith, fresh_others n r.0 xs (λ e. omega arith) r.2))
    (fresh_or_fewer n xs)

-- ---- different numbers

pub distinct_then : (xs : List ℕ) (x : ℕ) → Distinct xs → Fresh x xs → Distinct (xs ++ (x ∷ []))
distinct_then [] x d f = (tt, tt)
distinct_then (a ∷ xs) x d f =
    (all_append (λ b. b ≡ a → ⊥) xs (x ∷ []) d.0 ((λ e. f.0 (sym e)), tt), distinct_then xs x d.1 f.1)

-- one is not among those before it
pub distinct-before : (xs : List ℕ) (x : ℕ) (ys : List ℕ) → Distinct (xs ++ x ∷ ys) → Fresh x xs
distinct-before [] x ys d = tt
distinct-before (a ∷ xs) x ys d = ((λ e. (all_parts (λ b. b ≡ a → ⊥) xs (x ∷ ys) d.0).1.0 (sym e)), distinct-before xs x ys d.1)
