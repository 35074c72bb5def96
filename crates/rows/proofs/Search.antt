-- The search one place further, and what it says of a list that it finds nothing.
-- Assumes nothing.
use mathlib.Core.Path.{◌≡◌, refl, ap, ◌∙◌}
use mathlib.Core.Bool.{Bool, true, false, cond}
use mathlib.Core.List.{List, [], ◌∷◌}
use Prim.Native.Nat.{ℕ, zero, suc, ◌+◌, ◌-◌, ◌<◌, ◌≤◌}
use native.Mathlib.Numerals.{add-one}
use native.Mathlib.Omega.{arith}
use lib.Dec.{eqb}
use lib.ListN.{length, get_or, drop, drop_of_length-le}
use lib.Seq.{drop-cons}
use borrow.Author.Tests.{eq-eqb, ne_eqb, eqb-false, le-ltb}
use Rattle.shamir.specs.Lists.{Fresh}
use Rattle.std.specs.Prelude.{Option, None, Some}
use Rattle.std.specs.Option.{MatchOption}
use Rattle.rows.specs.Search.{place_of, within, IsFound}

-- ---- one place further

module _ (xs : List ℕ) (i : ℕ) (h : i < length xs) where
  module _ (x : ℕ) where
    place_drop : place_of x (drop i xs) ≡ cond (eqb (get_or xs i 0) x) 0 (suc (place_of x (drop (i + 1) xs)))
    place_drop = rw (add-one, drop-cons xs i 0)

    found : get_or xs i 0 ≡ x → place_of x (drop i xs) ≡ 0
    found e = place_drop ∙ ap (λ b. cond b 0 (suc (place_of x (drop (i + 1) xs)))) (eq-eqb (get_or xs i 0) x e)

    passed : (get_or xs i 0 ≡ x → ⊥) → place_of x (drop i xs) ≡ suc (place_of x (drop (i + 1) xs))
    passed e = place_drop ∙ ap (λ b. cond b 0 (suc (place_of x (drop (i + 1) xs)))) (ne_eqb (get_or xs i 0) x e)

-- x is not among those from a up to b
abbrev Without : ℕ → List ℕ → ℕ → ℕ → Type 0
Without x xs a b = (k : ℕ) → a ≤ k → k < b → get_or xs k 0 ≡ x → ⊥

passed-all : (x : ℕ) (xs : List ℕ) (a n b : ℕ) → n + a ≡ b → b ≤ length xs → Without x xs a b → place_of x (drop a xs) ≡ n + place_of x (drop b xs)
passed-all x xs a zero b e h f = let z : a ≡ b = omega arith in omega (arith, ap (λ i. place_of x (drop i xs)) z)
passed-all x xs a (suc n) b e h f =
    omega (arith, passed xs a (omega arith) x (f a (omega arith) (omega arith)), passed-all x xs (a + 1) n b (omega arith) h (λ k l. f k (omega arith)))

-- what a search from a place on tells
pub search_told : (o : Option ℕ) (x a n : ℕ) (xs : List ℕ) → length xs ≡ n → a ≤ n
    → MatchOption o (Without x xs a n) (λ i. (a ≤ i) × (i < n) × (get_or xs i 0 ≡ x) × Without x xs a i)
    → IsFound o (a + place_of x (drop a xs)) n
search_told None x a n xs e h f =
    omega (arith, passed-all x xs a (n - a) n (omega arith) (omega arith) f, ap (place_of x) (drop_of_length-le xs {i = n} (omega arith)))
search_told (Some i) x a n xs e h f =
    (omega (arith, passed-all x xs a (i - a) i (omega (arith, f.0)) (omega (arith, f.1)) f.3, found xs i (omega (arith, f.1)) x f.2), f.1)

-- ---- nothing found

pub fresh_of : (x : ℕ) (xs : List ℕ) → length xs ≤ place_of x xs → Fresh x xs
fresh_of x [] h = tt
fresh_of x (a ∷ xs) h = let p = pass (eqb a x) (eqb-false a x) h in (p.0, fresh_of x xs p.1)
  where
    pass : (b : Bool) → (b ≡ false → a ≡ x → ⊥) → suc (length xs) ≤ cond b 0 (suc (place_of x xs)) → (a ≡ x → ⊥) × (length xs ≤ place_of x xs)
    pass true f h = absurd (omega arith)
    pass false f h = (f refl, omega arith)

pub place_fresh : (x : ℕ) (xs : List ℕ) → Fresh x xs → place_of x xs ≡ length xs
place_fresh x [] f = refl
place_fresh x (a ∷ xs) f = ap (λ b. cond b 0 (suc (place_of x xs))) (ne_eqb a x f.0) ∙ ap suc (place_fresh x xs f.1)

pub not_within : (place : ℕ) (xs : List ℕ) → place ≡ length xs → within place xs ≡ false
not_within place xs e = le-ltb place (length xs) (omega arith)

pub place_most : (xs : List ℕ) (j : ℕ) → j < length xs → place_of (get_or xs j 0) xs ≤ j
place_most [] j h = absurd (omega arith)
place_most (a ∷ xs) zero h = let e : place_of a (a ∷ xs) ≡ 0 = ap (λ b. cond b 0 (suc (place_of a xs))) (eq-eqb a a refl) in omega arith
place_most (a ∷ xs) (suc j) h = at_most (eqb a (get_or xs j 0)) (place_most xs j (omega arith))
  where
    at_most : (b : Bool) → place_of (get_or xs j 0) xs ≤ j → cond b 0 (suc (place_of (get_or xs j 0) xs)) ≤ suc j
    at_most true p = omega arith
    at_most false p = omega arith
