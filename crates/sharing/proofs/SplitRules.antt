-- What the rules of split say as the code goes through them: the identifiers a place at a time, and that no product is large.
-- Assumes nothing.
use mathlib.Core.Path.{◌≡◌, refl, ◌∙◌, ap, subst}
use mathlib.Core.Bool.{Bool, not}
use mathlib.Core.List.{List, [], ◌∷◌}
use Prim.Native.Nat.{ℕ, zero, suc, ◌+◌, ◌<◌, ◌≤◌}
use native.Mathlib.Omega.{arith}
use lib.Dec.{eqb, ltb}
use lib.ListN.{length, take}
use borrow.Author.Tests.{eq-eqb, ne_eqb, le-ltb}
use Rattle.std.specs.Prelude.{Option, None, Some}
use Rattle.std.specs.List.{AllWithin, HoldsAt}
use Rattle.std.specs.Option.{MatchOption}
use Rattle.answer.specs.Outcome.{Outcome, done, refused, refuse}
use Rattle.row_set.specs.Limits.{max_secret, max_shares}
use Rattle.sharing.specs.Split.{in_turn, coefficient_count, split_room, split_outcome}

-- what comes after the identifiers
abbrev pub after_ids : ℕ → ℕ → ℕ → ℕ → ℕ → Outcome
after_ids t n l count room =
    refuse (ltb max_secret l) (refused 10 0 0)
    (refuse (not (eqb count (coefficient_count t l))) (refused 11 0 0)
    (refuse (ltb room (split_room n l)) (refused 12 0 0)
    (done (split_room n l))))

module _ (t n l : ℕ) (ids : List ℕ) (count room : ℕ) where
  -- what comes before them
  pub before_ids : n ≤ max_shares → (l ≡ 0 → ⊥) → t ≤ n → 2 ≤ t → split_outcome t n l ids count room ≡ in_turn 0 n ids (after_ids t n l count room)
  unfolding split_outcome
  before_ids few some most least = simp (le-ltb max_shares n few, ne_eqb l 0 some, le-ltb n t most, le-ltb t 2 least)

abbrev NotZero : ℕ → Type 0
NotZero x = x ≡ 0 → ⊥

module _ (later : Outcome) where
  abbrev turn : (b : Bool) (i n : ℕ) (ids : List ℕ) → Outcome
  turn b i n ids = refuse b (refused 6 i 0) (in_turn (suc i) n ids later)

  -- the first zero among n identifiers
  zero-met : (n i : ℕ) (ids : List ℕ) (k : ℕ) → k < length (take n ids) → HoldsAt (λ x. x ≡ 0) (take n ids) k → AllWithin NotZero (take n ids) 0 k
      → in_turn i n ids later ≡ refused 6 (i + k) 0
  zero-met zero i ids k h z f = absurd (omega arith)
  zero-met (suc n) i [] k h z f = absurd (omega arith)
  zero-met (suc n) i (x ∷ ids) zero h z f =
      ap (λ b. turn b i n ids) (eq-eqb x 0 (z x)) ∙ ap (λ j. refused 6 j 0) (let e : i ≡ i + 0 = omega arith in e)
  zero-met (suc n) i (x ∷ ids) (suc k) h z f =
      ap (λ b. turn b i n ids) (ne_eqb x 0 (f 0 x (omega arith) (omega arith)))
      ∙ zero-met n (suc i) ids k (omega arith) (λ d. z d) (λ k d a b. f (suc k) d (omega arith) (omega arith))
      ∙ ap (λ j. refused 6 j 0) (let e : suc i + k ≡ i + suc k = omega arith in e)

  -- none of them is zero: they are too few, or all is well
  too_few : (n i : ℕ) (ids : List ℕ) → AllWithin NotZero (take n ids) 0 (length (take n ids)) → length ids < n → in_turn i n ids later ≡ refused 5 0 0
  too_few zero i ids f h = absurd (omega arith)
  too_few (suc n) i [] f h = refl
  too_few (suc n) i (x ∷ ids) f h =
      ap (λ b. turn b i n ids) (ne_eqb x 0 (f 0 x (omega arith) (omega arith)))
      ∙ too_few n (suc i) ids (λ k d a b. f (suc k) d (omega arith) (omega arith)) (omega arith)

  all_well : (n i : ℕ) (ids : List ℕ) → AllWithin NotZero (take n ids) 0 (length (take n ids)) → n ≤ length ids → in_turn i n ids later ≡ later
  all_well zero i ids f h = refl
  all_well (suc n) i [] f h = absurd (omega arith)
  all_well (suc n) i (x ∷ ids) f h =
      ap (λ b. turn b i n ids) (ne_eqb x 0 (f 0 x (omega arith) (omega arith)))
      ∙ all_well n (suc i) ids (λ k d a b. f (suc k) d (omega arith) (omega arith)) (omega arith)

-- what a search for a zero among the first n tells
abbrev pub Sought : ℕ → List ℕ → Option ℕ → Type 0
Sought n ids r = MatchOption r (AllWithin NotZero (take n ids) 0 (length (take n ids))) (λ k. (k < length (take n ids)) × HoldsAt (λ x. x ≡ 0) (take n ids) k × AllWithin NotZero (take n ids) 0 k)

module _ (later : Outcome) (n : ℕ) (ids : List ℕ) (r : Option ℕ) (s : Sought n ids r) where
  pub found_zero : (k : ℕ) → r ≡ Some k → in_turn 0 n ids later ≡ refused 6 k 0
  found_zero k e =
      let p = subst (Sought n ids) e s in
      zero-met later n 0 ids k p.0 p.1 p.2 ∙ ap (λ j. refused 6 j 0) (let z : 0 + k ≡ k = omega arith in z)

  pub found_few : r ≡ None → length ids < n → in_turn 0 n ids later ≡ refused 5 0 0
  found_few e h = too_few later n 0 ids (subst (Sought n ids) e s) h

  pub found_all : r ≡ None → n ≤ length ids → in_turn 0 n ids later ≡ later
  found_all e h = all_well later n 0 ids (subst (Sought n ids) e s) h
