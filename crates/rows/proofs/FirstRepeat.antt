-- The pair of refusal 7 is the one that document 02, §5, describes.
-- Assumes nothing.
use mathlib.Core.Path.{◌≡◌, refl, sym, ap, ◌∙◌, subst}
use mathlib.Core.Bool.{Bool, true, false, cond}
use mathlib.Core.List.{List, [], ◌∷◌, ◌++◌, append-nil, append_assoc}
use Prim.Native.Nat.{ℕ, zero, suc, ◌<◌, ◌≤◌}
use native.Mathlib.Omega.{arith}
use lib.Dec.{eqb, ltb}
use lib.ListN.{length, get_or, take}
use lib.Seq.{get_or-take, length-take-le}
use borrow.Author.Tests.{eqb-true, eqb-false, ltb-true, ltb-false}
use Rattle.shamir.specs.Lists.{Fresh}
use Rattle.shamir.proofs.Lists.{all_in}
use Rattle.rows.specs.Search.{place_of, repeating_behind, first_repeated, first_repeating, within}
use Rattle.rows.specs.Repeats.{FirstRepeat, Pair5775}
use Rattle.rows.proofs.Search.{place_fresh, place_most}
use Rattle.rows.proofs.Repeats.{judged, on_the_table, first_is, outside_both}

-- ---- one identifier

place_holds : (x : ℕ) (xs : List ℕ) → place_of x xs < length xs → get_or xs (place_of x xs) 0 ≡ x
place_holds x [] h = absurd (omega arith)
place_holds x (a ∷ xs) h = by_test (eqb a x) (eqb-true a x) h (place_holds x xs)
  where
    by_test : (b : Bool) → (b ≡ true → a ≡ x) → cond b 0 (suc (place_of x xs)) < suc (length xs)
        → (place_of x xs < length xs → get_or xs (place_of x xs) 0 ≡ x) → get_or (a ∷ xs) (cond b 0 (suc (place_of x xs))) 0 ≡ x
    by_test true e k later = e refl
    by_test false e k later = later (omega arith)

fresh_before : (x : ℕ) (xs : List ℕ) (j : ℕ) → j ≤ place_of x xs → Fresh x (take j xs)
fresh_before x xs zero h = tt
fresh_before x [] (suc j) h = tt
fresh_before x (a ∷ xs) (suc j) h = by_test (eqb a x) (eqb-false a x) h (fresh_before x xs j)
  where
    by_test : (b : Bool) → (b ≡ false → a ≡ x → ⊥) → suc j ≤ cond b 0 (suc (place_of x xs))
        → (j ≤ place_of x xs → Fresh x (take j xs)) → Fresh x (a ∷ take j xs)
    by_test true e k later = absurd (omega arith)
    by_test false e k later = (e refl, later (omega arith))

-- ---- laying rows down behind those that are on the table

-- it ends by any row whose identifier is on the table, ..
ends_by : (met ids : List ℕ) (b : ℕ) → b < length ids → (Fresh (get_or ids b 0) (met ++ take b ids) → ⊥) → repeating_behind met ids ≤ b
ends_by met [] b h n = absurd (omega arith)
ends_by met (x ∷ ids) zero h n = omega (arith, on_the_table met x ids (λ f. n (subst (Fresh x) (sym (append-nil met)) f)))
ends_by met (x ∷ ids) (suc b) h n =
    by_test (within (place_of x met) met)
    (ends_by (met ++ (x ∷ [])) ids b (omega arith) (λ f. n (subst (Fresh (get_or ids b 0)) (append_assoc met (x ∷ []) (take b ids)) f)))
  where
    by_test : (t : Bool) → repeating_behind (met ++ (x ∷ [])) ids ≤ b → judged met x ids t ≤ suc b
    by_test true k = omega arith
    by_test false k = omega arith

-- .. and at such a one
ends_at : (met ids : List ℕ) → repeating_behind met ids < length ids
    → Fresh (get_or ids (repeating_behind met ids) 0) (met ++ take (repeating_behind met ids) ids) → ⊥
ends_at met [] h f = omega arith
ends_at met (x ∷ ids) h f = by_test (within (place_of x met) met) refl h f (ends_at (met ++ (x ∷ [])) ids)
  where
    j : ℕ
    j = repeating_behind (met ++ (x ∷ [])) ids

    by_test : (t : Bool) → within (place_of x met) met ≡ t → judged met x ids t < suc (length ids)
        → Fresh (get_or (x ∷ ids) (judged met x ids t) 0) (met ++ take (judged met x ids t) (x ∷ ids))
        → (j < length ids → Fresh (get_or ids j 0) (met ++ (x ∷ []) ++ take j ids) → ⊥) → ⊥
    by_test true e k g later = omega (arith, ltb-true (place_of x met) (length met) e, place_fresh x met (subst (Fresh x) (append-nil met) g))
    by_test false e k g later = later (omega arith) (subst (Fresh (get_or ids j 0)) (sym (append_assoc met (x ∷ []) (take j ids))) g)

-- ---- the pair

either_way : (a b : ℕ) {P : Type 0} → (a < b → P) → (b ≤ a → P) → P
either_way a b {P} f g = by_test (ltb a b) (ltb-true a b) (ltb-false a b)
  where
    by_test : (t : Bool) → (t ≡ true → a < b) → (t ≡ false → b ≤ a) → P
    by_test true lt le = f (lt refl)
    by_test false lt le = g (le refl)

module _ (ids : List ℕ) where
  abbrev i : ℕ
  i = first_repeated ids

  abbrev j : ℕ
  j = first_repeating ids

  least : (a b : ℕ) → a < b → b < length ids → get_or ids a 0 ≡ get_or ids b 0 → j ≤ b
  least a b h hb e =
      ends_by [] ids b hb (λ f. all_in (λ y. y ≡ get_or ids b 0 → ⊥) (take b ids) a (omega (arith, length-take-le b ids (omega arith))) f (get_or-take b ids a 0 h ∙ e))

  module _ (h : j < length ids) where
    earlier : i < j
    earlier =
        either_way i j (λ k. k)
        (λ k. absurd (ends_at [] ids h (fresh_before (get_or ids j 0) ids j (omega (arith, first_is ids h)))))

    same : get_or ids i 0 ≡ get_or ids j 0
    same = ap (λ n. get_or ids n 0) (first_is ids h) ∙ place_holds (get_or ids j 0) ids (omega (arith, place_most ids j h))

    -- two of them would be a repeat before j
    only : (a : ℕ) → a < j → get_or ids a 0 ≡ get_or ids j 0 → a ≡ i
    only a k e =
        either_way a i
        (λ l. absurd (omega (arith, earlier, least a i l (omega (arith, earlier)) (e ∙ sym same))))
        (λ l. either_way i a
        (λ m. absurd (omega (arith, least i a m (omega arith) (same ∙ sym e))))
        (λ m. omega arith))

  pub first_repeat : FirstRepeat ids
  first_repeat = record {
    least = least;
    earlier = earlier;
    same = same;
    only = λ a h. only h a;
    neither = λ h. ltb-false i (length ids) (outside_both ids h);
  }

pub pair_5775 : Pair5775
pair_5775 = record { first = refl; second = refl }
