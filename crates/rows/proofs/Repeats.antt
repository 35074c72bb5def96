-- The first row whose identifier was met before: one row further, and what it says of identifiers that there is none.
-- Assumes nothing.
use mathlib.Core.Path.{◌≡◌, refl, sym, ap, ◌∙◌, subst}
use mathlib.Core.Bool.{Bool, true, false, cond}
use mathlib.Core.List.{List, [], ◌∷◌, ◌++◌}
use Prim.Native.Nat.{ℕ, suc, ◌+◌, ◌<◌, ◌≤◌}
use native.Mathlib.Numerals.{add-one}
use native.Mathlib.Omega.{arith}
use lib.ListN.{length, get_or, set, take, drop, drop_of_length-le}
use lib.Seq.{drop-cons, take-suc}
use borrow.Author.Tests.{lt-ltb, le-ltb, ltb-true, ltb-false}
use Rattle.shamir.specs.Lists.{All, Fresh, Distinct}
use Rattle.shamir.proofs.Lists.{all_append, all_both}
use Rattle.rows.specs.Search.{place_of, repeating_behind, first_repeated, first_repeating, within}
use Rattle.rows.proofs.Marks.{fresh_last, Seen, seen_more}
use Rattle.rows.proofs.Search.{fresh_of, place_fresh, not_within, place_most}

-- ---- one row

module _ (met : List ℕ) (x : ℕ) (ids : List ℕ) where
  abbrev pub judged : Bool → ℕ
  judged b = cond b 0 (suc (repeating_behind (met ++ (x ∷ [])) ids))

  pub on_the_table : (Fresh x met → ⊥) → repeating_behind met (x ∷ ids) ≡ 0
  on_the_table n = by_test (within (place_of x met) met) refl
    where
      by_test : (b : Bool) → within (place_of x met) met ≡ b → judged (within (place_of x met) met) ≡ 0
      by_test true e = ap judged e
      by_test false e = absurd (n (fresh_of x met (ltb-false _ _ e)))

  new : Fresh x met → repeating_behind met (x ∷ ids) ≡ suc (repeating_behind (met ++ (x ∷ [])) ids)
  new f = ap judged (not_within (place_of x met) met (place_fresh x met f))

  new_or_not : suc (length ids) ≤ repeating_behind met (x ∷ ids) → Fresh x met
  new_or_not h = by_test (within (place_of x met) met) refl h
    where
      by_test : (b : Bool) → within (place_of x met) met ≡ b → suc (length ids) ≤ judged b → Fresh x met
      by_test true e k = absurd (omega arith)
      by_test false e k = fresh_of x met (ltb-false _ _ e)

-- the code's search at row j, behind rows that differ
module _ (ids : List ℕ) (j : ℕ) (h : j < length ids) (p : first_repeating ids ≡ j + repeating_behind (take j ids) (drop j ids)) where
  abbrev x : ℕ
  x = get_or ids j 0

  here : drop j ids ≡ x ∷ drop (j + 1) ids
  here = drop-cons ids j 0 h ∙ ap (λ n. x ∷ drop n ids) (sym (add-one j))

  table : take j ids ++ (x ∷ []) ≡ take (j + 1) ids
  table = sym (ap (λ n. take n ids) (add-one j) ∙ take-suc ids j 0 h)

  goes_on : Fresh x (take j ids) → first_repeating ids ≡ j + 1 + repeating_behind (take (j + 1) ids) (drop (j + 1) ids)
  goes_on f =
      omega (
        arith,
        p,
        ap (repeating_behind (take j ids)) here
            ∙ new (take j ids) x (drop (j + 1) ids) f
            ∙ ap (λ t. suc (repeating_behind t (drop (j + 1) ids))) table,
      )

  module _ {seen : List Bool} (y : ℕ) (is : y ≡ x) (byte : y < 256) (s : Seen seen (take j ids)) where
    pub met_again : get_or seen y false ≡ true → j ≡ first_repeating ids
    met_again m =
        let known : Fresh x (take j ids) → ⊥ = λ f. let two : true ≡ false = sym m ∙ s.marked y byte (subst (λ z. Fresh z (take j ids)) (sym is) f) in cc in
        omega (arith, p, ap (repeating_behind (take j ids)) here ∙ on_the_table (take j ids) x (drop (j + 1) ids) known)

    pub met_first : get_or seen y false ≡ false → Seen (set seen y true) (take (j + 1) ids) × (first_repeating ids ≡ j + 1 + repeating_behind (take (j + 1) ids) (drop (j + 1) ids))
    met_first e = (
      subst (Seen (set seen y true)) (ap (λ z. take j ids ++ (z ∷ [])) is ∙ table) (seen_more s y byte),
      goes_on (subst (λ z. Fresh z (take j ids)) is (s.unmarked y byte e)),
    )

pub all_met : (ids : List ℕ) (j : ℕ) → length ids ≤ j → first_repeating ids ≡ j + repeating_behind (take j ids) (drop j ids) → j ≡ first_repeating ids
all_met ids j h p = omega (arith, p, ap (repeating_behind (take j ids)) (drop_of_length-le ids {i = j} h))

-- ---- none

none_repeats : (met ids : List ℕ) → length ids ≤ repeating_behind met ids → Distinct ids × All (λ y. Fresh y met) ids
none_repeats met [] h = (tt, tt)
none_repeats met (x ∷ ids) h =
    let f = new_or_not met x ids h in
    let r = none_repeats (met ++ (x ∷ [])) ids (omega (arith, new met x ids f)) in
    let others = r.1 in (
      (all_both (λ y. Fresh y (met ++ (x ∷ []))) (λ y. Fresh y (met ++ (x ∷ []))) (λ y. y ≡ x → ⊥) (λ y k same e. (fresh_last x y met k).1 (sym e)) ids others others, r.0),
      (f, all_both (λ y. Fresh y (met ++ (x ∷ []))) (λ y. Fresh y (met ++ (x ∷ []))) (λ y. Fresh y met) (λ y k same. (fresh_last x y met k).0) ids others others),
    )

distinct_repeats : (met ids : List ℕ) → Distinct ids → All (λ y. Fresh y met) ids → repeating_behind met ids ≡ length ids
distinct_repeats met [] d f = refl
distinct_repeats met (x ∷ ids) d f =
    new met x ids f.0
    ∙ ap suc (distinct_repeats (met ++ (x ∷ [])) ids d.1
    (all_both (λ y. Fresh y met) (λ y. y ≡ x → ⊥) (λ y. Fresh y (met ++ (x ∷ []))) (λ y k n. all_append (λ a. a ≡ y → ⊥) met (x ∷ []) k ((λ e. n (sym e)), tt)) ids f.1 d.0))

fresh_nothing : (ids : List ℕ) → All (λ y. Fresh y []) ids
fresh_nothing [] = tt
fresh_nothing (x ∷ ids) = (tt, fresh_nothing ids)

-- ---- the pair

module _ (ids : List ℕ) where
  abbrev first : Bool → ℕ
  first b = cond b (place_of (get_or ids (first_repeating ids) 0) ids) (first_repeating ids)

  pub first_is : first_repeating ids < length ids → first_repeated ids ≡ place_of (get_or ids (first_repeating ids) 0) ids
  first_is h = ap first (lt-ltb (first_repeating ids) (length ids) h)

  -- both places are in the list, or neither is
  pub repeated_within : first_repeating ids < length ids → first_repeated ids < length ids
  repeated_within h = omega (arith, first_is h, place_most ids (first_repeating ids) h)

  pub repeating_within : first_repeated ids < length ids → first_repeating ids < length ids
  repeating_within h = by_test (within (first_repeating ids) ids) refl h
    where
      by_test : (b : Bool) → within (first_repeating ids) ids ≡ b → first b < length ids → first_repeating ids < length ids
      by_test true e k = ltb-true _ _ e
      by_test false e k = k

  pub outside_both : length ids ≤ first_repeating ids → within (first_repeated ids) ids ≡ false
  outside_both h =
      let none = le-ltb (first_repeating ids) (length ids) h in
      ap (λ b. within (first b) ids) none ∙ none

  pub distinct_of : length ids ≤ first_repeated ids → Distinct ids
  distinct_of h = by_test (within (first_repeating ids) ids) refl h
    where
      by_test : (b : Bool) → within (first_repeating ids) ids ≡ b → length ids ≤ first b → Distinct ids
      by_test true e k = let j = ltb-true (first_repeating ids) (length ids) e in absurd (omega (arith, place_most ids (first_repeating ids) j))
      by_test false e k = (none_repeats [] ids k).0

  pub repeated_distinct : Distinct ids → first_repeated ids ≡ length ids
  repeated_distinct d =
      let all = distinct_repeats [] ids d (fresh_nothing ids) in
      ap first (not_within (first_repeating ids) ids all) ∙ all
