-- The checks of a set of rows: each return of the code from the tests that lead to it, and what accepted rows are like.
-- Assumes nothing.
use mathlib.Core.Path.{◌≡◌, refl, sym, ap, ap₂, ◌∙◌, subst}
use mathlib.Core.Bool.{Bool, true, false, not, ◌||◌}
use mathlib.Core.List.{List}
use Prim.Native.Nat.{ℕ, ◌+◌, ◌*◌, ◌-◌, ◌/◌, ◌%◌, ◌<◌, ◌≤◌}
use native.Mathlib.Omega.{arith}
use lib.Dec.{eqb, ltb}
use lib.ListN.{length, replicate}
use borrow.Author.Tests.{eq-eqb, eqb-true, lt-ltb, le-ltb, ltb-false, not-false}
use Rattle.answer.specs.Outcome.{Outcome, done, refused, refuse}
use Rattle.rows.specs.Search.{sum, all_are, first_zero, first_repeated, first_repeating, within}
use Rattle.strides.specs.Strides.{strided}
use Rattle.rows.specs.Storage.{cut, identifiers}
use Rattle.rows.specs.Lengths.{lengths_of}
use Rattle.rows.specs.Combining.{Ready}
use Rattle.strides.proofs.Strides.{length-strided}
use Rattle.rows.proofs.Lengths.{length-lengths}
use Rattle.rows.proofs.Storage.{equal_lengths, sum-replicate, column-strided}
use Rattle.rows.proofs.Repeats.{repeated_within, outside_both}
use Rattle.row_set.specs.Limits.{max_secret, max_rows}
use Rattle.row_set.specs.RowSet.{first_length, secret_length, judged_identifiers, judged, judged_rows, unreadable, judged_byte_lengths}
use Rattle.row_set.proofs.Chains.{Chain, end, then, passed}

-- ---- what the lengths decide

pub after_lengths : (enough : ℕ) (s ns : List ℕ) (later : Outcome) → eqb (sum ns) (length s) ≡ true → enough ≤ length ns → 2 ≤ first_length ns → all_are (first_length ns) ns ≡ true
    → judged_rows enough s ns later ≡ judged_identifiers (secret_length ns) (identifiers (cut ns s)) later
unfolding judged
after_lengths enough s ns later sums many long h = simp (sums, le-ltb _ _ many, le-ltb _ _ long, h)

-- lengths that are all w are as many times w, and the identifiers stand w apart
module _ (ns : List ℕ) (w m : ℕ) (equal : all_are w ns ≡ true) (count : length ns ≡ m) where
  pub as_many : ns ≡ replicate m w
  as_many = equal_lengths w ns equal ∙ ap (λ n. replicate n w) count

  pub fills : (n : ℕ) → eqb (sum ns) n ≡ true → m * w ≡ n
  fills n e = sym (sum-replicate m w) ∙ sym (ap sum as_many) ∙ eqb-true (sum ns) n e

  pub ids_are : (s : List ℕ) → 0 < w → identifiers (cut ns s) ≡ strided w 0 m s
  ids_are s h = ap (λ l. identifiers (cut l s)) as_many ∙ column-strided w 0 m s h

-- the answer for rows of w bytes is that of all the rows
pub of_equal : (enough : ℕ) (s ns : List ℕ) (w m : ℕ) → eqb (sum ns) (length s) ≡ true → enough ≤ length ns → 2 ≤ w → all_are w ns ≡ true
    → length ns ≡ m → first_length ns ≡ w → {o : Outcome} → o ≡ judged_identifiers (w - 1) (strided w 0 m s) (done (w - 1))
    → o ≡ judged_rows enough s ns (done (secret_length ns))
of_equal enough s ns w m sums many long equal count first e =
    let ids = ids_are ns w m equal count s (omega arith) in
    e
    ∙ ap₂ (λ l x. judged_identifiers (l - 1) x (done (l - 1))) (sym first) (sym ids)
    ∙ sym (after_lengths enough s ns (done (secret_length ns)) sums many (omega arith) (ap (λ f. all_are f ns) first ∙ equal))

-- ---- what the identifiers decide, of m rows of w bytes

module _ (s : List ℕ) (w m : ℕ) where
  abbrev ids : List ℕ
  ids = strided w 0 m s

  abbrev answer : Outcome
  answer = judged_identifiers (w - 1) ids (done (w - 1))

  count : length ids ≡ m
  count = length-strided w 0 m s

  -- the search for a zero begins at 0
  pub zero-found : (z : ℕ) → z ≡ 0 + first_zero ids → z < m → refused 6 z 0 ≡ answer
  zero-found z e h =
      let t : answer ≡ refused 6 (first_zero ids) 0 = simp (lt-ltb (first_zero ids) (length ids) (omega (arith, count))) in
      let z-is : z ≡ first_zero ids = omega arith in
      ap (λ i. refused 6 i 0) z-is ∙ sym t

  module _ {z : ℕ} (sought : z ≡ 0 + first_zero ids) (past : m ≤ z) where
    no_zero : within (first_zero ids) ids ≡ false
    no_zero = le-ltb (first_zero ids) (length ids) (omega (arith, count))

    pub repeat_found : (i j : ℕ) → i ≡ first_repeated ids → j ≡ first_repeating ids → j < m → refused 7 i j ≡ answer
    repeat_found i j ei ej h =
        let t : answer ≡ refused 7 (first_repeated ids) (first_repeating ids) =
        simp (no_zero, lt-ltb (first_repeated ids) (length ids) (repeated_within ids (omega (arith, count)))) in
        ap₂ (refused 7) ei ej ∙ sym t

    module _ {j : ℕ} (again : j ≡ first_repeating ids) (past_all : m ≤ j) where
      no_repeat : within (first_repeated ids) ids ≡ false
      no_repeat = outside_both ids (omega (arith, count))

      pub too_long : max_secret < w - 1 → refused 10 0 0 ≡ answer
      too_long h = sym (simp (no_zero, no_repeat, lt-ltb _ _ h))

      pub all_well : w - 1 ≤ max_secret → done (w - 1) ≡ answer
      all_well h = sym (simp (no_zero, no_repeat, le-ltb _ _ h))

-- ---- lengths that come as bytes

pub fours-test : (bytes : List ℕ) → length bytes % 4 ≡ 0 → (b : Bool) → ltb max_rows (length bytes / 4) ≡ b → unreadable bytes ≡ b
fours-test bytes fours b h = ap (λ t. not t || ltb max_rows (length bytes / 4)) (eq-eqb (length bytes % 4) 0 fours) ∙ h

-- where they can be read, the checks are those of the lengths that they make
pub by_lengths : (enough : ℕ) (s bytes : List ℕ) (later : Outcome) → length bytes % 4 ≡ 0 → {o : Outcome} → length bytes / 4 ≤ max_rows → o ≡ judged_rows enough s (lengths_of bytes) later
    → o ≡ judged_byte_lengths enough s bytes later
by_lengths enough s bytes later fours h e =
    e ∙ sym (ap (λ b. refuse b (refused 13 0 0) (judged_rows enough s (lengths_of bytes) later)) (fours-test bytes fours false (le-ltb max_rows (length bytes / 4) h)))

-- lengths that can be read are whole fours, and not too many
pub readable : (bytes : List ℕ) → unreadable bytes ≡ false → (length bytes % 4 ≡ 0) × (length bytes / 4 ≤ max_rows)
readable bytes h =
    let p = both (eqb (length bytes % 4) 0) h in
    (eqb-true (length bytes % 4) 0 p.0, ltb-false max_rows (length bytes / 4) p.1)
  where
    both : (b : Bool) → (not b || ltb max_rows (length bytes / 4)) ≡ false → (b ≡ true) × (ltb max_rows (length bytes / 4) ≡ false)
    both true e = (refl, e)
    both false e = absurd (let z : ◌≡◌ {A = ℕ} 0 1 = cc in omega arith)

-- ---- accepted rows

-- the checks are a chain of refusals
pub rows_chain : (enough : ℕ) (s ns : List ℕ) → Chain (judged_rows enough s ns)
unfolding judged
rows_chain enough s ns =
    let ids = identifiers (cut ns s) in
    then (not (eqb (sum ns) (length s))) 13 0 0
    (then (ltb (length ns) enough) 4 0 0
    (then (ltb (first_length ns) 2) 8 0 0
    (then (not (all_are (first_length ns) ns)) 8 0 0
    (then (within (first_zero ids) ids) 6 (first_zero ids) 0
    (then (within (first_repeated ids) ids) 7 (first_repeated ids) (first_repeating ids)
    (then (ltb max_secret (secret_length ns)) 10 0 0
    end))))))

pub byte_lengths_chain : (enough : ℕ) (s bytes : List ℕ) → Chain (judged_byte_lengths enough s bytes)
byte_lengths_chain enough s bytes = then (unreadable bytes) 13 0 0 (rows_chain enough s (lengths_of bytes))

pub record AcceptedRows (enough : ℕ) (s ns : List ℕ) (m l : ℕ) : Type 0 where
  pub many : enough ≤ m
  pub some : 0 < l
  pub most : l ≤ max_secret
  pub lengths_are : ns ≡ replicate m (l + 1)
  pub value-count : secret_length ns ≡ l
  pub filled : m * (l + 1) ≡ length s
  pub ids_are : identifiers (cut ns s) ≡ strided (l + 1) 0 m s
  pub ready : Ready (l + 1) m s

pub accepted-rows : (enough : ℕ) (s ns : List ℕ) (l : ℕ) → judged_rows enough s ns (done (secret_length ns)) ≡ done l → AcceptedRows enough s ns (length ns) l
unfolding judged
accepted-rows enough s ns l e =
    let m = length ns in
    let ids = identifiers (cut ns s) in
    let p13 = passed (not (eqb (sum ns) (length s))) 13 0 0 _ l e in
    let p4 = passed (ltb m enough) 4 0 0 _ l p13.1 in
    let p8 = passed (ltb (first_length ns) 2) 8 0 0 _ l p4.1 in
    let p8' = passed (not (all_are (first_length ns) ns)) 8 0 0 _ l p8.1 in
    let p6 = passed (within (first_zero ids) ids) 6 (first_zero ids) 0 _ l p8'.1 in
    let p7 = passed (within (first_repeated ids) ids) 7 (first_repeated ids) (first_repeating ids) _ l p6.1 in
    let p10 = passed (ltb max_secret (secret_length ns)) 10 0 0 _ l p7.1 in
    let l-is : secret_length ns ≡ l = (cc p10.1) in
    let long : 2 ≤ first_length ns = ltb-false (first_length ns) 2 p8.0 in
    let first : first_length ns ≡ l + 1 = omega arith in
    let equal : all_are (l + 1) ns ≡ true = ap (λ w. all_are w ns) (sym first) ∙ not-false _ p8'.0 in
    let are : ids ≡ strided (l + 1) 0 m s = ids_are ns (l + 1) m equal refl s (omega arith) in
    let count : length (strided (l + 1) 0 m s) ≡ m = length-strided (l + 1) 0 m s in
    let fill : m * (l + 1) ≡ length s = fills ns (l + 1) m equal refl (length s) (not-false _ p13.0) in
    let nonzero : m ≤ first_zero (strided (l + 1) 0 m s) =
    omega (arith, count, ltb-false (first_zero (strided (l + 1) 0 m s)) (length (strided (l + 1) 0 m s)) (ap (λ x. within (first_zero x) x) (sym are) ∙ p6.0)) in
    let distinct : m ≤ first_repeated (strided (l + 1) 0 m s) =
    omega (arith, count, ltb-false (first_repeated (strided (l + 1) 0 m s)) (length (strided (l + 1) 0 m s)) (ap (λ x. within (first_repeated x) x) (sym are) ∙ p7.0)) in
    record {
      many = ltb-false m enough p4.0;
      some = omega arith;
      most = omega (arith, ltb-false max_secret (secret_length ns) p10.0);
      lengths_are = as_many ns (l + 1) m equal refl;
      value-count = l-is;
      filled = fill;
      ids_are = are;
      ready = record { stored = omega arith; nonzero = nonzero; distinct = distinct };
    }

-- .. and of lengths that come as bytes
pub accepted-bytes : (enough : ℕ) (s bytes : List ℕ) (l : ℕ) → judged_byte_lengths enough s bytes (done (secret_length (lengths_of bytes))) ≡ done l
    → AcceptedRows enough s (lengths_of bytes) (length bytes / 4) l
accepted-bytes enough s bytes l e =
    subst (λ m. AcceptedRows enough s (lengths_of bytes) m l) (length-lengths bytes)
    (accepted-rows enough s (lengths_of bytes) l (passed (unreadable bytes) 13 0 0 _ l e).1)
