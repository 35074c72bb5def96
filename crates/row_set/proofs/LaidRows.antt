-- Rows of one length with different identifiers, none of them 0, that are laid together with their lengths: the checks let them pass.
-- Assumes nothing.
use mathlib.Core.Path.{◌≡◌, refl, ap, ap₂}
use mathlib.Core.Bool.{true, false, ◌&&◌}
use mathlib.Core.List.{List, [], ◌∷◌, map}
use Prim.Native.Nat.{ℕ, ◌+◌, ◌<◌, ◌≤◌}
use native.Mathlib.Omega.{arith}
use lib.Dec.{eqb, ltb}
use lib.ListN.{length, length-map}
use borrow.Author.Tests.{le-ltb, eq-eqb}
use Rattle.answer.specs.Outcome.{Outcome}
use Rattle.shamir.specs.Lists.{All, Fresh, Distinct}
use Rattle.rows.specs.Search.{sum, all_are, place_of, first_repeated, within}
use Rattle.rows.specs.Storage.{cut, laid, identifiers}
use Rattle.rows.proofs.Search.{place_fresh, not_within}
use Rattle.rows.proofs.Repeats.{repeated_distinct}
use Rattle.rows.proofs.Laid.{cut-laid, sum_laid}
use Rattle.row_set.specs.Limits.{max_secret}
use Rattle.row_set.specs.RowSet.{first_length, secret_length, judged, judged_rows}

first-long : (w : ℕ) (rows : List (List ℕ)) → 0 < length rows → All (λ r. length r ≡ w) rows → first_length (map length rows) ≡ w
first-long w [] h k = absurd (omega arith)
first-long w (r ∷ rows) h k = k.0

all-long : (w : ℕ) (rows : List (List ℕ)) → All (λ r. length r ≡ w) rows → all_are w (map length rows) ≡ true
all-long w [] h = refl
all-long w (r ∷ rows) h = ap₂ ◌&&◌ (eq-eqb (length r) w h.0) (all-long w rows h.1)

module _ (l : ℕ) (rows : List (List ℕ)) (have : 0 < length rows) (long : All (λ r. length r ≡ l + 1) rows) where
  first_is : first_length (map length rows) ≡ l + 1
  first_is = first-long (l + 1) rows have long

  pub values-each : secret_length (map length rows) ≡ l
  values-each = omega (arith, first_is)

  pub laid_pass : Fresh 0 (identifiers rows) → Distinct (identifiers rows) → 0 < l → l ≤ max_secret → (enough : ℕ) → enough ≤ length rows → (later : Outcome)
      → judged_rows enough (laid rows) (map length rows) later ≡ later
  unfolding judged
  laid_pass nonzero distinct some most enough few later =
      let ns = map length rows in
      let ids = identifiers rows in
      let ids_are : identifiers (cut ns (laid rows)) ≡ ids = ap identifiers (cut-laid rows) in
      let sums : eqb (sum ns) (length (laid rows)) ≡ true = eq-eqb _ _ (sum_laid rows) in
      let many : ltb (length ns) enough ≡ false = le-ltb (length ns) enough (omega (arith, length-map rows length)) in
      let longer : ltb (l + 1) 2 ≡ false = le-ltb (l + 1) 2 (omega arith) in
      let equal : all_are (l + 1) ns ≡ true = all-long (l + 1) rows long in
      let no_zero : within (place_of 0 ids) ids ≡ false = not_within _ ids (place_fresh 0 ids nonzero) in
      let no-twice : within (first_repeated ids) ids ≡ false = not_within _ ids (repeated_distinct ids distinct) in
      let short : ltb max_secret l ≡ false = le-ltb _ _ most in
      rw (ids_are, values-each, first_is, sums, many, longer, equal, no_zero, no-twice, short)
