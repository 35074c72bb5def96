-- Rows with different identifiers, none of them 0, that are laid together with their lengths: combine accepts them.
-- Assumes nothing.
use mathlib.Core.Path.{◌≡◌, refl, sym, ap, ◌∙◌, subst}
use mathlib.Core.Bool.{false}
use mathlib.Core.List.{List, [], ◌∷◌, ◌++◌, map}
use Prim.Native.Nat.{ℕ, ◌+◌, ◌<◌, ◌≤◌}
use native.Mathlib.Omega.{arith}
use lib.Dec.{ltb}
use lib.ListN.{length, drop, length-map}
use borrow.Author.Tests.{le-ltb}
use Rattle.answer.specs.Outcome.{done, refused, refuse}
use Rattle.shamir.specs.Lists.{All, Fresh, Distinct}
use Rattle.shamir.specs.Rows.{combined}
use Rattle.gf256.specs.Field256.{gf256}
use Rattle.rows.specs.Storage.{laid, identifiers, values}
use Rattle.rows.proofs.Laid.{cut-laid}
use Rattle.row_set.specs.Limits.{max_secret}
use Rattle.row_set.specs.RowSet.{secret_length}
use Rattle.row_set.proofs.LaidRows.{values-each, laid_pass}
use Rattle.sharing.specs.Combine.{combine_outcome, combine_answer, combine_bytes}

-- the rows with identifiers xs, whose values f gives, l to a row
module _ (l : ℕ) (f : ℕ → List ℕ) (long : (x : ℕ) → length (f x) ≡ l) where
  abbrev rows : List ℕ → List (List ℕ)
  rows xs = map (λ x. x ∷ f x) xs

  rows_long : (xs : List ℕ) → All (λ r. length r ≡ l + 1) (rows xs)
  rows_long [] = tt
  rows_long (x ∷ xs) = (omega (arith, long x), rows_long xs)

  ids_are : (xs : List ℕ) → identifiers (rows xs) ≡ xs
  ids_are [] = refl
  ids_are (x ∷ xs) = ap (x ∷◌) (ids_are xs)

  values_are : (xs : List ℕ) → values (rows xs) ≡ map f xs
  values_are [] = refl
  values_are (x ∷ xs) = ap (f x ∷◌) (values_are xs)

  module _ (xs : List ℕ) (two : 2 ≤ length xs) (nonzero : Fresh 0 xs) (distinct : Distinct xs) (some : 0 < l) (most : l ≤ max_secret) where
    abbrev lengths : List ℕ
    lengths = map length (rows xs)

    count : length (rows xs) ≡ length xs
    count = length-map xs (λ x. x ∷ f x)

    secret_is : secret_length lengths ≡ l
    secret_is = values-each l (rows xs) (omega (arith, count)) (rows_long xs)

    pub laid-answer : (room : ℕ) → l ≤ room → combine_answer (laid (rows xs)) lengths room ≡ done l
    unfolding combine_outcome
    laid-answer room h =
        let roomy : ltb room (secret_length lengths) ≡ false = le-ltb room (secret_length lengths) (omega (arith, secret_is)) in
        laid_pass l (rows xs) (omega (arith, count)) (rows_long xs) (subst (Fresh 0) (sym (ids_are xs)) nonzero) (subst Distinct (sym (ids_are xs)) distinct) some most 2
        (omega (arith, count)) _
        ∙ ap (λ b. refuse b (refused 12 0 0) (done (secret_length lengths))) roomy
        ∙ ap done secret_is

    pub laid-bytes : (out : List ℕ) → l ≤ length out → combine_bytes (laid (rows xs)) lengths out ≡ combined gf256 0 xs (map f xs) l ++ drop l out
    unfolding combine_bytes
    laid-bytes out h =
        rw (laid-answer (length out) h, cut-laid (rows xs), ids_are xs, values_are xs, secret_is)
