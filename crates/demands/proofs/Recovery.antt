-- Enough rows of an accepted split are combined to the secret.
-- Assumes nothing.
use mathlib.Core.Path.{◌≡◌, refl, ap, ap₂, ◌∙◌}
use mathlib.Core.List.{List, [], ◌∷◌, ◌++◌, map}
use Prim.Native.Nat.{ℕ, ◌-◌, ◌<◌, ◌≤◌}
use native.Mathlib.Omega.{arith}
use lib.ListN.{length, drop, get_or, length-map}
use Rattle.shamir.specs.Lists.{Below, Distinct}
use Rattle.shamir.specs.Rows.{row}
use Rattle.shamir.specs.Theorems.{Places}
use Rattle.shamir.proofs.Rows.{length-row}
use Rattle.shamir.proofs.Theorems.{row_recovery}
use Rattle.gf256.specs.Field256.{gf256}
use Rattle.gf256.proofs.Field256.{laws256}
use Rattle.sharing.specs.Split.{split_room}
use Rattle.demands.specs.Demands as demands
use Rattle.demands.specs.Demands.{shown, Recovery}
use Rattle.sharing.proofs.SplitAccepted.{Accepted, accepted}
use Rattle.demands.proofs.SplitRow.{row_of_split}
use Rattle.demands.proofs.CombineLaid.{laid-answer, laid-bytes}
use Rattle.demands.proofs.Places.{ids_at, ids-bytes, ids-nonzero, ids-distinct}

module _ (t n : ℕ) (secret ids coefficients out : List ℕ) (a : demands.Accepted t n secret ids coefficients out) where
  pub facts : Accepted t n (length secret) ids (length coefficients) (length out) (split_room n (length secret))
  facts = accepted t n (length secret) ids (length coefficients) (length out) (split_room n (length secret)) a.done_all

  -- at each place stands the identifier with its row
  pub shown_is : (places : List ℕ) → Below n places
      → shown t n secret ids coefficients out places ≡ map (λ x. x ∷ row gf256 (t - 1) x secret coefficients) (ids_at ids places)
  shown_is [] b = refl
  shown_is (p ∷ places) b = ap₂ ◌∷◌ (row_of_split t n secret ids coefficients out (split_room n (length secret)) a.done_all p b.0) (shown_is places b.1)

  pub places_are : (places : List ℕ) → Below n places → Distinct places → Places gf256 (ids_at ids places)
  places_are places below distinct = record {
    distinct = ids-distinct n ids facts.ids-enough a.distinct places below distinct;
    small = ids-bytes n ids facts.ids-enough a.id_bytes places below;
  }

pub recovery : Recovery
recovery t n secret ids coefficients out places room a below distinct enough roomy =
    let k = facts t n secret ids coefficients out a in
    let xs = ids_at ids places in
    let f : ℕ → List ℕ = λ x. row gf256 (t - 1) x secret coefficients in
    let long : (x : ℕ) → length (f x) ≡ length secret = λ x. length-row gf256 (t - 1) x secret coefficients in
    let count : length xs ≡ length places = length-map places (λ p. get_or ids p 0) in
    let two : 2 ≤ length xs = omega (arith, k.threshold_least) in
    let nonzero = ids-nonzero n ids k.ids-enough k.ids-nonzero places below in
    let are = places_are t n secret ids coefficients out a places below distinct in
    let shows = shown_is t n secret ids coefficients out a places below in
    let fewer : t - 1 < length xs = omega (arith, k.threshold_least) in
    record {
      answers = rw shows (laid-answer (length secret) f long xs two nonzero are.distinct k.secret_some k.secret_most (length room) roomy);
      leaves = rw shows (laid-bytes (length secret) f long xs two nonzero are.distinct k.secret_some k.secret_most room roomy)
          ∙ ap (◌++ drop (length secret) room) ((row_recovery laws256).secret (t - 1) secret coefficients xs a.secret_bytes a.coefficient_bytes fewer are);
    }
