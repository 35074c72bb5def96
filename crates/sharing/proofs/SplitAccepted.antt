-- An accepted split: what its rules have let pass.
-- Assumes nothing.
use mathlib.Core.Path.{◌≡◌, sym}
use mathlib.Core.Bool.{not}
use mathlib.Core.List.{List, [], ◌∷◌}
use Prim.Native.Nat.{ℕ, zero, suc, ◌<◌, ◌≤◌}
use native.Mathlib.Omega.{arith}
use borrow.Author.Tests.{ltb-false, eqb-false, eqb-true, not-false}
use lib.Dec.{eqb, ltb}
use lib.ListN.{length, take}
use Rattle.shamir.specs.Lists.{Fresh}
use Rattle.answer.specs.Outcome.{Outcome, done}
use Rattle.row_set.specs.Limits.{max_secret, max_shares}
use Rattle.row_set.proofs.Chains.{apart, passed}
use Rattle.sharing.specs.Split.{in_turn, coefficient_count, split_room, split_outcome}
use Rattle.sharing.proofs.SplitRules.{after_ids}

-- threshold t, limit n, a secret of l bytes, these identifiers, so many coefficients and so much room; m bytes are written
pub record Accepted (t n l : ℕ) (ids : List ℕ) (count room m : ℕ) : Type 0 where
  pub rows_most : n ≤ max_shares
  pub secret_some : 0 < l
  pub limit_least : t ≤ n
  pub threshold_least : 2 ≤ t
  pub ids-enough : n ≤ length ids
  pub ids-nonzero : Fresh 0 (take n ids)
  pub secret_most : l ≤ max_secret
  pub coefficients : count ≡ coefficient_count t l
  pub room-enough : split_room n l ≤ room
  pub count_is : m ≡ split_room n l

passed_ids : (i n : ℕ) (ids : List ℕ) (later : Outcome) (m : ℕ) → in_turn i n ids later ≡ done m → (n ≤ length ids) × Fresh 0 (take n ids) × (later ≡ done m)
passed_ids i zero ids later m e = (omega arith, tt, e)
passed_ids i (suc n) [] later m e = absurd (apart e)
passed_ids i (suc n) (x ∷ ids) later m e =
    let p = passed (eqb x 0) 6 i 0 (in_turn (suc i) n ids later) m e in
    let q = passed_ids (suc i) n ids later m p.1 in
    (omega arith, (eqb-false x 0 p.0, q.1), q.2)

module _ (t n l : ℕ) (ids : List ℕ) (count room m : ℕ) where
  pub accepted : split_outcome t n l ids count room ≡ done m → Accepted t n l ids count room m
  unfolding split_outcome
  accepted e =
      let p1 = passed (ltb max_shares n) 1 0 0 _ m e in
      let p2 = passed (eqb l 0) 2 0 0 _ m p1.1 in
      let p3 = passed (ltb n t) 3 0 0 _ m p2.1 in
      let p4 = passed (ltb t 2) 4 0 0 _ m p3.1 in
      let p6 = passed_ids 0 n ids (after_ids t n l count room) m p4.1 in
      let p10 = passed (ltb max_secret l) 10 0 0 _ m p6.2 in
      let p11 = passed (not (eqb count (coefficient_count t l))) 11 0 0 _ m p10.1 in
      let p12 = passed (ltb room (split_room n l)) 12 0 0 _ m p11.1 in
      let some : l ≡ 0 → ⊥ = eqb-false l 0 p2.0 in
      record {
        rows_most = ltb-false max_shares n p1.0;
        secret_some = omega arith;
        limit_least = ltb-false n t p3.0;
        threshold_least = ltb-false t 2 p4.0;
        ids-enough = p6.0;
        ids-nonzero = p6.1;
        secret_most = ltb-false max_secret l p10.0;
        coefficients = eqb-true count (coefficient_count t l) (not-false _ p11.0);
        room-enough = ltb-false room (split_room n l) p12.0;
        count_is = let e : split_room n l ≡ m = (cc p12.1) in sym e;
      }
