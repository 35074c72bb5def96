-- t - 1 rows of an accepted split go with every secret of the same length, each by one list of coefficients.
-- Assumes nothing.
use mathlib.Core.Path.{◌≡◌, refl, sym, ap, ap₂, ◌∙◌}
use mathlib.Core.List.{List, [], ◌∷◌, map}
use Prim.Native.Nat.{ℕ, ◌-◌, ◌*◌, ◌<◌}
use lib.ListN.{length, take, drop, get_or, length-map}
use Rattle.shamir.specs.Lists.{Below}
use Rattle.shamir.specs.Rows.{row}
use Rattle.shamir.specs.Count.{Unique}
use Rattle.shamir.specs.Theorems as theory
use Rattle.shamir.proofs.Lists.{all_take, all_drop, all_map}
use Rattle.shamir.proofs.Polynomial.{value-lt}
use Rattle.shamir.proofs.Rows.{length-row}
use Rattle.shamir.proofs.Theorems.{row_hiding}
use Rattle.gf256.specs.Field256.{gf256}
use Rattle.gf256.proofs.Field256.{laws256}
use Rattle.demands.specs.Demands.{Accepted, Hiding}
use Rattle.demands.proofs.Recovery.{facts, shown_is, places_are}
use Rattle.demands.proofs.Places.{ids_at, ids-nonzero}

-- rows with the same identifiers are the same where their values are
module _ (f g : ℕ → List ℕ) where
  with_ids : (xs : List ℕ) → map f xs ≡ map g xs → map (λ x. x ∷ f x) xs ≡ map (λ x. x ∷ g x) xs
  with_ids [] e = refl
  with_ids (x ∷ xs) e =
      let head : f x ≡ g x = cc in
      let tail : map f xs ≡ map g xs = cc in
      ap₂ ◌∷◌ (ap (x ∷◌) head) (with_ids xs tail)

  without_ids : (xs : List ℕ) → map (λ x. x ∷ f x) xs ≡ map (λ x. x ∷ g x) xs → map f xs ≡ map g xs
  without_ids [] e = refl
  without_ids (x ∷ xs) e =
      let head : f x ≡ g x = cc in
      let tail : map (λ x. x ∷ f x) xs ≡ map (λ x. x ∷ g x) xs = cc in
      ap₂ ◌∷◌ head (without_ids xs tail)

row-bytes : (k x : ℕ) (ss cs : List ℕ) → x < 256 → Below 256 ss → Below 256 cs → Below 256 (row gf256 k x ss cs)
row-bytes k x [] cs hx bs bc = tt
row-bytes k x (s ∷ ss) cs hx bs bc = (
  value-lt laws256 (s ∷ take k cs) x (bs.0, all_take (◌< 256) k cs bc) hx,
  row-bytes k x ss (drop k cs) hx bs.1 (all_drop (◌< 256) k cs bc),
)

pub hiding : Hiding
hiding t n secret ids coefficients out places other a below distinct count other-bytes same =
    let k = facts t n secret ids coefficients out a in
    let xs = ids_at ids places in
    let row_of : ℕ → List ℕ = λ x. row gf256 (t - 1) x secret coefficients in
    let are = places_are t n secret ids coefficients out a places below distinct in
    let shows = shown_is t n secret ids coefficients out a places below in
    let points : theory.RowPoints gf256 (length other) xs (map row_of xs) = record {
      places = are;
      same = length-map xs row_of;
      small = all_map (◌< 256) (λ r. (length r ≡ length other) × Below 256 r) row_of
          (λ x h. (length-row gf256 (t - 1) x secret coefficients ∙ sym same, row-bytes (t - 1) x secret coefficients h a.secret_bytes a.coefficient_bytes))
          xs are.small;
    } in
    let one : Unique (theory.Shows gf256 (t - 1) other xs (map row_of xs)) =
    (row_hiding laws256).one (t - 1) other xs (map row_of xs) (length-map places (λ p. get_or ids p 0) ∙ count) other-bytes
    (ids-nonzero n ids k.ids-enough k.ids-nonzero places below) points in
    let accepts : (cs : List ℕ) → theory.Shows gf256 (t - 1) other xs (map row_of xs) cs → Accepted t n other ids cs out = λ cs s. record {
      done_all =
          let as_many : length cs ≡ length coefficients = s.long ∙ ap (◌* (t - 1)) same ∙ sym k.coefficients in
          rw (same, as_many) a.done_all;
      secret_bytes = other-bytes;
      id_bytes = a.id_bytes;
      coefficient_bytes = s.small;
      distinct = a.distinct;
    } in
    record {
      the = one.the;
      has = record {
        accepted = accepts one.the one.has;
        rows_same = shown_is t n other ids one.the out (accepts one.the one.has) places below
            ∙ with_ids (λ x. row gf256 (t - 1) x other one.the) row_of xs one.has.fits ∙ sym shows;
      };
      only = λ cs s. one.only cs (record {
        long = (facts t n other ids cs out s.accepted).coefficients;
        small = s.accepted.coefficient_bytes;
        fits = without_ids (λ x. row gf256 (t - 1) x other cs) row_of xs
            (sym (shown_is t n other ids cs out s.accepted places below) ∙ s.rows_same ∙ shows);
      });
    }
