-- K's coefficient is the only one by demand 3's second half.
-- Assumes nothing.
use mathlib.Core.Path.{◌≡◌, refl, sym, ap, ◌∙◌}
use mathlib.Core.List.{List, [], ◌∷◌}
use Prim.Native.Nat.{ℕ}
use lib.Dec.{lit<}
use lib.ListN.{length, get_or}
use Rattle.poly2.specs.Poly2.{mul_mod, rem, reduce, clmul}
use Rattle.algebra.specs.Field.{power}
use Rattle.shamir.specs.Rows.{row}
use Rattle.gf256.specs.Field256.{gf256, mul256}
use Rattle.sharing.specs.Split.{split_outcome}
use Rattle.demands.specs.Demands.{Accepted, shown}
use Rattle.demands.proofs.Recovery.{facts, shown_is}
use Rattle.demands.proofs.Hiding.{hiding}
use Rattle.entries.specs.NeedsK.{NeedsK}

-- the split that has row 01 2f has the same rows with the coefficient 2f, so that both are the only one
pub needs_k : NeedsK
unfolding mul256 power mul_mod rem reduce clmul
needs_k n p ids cs out h s =
    let zero : List ℕ = 0x00 ∷ [] in
    let a = s.accepted in
    let u = hiding 2 n zero ids cs out (p ∷ []) zero a (h, tt) (tt, tt) refl (lit< tt, tt) refl in
    let one : length cs ≡ 1 = (facts 2 n zero ids cs out a).coefficients in
    let a' : Accepted 2 n zero ids (0x2f ∷ []) out = record {
      done_all = ap (λ c. split_outcome 2 n 1 ids c (length out)) (sym one) ∙ a.done_all;
      secret_bytes = a.secret_bytes;
      id_bytes = a.id_bytes;
      coefficient_bytes = (lit< tt, tt);
      distinct = a.distinct;
    } in
    let shows = sym (shown_is 2 n zero ids cs out a (p ∷ []) (h, tt)) ∙ s.rows_same in
    let x_is : get_or ids p 0 ≡ 1 = cc in
    let same : shown 2 n zero ids (0x2f ∷ []) out (p ∷ []) ≡ (0x01 ∷ 0x2f ∷ []) ∷ [] =
    shown_is 2 n zero ids (0x2f ∷ []) out a' (p ∷ []) (h, tt) ∙ ap (λ x. (x ∷ row gf256 1 x zero (0x2f ∷ [])) ∷ []) x_is in
    u.only cs (record { accepted = a; rows_same = refl }) ∙ sym (u.only (0x2f ∷ []) (record { accepted = a'; rows_same = same ∙ sym s.rows_same }))
