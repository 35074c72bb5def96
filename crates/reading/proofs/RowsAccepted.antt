-- The rows of a sheet: a first line in range, and as many rows with different identifiers.
-- Assumes nothing.
use mathlib.Core.Path.{◌≡◌, ap, ◌∙◌}
use mathlib.Core.List.{List, [], ◌∷◌, map}
use Prim.Native.Nat.{ℕ, zero, suc, ◌+◌, ◌<◌, ◌≤◌}
use native.Mathlib.Omega.{arith}
use lib.ListN.{length, get_or, drop, replicate, length-drop, length-map, length-replicate}
use lib.Seq.{length-take-le}
use Rattle.shamir.specs.Lists.{All, Below, Fresh, Distinct}
use Rattle.shamir.proofs.Lists.{all_map, all_both, all_at}
use Rattle.rows.specs.Search.{sum, first_zero, first_repeated}
use Rattle.rows.specs.Storage.{cut, identifiers}
use Rattle.rows.specs.Lengths.{lengths_of}
use Rattle.rows.proofs.Search.{fresh_of}
use Rattle.rows.proofs.Repeats.{distinct_of}
use Rattle.rows.proofs.Storage.{sum-replicate, length_cut}
use Rattle.rows.proofs.Lengths.{length-lengths}
use Rattle.rows.proofs.Pigeonhole.{pigeonhole}
use Rattle.row_set.specs.RowSet.{secret_length}
use Rattle.row_set.proofs.RowSet.{AcceptedRows}
use Rattle.reading.specs.Reading.{IsSheet}
use Rattle.reading.specs.Lines.{Head, Row, Rows}
use Rattle.sheets.proofs.Lines.{Writable}
use Rattle.sheets.proofs.Accepted.{accepted-sheet, rows_writable}

cut-long : (m w : ℕ) (s : List ℕ) → sum (replicate m w) ≤ length s → All (λ r. length r ≡ w) (cut (replicate m w) s)
cut-long zero w s h = tt
cut-long (suc m) w s h = (length-take-le w s (omega arith), cut-long m w (drop w s) (simp length-drop (omega arith)))

-- what holds of the identifiers holds of the rows' first elements
all_unmap : (P : ℕ → Type 0) (f : List ℕ → ℕ) (rows : List (List ℕ)) → All P (map f rows) → All (λ r. P (f r)) rows
all_unmap P f [] h = tt
all_unmap P f (r ∷ rows) h = (h.0, all_unmap P f rows h.1)

module _ {enough m l : ℕ} {s ns : List ℕ} (a : AcceptedRows enough s ns m l) where
  abbrev ids : List ℕ
  ids = identifiers (cut ns s)

  count : length ids ≡ m
  count = length-map (cut ns s) (λ r. get_or r 0 0) ∙ length_cut ns s ∙ ap length a.lengths_are ∙ length-replicate m (l + 1)

  ids-nonzero : Fresh 0 ids
  ids-nonzero = fresh_of 0 ids (omega (arith, count, ap first_zero a.ids_are, a.ready.nonzero))

  ids-distinct : Distinct ids
  ids-distinct = distinct_of ids (omega (arith, count, ap first_repeated a.ids_are, a.ready.distinct))

  rows_long : All (λ r. length r ≡ l + 1) (cut ns s)
  rows_long = rw a.lengths_are (cut-long m (l + 1) s (omega (arith, sum-replicate m (l + 1), a.filled)))

  accepted-each : Below 256 s → All (Row l) (cut ns s)
  accepted-each b =
      all_both (λ r. (length r ≡ l + 1) × (get_or r 0 0 ≡ 0 → ⊥)) Writable (Row l)
      (λ r p q. record { long = p.0; bytes = q.bytes; nonzero = omega (arith, p.1) }) (cut ns s)
      (all_both (λ r. length r ≡ l + 1) (λ r. get_or r 0 0 ≡ 0 → ⊥) (λ r. (length r ≡ l + 1) × (get_or r 0 0 ≡ 0 → ⊥)) (λ r p q. (p, q)) (cut ns s) rows_long
      (all_unmap (λ x. x ≡ 0 → ⊥) (λ r. get_or r 0 0) (cut ns s) ids-nonzero))
      (rows_writable a b)

  -- the identifiers and 0 are different bytes
  accepted_few : Below 256 s → m ≤ 255
  accepted_few b =
      let bytes = all_map (Row l) (◌< 256) (λ r. get_or r 0 0) (λ r h. all_at (◌< 256) 0 (omega arith) r 0 h.bytes) (cut ns s) (accepted-each b) in
      omega (arith, count, pigeonhole 256 (0 ∷ ids) (ids-nonzero, ids-distinct) (omega arith, bytes))

  accepted-rows : Below 256 s → Rows l (cut ns s)
  accepted-rows b = record { each = accepted-each b; distinct = ids-distinct }

-- ---- the rows of a sheet

module _ {text : List ℕ} (s : IsSheet text) where
  abbrev ns : List ℕ
  ns = lengths_of s.lengths

  pub sheet-rows : Head s.threshold (length (cut ns s.storage)) (secret_length ns) × Rows (secret_length ns) (cut ns s.storage)
  sheet-rows =
      let a = accepted-sheet s.threshold s.storage s.lengths s.room s.count s.accepted in
      let size : length (cut ns s.storage) ≡ length ns = length_cut ns s.storage in
      let count = length-lengths s.lengths in
      let few = accepted_few a.rows s.storage_bytes in (
        record {
          threshold_least = a.threshold_least;
          threshold_most = a.threshold_most;
          some_rows = omega (arith, a.rows.many);
          rows_most = omega arith;
          some_values = a.rows.some;
          values_most = a.rows.most;
        },
        accepted-rows a.rows s.storage_bytes,
      )
