-- A sheet that is written: what its rules have let pass.
-- Assumes nothing.
use mathlib.Core.Path.{◌≡◌, ap, ◌∙◌}
use mathlib.Core.List.{List}
use Prim.Native.Nat.{ℕ, zero, suc, ◌+◌, ◌/◌, ◌%◌, ◌<◌, ◌≤◌}
use native.Mathlib.Omega.{arith}
use lib.Dec.{ltb}
use lib.ListN.{length, drop, replicate, length-drop}
use lib.Seq.{length-take-le}
use borrow.Author.Tests.{ltb-false}
use Rattle.answer.specs.Outcome.{done}
use Rattle.shamir.specs.Lists.{All, Below}
use Rattle.shamir.proofs.Lists.{all_take, all_drop}
use Rattle.rows.specs.Search.{sum}
use Rattle.rows.specs.Storage.{cut}
use Rattle.rows.specs.Lengths.{lengths_of}
use Rattle.rows.proofs.Storage.{sum-replicate}
use Rattle.row_set.specs.Limits.{max_shares}
use Rattle.row_set.specs.RowSet.{secret_length, unreadable}
use Rattle.row_set.proofs.Chains.{passed, through}
use Rattle.row_set.proofs.RowSet.{readable, AcceptedRows, accepted-bytes, byte_lengths_chain}
use Rattle.sheets.specs.Sheet.{sheet_answer}
use Rattle.sheets.proofs.Lines.{Writable}

pub record AcceptedSheet (t : ℕ) (s bytes : List ℕ) : Type 0 where
  pub whole : length bytes % 4 ≡ 0
  pub rows : AcceptedRows 1 s (lengths_of bytes) (length bytes / 4) (secret_length (lengths_of bytes))
  pub threshold_least : 2 ≤ t
  pub threshold_most : t ≤ max_shares

module _ (t : ℕ) (s bytes : List ℕ) (room m : ℕ) where
  pub accepted-sheet : sheet_answer t s bytes room ≡ done m → AcceptedSheet t s bytes
  unfolding sheet_answer
  accepted-sheet e =
      let l = secret_length (lengths_of bytes) in
      let p13 = passed (unreadable bytes) 13 0 0 _ m e in
      let rows = through (byte_lengths_chain 1 s bytes) l _ m e in
      let p4 = passed (ltb t 2) 4 0 0 _ m rows.1 in
      let p1 = passed (ltb max_shares t) 1 0 0 _ m p4.1 in
      record {
        whole = (readable bytes p13.0).0;
        rows = accepted-bytes 1 s bytes l rows.0;
        threshold_least = ltb-false t 2 p4.0;
        threshold_most = ltb-false max_shares t p1.0;
      }

-- ---- its rows

cut_writable : (m w : ℕ) (s : List ℕ) → 0 < w → sum (replicate m w) ≤ length s → Below 256 s → All Writable (cut (replicate m w) s)
cut_writable zero w s p h b = tt
cut_writable (suc m) w s p h b = (
  record { some = omega (arith, length-take-le w s (omega arith)); bytes = all_take (◌< 256) w s b },
  cut_writable m w (drop w s) p (simp length-drop (omega arith)) (all_drop (◌< 256) w s b),
)

module _ {enough m l : ℕ} {s ns : List ℕ} (a : AcceptedRows enough s ns m l) where
  pub rows_fill : sum ns ≡ length s
  rows_fill = ap sum a.lengths_are ∙ sum-replicate m (l + 1) ∙ a.filled

  pub rows_writable : Below 256 s → All Writable (cut ns s)
  rows_writable b = rw a.lengths_are (cut_writable m (l + 1) s (omega arith) (omega (arith, sum-replicate m (l + 1))) b)
