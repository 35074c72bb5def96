-- Combine from the checks and what is done with accepted rows.
-- Assumes nothing.
use mathlib.Core.Path.{◌≡◌, sym, ap, ap₂, ◌∙◌, subst}
use mathlib.Core.Bool.{true, false, cond}
use mathlib.Core.List.{List}
use Prim.Native.Nat.{ℕ}
use lib.Dec.{ltb}
use lib.ListN.{length}
use Rattle.answer.specs.Outcome.{Outcome, done, refused, refuse}
use Rattle.shamir.specs.Rows.{combined}
use Rattle.gf256.specs.Field256.{gf256}
use Rattle.rows.specs.Storage.{cut, identifiers, values}
use Rattle.rows.specs.Lengths.{lengths_of}
use Rattle.row_set.specs.Limits.{at_exit}
use Rattle.row_set.specs.RowSet.{secret_length, judged_rows, unreadable}
use Rattle.row_set.proofs.RowSet.{rows_chain, AcceptedRows, accepted-rows}
use Rattle.sharing.specs.Combine.{combine_outcome, combine_answer, combine_bytes, Combines, CombinesAccepted}
use Rattle.sharing.specs.ByteLengths.{byte_lengths_answer, byte_lengths_bytes, CombinesByByteLengths}

module _ (s ns out : List ℕ) where
  abbrev room_and_done : Outcome
  room_and_done = refuse (ltb (length out) (secret_length ns)) (refused 12 0 0) (done (secret_length ns))

  -- what the checks refuse, combine refuses, and it leaves the output as it came
  pub refuses : {o : Outcome} {n i j : ℕ} → o ≡ refused n i j → o ≡ judged_rows 2 s ns (done (secret_length ns)) → Combines s ns out o out
  unfolding combine_outcome combine_bytes
  refuses {o} {n} {i} {j} r e =
      let a : combine_answer s ns (length out) ≡ refused n i j = (rows_chain 2 s ns).stops (secret_length ns) n i j room_and_done (sym e ∙ r) in
      record { answers = r ∙ sym a; leaves = sym (ap (λ b. at_exit b (combined gf256 0 (identifiers (cut ns s)) (values (cut ns s)) (secret_length ns)) out) a) }

  pub combines : {l m : ℕ} {a : Outcome} {left : List ℕ} → length ns ≡ m → judged_rows 2 s ns (done (secret_length ns)) ≡ done l
      → CombinesAccepted l m s out a left → Combines s ns out a left
  unfolding combine_outcome combine_bytes
  combines {l} {m} {a} {left} count e p =
      let k = subst (λ m. AcceptedRows 2 s ns m l) count (accepted-rows 2 s ns l e) in
      let o : combine_answer s ns (length out) ≡ room_and_done = ((rows_chain 2 s ns).goes_on (secret_length ns) l room_and_done e).1 in
      let same : a ≡ combine_answer s ns (length out) =
      p.answers ∙ ap (λ n. refuse (ltb (length out) n) (refused 12 0 0) (done n)) (sym k.value-count) ∙ sym o in
      record {
        answers = same;
        leaves = p.leaves
            ∙ ap₂ (λ x r. at_exit a (combined gf256 0 x (values (cut r s)) l) out) (sym k.ids_are) (sym k.lengths_are)
            ∙ ap₂ (λ b n. at_exit b (combined gf256 0 (identifiers (cut ns s)) (values (cut ns s)) n) out) same (sym k.value-count);
      }

module _ (s bytes out : List ℕ) where
  abbrev ns : List ℕ
  ns = lengths_of bytes

  pub refuses-bytes : {o : Outcome} → unreadable bytes ≡ true → o ≡ refused 13 0 0 → CombinesByByteLengths s bytes out o out
  unfolding byte_lengths_answer byte_lengths_bytes
  refuses-bytes t e = record { answers = e ∙ rw t; leaves = rw t }

  -- where the bytes can be read, combine by them is combine by the lengths that they make
  pub combines_bytes : {ms : List ℕ} {a : Outcome} {left : List ℕ} → unreadable bytes ≡ false → ms ≡ ns → Combines s ms out a left → CombinesByByteLengths s bytes out a left
  unfolding byte_lengths_answer byte_lengths_bytes
  combines_bytes {ms} {a} {left} t e p =
      let q : Combines s ns out a left = subst (λ l. Combines s l out a left) e p in
      record {
        answers = q.answers ∙ sym (ap (λ b. refuse b (refused 13 0 0) (combine_answer s ns (length out))) t);
        leaves = q.leaves ∙ sym (ap (λ b. cond b out (combine_bytes s ns out)) t);
      }
