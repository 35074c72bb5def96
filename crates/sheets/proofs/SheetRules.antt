-- The writer from the checks of rows and what is done with accepted rows.
-- Assumes nothing.
use mathlib.Core.Path.{◌≡◌, sym, ap, ap₂, ◌∙◌, subst}
use mathlib.Core.List.{List, ◌++◌}
use Prim.Native.Nat.{ℕ, ◌+◌, ◌*◌, ◌/◌, ◌≤◌}
use native.Mathlib.Nat.{zero-add}
use native.Mathlib.Omega.{arith}
use lib.ListN.{length, drop, replicate}
use borrow.Author.Tests.{le-ltb}
use Rattle.answer.specs.Outcome.{Outcome, done, refused}
use Rattle.rows.specs.Storage.{cut}
use Rattle.rows.specs.Lengths.{lengths_of}
use Rattle.row_set.specs.Limits.{max_shares, max_rows, max_secret, at_exit}
use Rattle.row_set.specs.RowSet.{secret_length, judged_byte_lengths, unreadable}
use Rattle.row_set.proofs.Chains.{passed}
use Rattle.row_set.proofs.RowSet.{readable, byte_lengths_chain, accepted-bytes}
use Rattle.sheets.specs.Sheet.{head_line, sheet, sheet_text, judged_threshold, sheet_answer, sheet_bytes, WritesAccepted, WritesSheet}
use Rattle.sheets.specs.Writing.{Puts}
use Rattle.sheets.proofs.Writing.{puts_then}
use Rattle.sheets.proofs.PutRows.{lines_to, sheet_is}

module _ (t : ℕ) (s bytes out : List ℕ) where
  abbrev ns : List ℕ
  ns = lengths_of bytes

  abbrev later : Outcome
  later = judged_threshold t (length out) (length (sheet_text t s bytes))

  -- what the checks refuse, the writer refuses, and it leaves the output as it came
  pub refuses : {o : Outcome} {n i j : ℕ} → o ≡ refused n i j → o ≡ judged_byte_lengths 1 s bytes (done (secret_length ns)) → WritesSheet t s bytes out o out
  unfolding sheet_answer sheet_bytes
  refuses {o} {n} {i} {j} r e =
      let a : sheet_answer t s bytes (length out) ≡ refused n i j = (byte_lengths_chain 1 s bytes).stops (secret_length ns) n i j later (sym e ∙ r) in
      record { answers = r ∙ sym a; leaves = sym (ap (λ b. at_exit b (sheet_text t s bytes) out) a) }

  module _ {l : ℕ} (e : judged_byte_lengths 1 s bytes (done (secret_length ns)) ≡ done l) where
    -- what accepted rows are asked for
    pub accepted : (length bytes / 4 ≤ max_rows) × (l ≤ max_secret) × (length bytes / 4 * (l + 1) ≡ length s)
    accepted =
        let k = accepted-bytes 1 s bytes l e in
        ((readable bytes (passed (unreadable bytes) 13 0 0 _ l e).0).1, k.most, k.filled)

    -- the writer does what is done with them
    pub writes : {v : ℕ} {a : Outcome} {left : List ℕ} → v ≡ l → WritesAccepted t (length bytes / 4) v s out a left → WritesSheet t s bytes out a left
    unfolding sheet_answer sheet_bytes
    writes {v} {a} {left} count given =
        let p = subst (λ x. WritesAccepted t (length bytes / 4) x s out a left) count given in
        let k = accepted-bytes 1 s bytes l e in
        let text : sheet t l (cut (replicate (length bytes / 4) (l + 1)) s) ≡ sheet_text t s bytes =
        ap₂ (λ v r. sheet t v (cut r s)) (sym k.value-count) (sym k.lengths_are) in
        let o : sheet_answer t s bytes (length out) ≡ later = ((byte_lengths_chain 1 s bytes).goes_on (secret_length ns) l later e).1 in
        let same : a ≡ sheet_answer t s bytes (length out) = p.answers ∙ ap (λ x. judged_threshold t (length out) (length x)) text ∙ sym o in
        record { answers = same; leaves = p.leaves ∙ ap₂ (λ b x. at_exit b x out) same text }

-- ---- what is left for accepted rows

module _ (t m l : ℕ) (s out : List ℕ) where
  abbrev text : List ℕ
  text = sheet t l (cut (replicate m (l + 1)) s)

  module _ (low : 2 ≤ t) (high : t ≤ max_shares) {n : ℕ} (counted : n ≡ length text) where
    -- the first line and then the others, which the output then has
    pub written : {w q r e : ℕ} {first mid left new : List ℕ} → n ≤ length out → first ≡ out → q ≡ 0 → Puts (head_line t m l) q first r mid → Puts (lines_to m w s) r mid e left
        → w ≡ l + 1 → new ≡ left → WritesAccepted t m l s out (done n) new
    written {w} {q} {r} {e} {first} {mid} {left} {new} h same front p q' wide is =
        let head = subst (λ k. Puts (head_line t m l) k out r mid) front (subst (λ o. Puts (head_line t m l) q o r mid) same p) in
        let put = subst (λ x. Puts x 0 out e left) (sym (sheet_is t l m (l + 1) s)) (puts_then (omega arith) head (subst (λ k. Puts (lines_to m k s) r mid e left) wide q')) in
        record {
          answers = ap done counted ∙ sym (simp (le-ltb t 2 low, le-ltb max_shares t high, le-ltb (length out) (length text) (omega arith)));
          leaves = is ∙ put.leaves ∙ ap (λ k. text ++ drop k out) (zero-add (length text) ∙ sym counted);
        }
