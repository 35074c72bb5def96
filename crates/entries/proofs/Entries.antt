-- Demand 3 of the C entries, from that of the definitions: words are read back, and lengths as bytes.
-- Assumes nothing.
use mathlib.Core.Path.{◌≡◌, refl, sym, ap, ap₂, ◌∙◌, subst}
use mathlib.Core.Bool.{Bool, true, false, cond, not, ◌||◌}
use mathlib.Core.List.{List, map}
use Prim.Native.Nat.{ℕ, ◌-◌, ◌/◌, ◌%◌, ◌^◌, ◌<◌, ◌≤◌}
use native.Mathlib.Omega.{arith}
use lib.Dec.{ltb}
use lib.ListN.{length, take, length-map}
use borrow.Author.Tests.{eq-eqb, le-ltb}
use Rattle.answer.specs.Outcome.{Outcome, done, refused, refuse, word_of}
use Rattle.shamir.specs.Lists.{Below}
use Rattle.rows.specs.Storage.{laid}
use Rattle.rows.specs.Lengths.{length_bytes, lengths_of}
use Rattle.rows.proofs.Pigeonhole.{pigeonhole}
use Rattle.row_set.specs.Limits.{max_rows, at_exit}
use Rattle.row_set.specs.RowSet.{unreadable}
use Rattle.sharing.specs.Split.{split_outcome, rows_of, split_bytes}
use Rattle.sharing.specs.Combine.{combine_answer, combine_bytes}
use Rattle.sharing.specs.ByteLengths.{byte_lengths_answer, byte_lengths_bytes}
use Rattle.sharing.proofs.SplitAccepted.{accepted}
use Rattle.demands.specs.Demands.{row_at, Accepted, shown}
use Rattle.demands.proofs.Recovery.{facts, recovery}
use Rattle.demands.proofs.Hiding.{hiding}
use Rattle.sheets.specs.Sheet.{sheet_text, sheet_answer, sheet_bytes}
use Rattle.reading.proofs.LaidRows.{length-length_bytes, lengths_of_lem}
use Rattle.vsss.specs.Words.{Fits}
use Rattle.vsss.proofs.Words.{readable}
use Rattle.entries.specs.Entries.{SplitDone, EntryRecovery, EntryHiding, EntryUntouched}

-- a word below 2^40 is the count of a call that was done
pub counts : (o : Outcome) → Fits o → word_of o < 2 ^ 40 → o ≡ done (word_of o)
counts (done count) f h = refl
counts (refused number first second) f h = absurd (omega (arith, f.0.0))

-- lengths that are written as bytes, and are not too many, can be read
pub few_readable : (ns : List ℕ) → length ns ≤ max_rows → unreadable (length_bytes ns) ≡ false
few_readable ns h =
    let bytes = length_bytes ns in
    let fours = length-length_bytes ns in
    ap (λ t. not t || ltb max_rows (length bytes / 4)) (eq-eqb (length bytes % 4) 0 (omega (arith, fours)))
    ∙ le-ltb max_rows (length bytes / 4) (omega (arith, fours))

-- ---- split

module _ (t n : ℕ) (secret ids coefficients out : List ℕ) where
  abbrev outcome : Outcome
  outcome = split_outcome t n (length secret) ids (length coefficients) (length out)

  fits : Fits outcome
  fits = readable.split t n (length secret) ids (length coefficients) (length out)

  entry_accepted : {word : ℕ} {written : List ℕ} → SplitDone t n secret ids coefficients out word written → Accepted t n secret ids coefficients out
  entry_accepted d =
      let e = counts outcome fits (subst (◌< 2 ^ 40) d.gives.answers d.is_done) in
      record {
        done_all = e ∙ ap done (accepted t n (length secret) ids (length coefficients) (length out) (word_of outcome) e).count_is;
        secret_bytes = d.secret_bytes;
        id_bytes = d.id_bytes;
        coefficient_bytes = d.coefficient_bytes;
        distinct = d.distinct;
      }

  accepted_entry : Accepted t n secret ids coefficients out → SplitDone t n secret ids coefficients out (word_of outcome) (split_bytes t n secret ids coefficients out)
  accepted_entry a = record {
    gives = record { answers = refl; leaves = refl };
    is_done = subst (λ o. word_of o < 2 ^ 40) (sym a.done_all) (subst Fits a.done_all fits);
    secret_bytes = a.secret_bytes;
    id_bytes = a.id_bytes;
    coefficient_bytes = a.coefficient_bytes;
    distinct = a.distinct;
  }

  -- what stands in the output is what the definition shows
  same_rows : {word : ℕ} {written : List ℕ} → SplitDone t n secret ids coefficients out word written → (places : List ℕ)
      → map (row_at (length secret) written) places ≡ shown t n secret ids coefficients out places
  same_rows d places = ap (λ b. map (row_at (length secret) b) places) d.gives.leaves

-- ---- combine

module _ (s ns : List ℕ) (few : length ns ≤ max_rows) where
  same_answer : (room : ℕ) → byte_lengths_answer s (length_bytes ns) room ≡ combine_answer s ns room
  unfolding byte_lengths_answer
  same_answer room = ap₂ (λ b x. refuse b (refused 13 0 0) (combine_answer s x room)) (few_readable ns few) (lengths_of_lem ns)

  same_bytes : (out : List ℕ) → byte_lengths_bytes s (length_bytes ns) out ≡ combine_bytes s ns out
  unfolding byte_lengths_bytes
  same_bytes out = ap₂ (λ b x. cond b out (combine_bytes s x out)) (few_readable ns few) (lengths_of_lem ns)

-- ---- refused

-- a word from 2^40 on of an outcome that keeps to its bits is a refusal
keeps : (o : Outcome) (bytes out : List ℕ) → Fits o → 2 ^ 40 ≤ word_of o → at_exit o bytes out ≡ out
keeps (done count) bytes out f h = absurd (omega arith)
keeps (refused number first second) bytes out f h = refl

combine_keeps : (s bytes out : List ℕ) → 2 ^ 40 ≤ word_of (byte_lengths_answer s bytes (length out)) → byte_lengths_bytes s bytes out ≡ out
unfolding byte_lengths_answer byte_lengths_bytes combine_bytes
combine_keeps s bytes out h = by_reading (unreadable bytes) refl
  where
    by_reading : (b : Bool) → unreadable bytes ≡ b → cond (unreadable bytes) out (combine_bytes s (lengths_of bytes) out) ≡ out
    by_reading true e = rw e
    by_reading false e =
        let same : byte_lengths_answer s bytes (length out) ≡ combine_answer s (lengths_of bytes) (length out) = rw e in
        rw e (keeps (combine_answer s (lengths_of bytes) (length out)) _ out (subst Fits same (readable.combine s bytes (length out))) (subst (λ o. 2 ^ 40 ≤ word_of o) same h))

split_keeps : (t n : ℕ) (secret ids coefficients out : List ℕ) → 2 ^ 40 ≤ word_of (outcome t n secret ids coefficients out)
    → split_bytes t n secret ids coefficients out ≡ out
unfolding split_bytes
split_keeps t n secret ids coefficients out h =
    keeps (outcome t n secret ids coefficients out) (rows_of (t - 1) secret coefficients (take n ids)) out (fits t n secret ids coefficients out) h

sheet_keeps : (t : ℕ) (rows lengths out : List ℕ) → Below 256 rows → 2 ^ 40 ≤ word_of (sheet_answer t rows lengths (length out))
    → sheet_bytes t rows lengths out ≡ out
unfolding sheet_bytes
sheet_keeps t rows lengths out b h =
    keeps (sheet_answer t rows lengths (length out)) (sheet_text t rows lengths) out (readable.sheet t rows lengths (length out) b) h

pub entry_untouched : EntryUntouched
entry_untouched = record {
  split = λ t n secret ids coefficients out left word g h. g.leaves ∙ split_keeps t n secret ids coefficients out (subst (2 ^ 40 ≤◌) g.answers h);
  combine = λ rows lengths out left word g h. g.leaves ∙ combine_keeps rows lengths out (subst (2 ^ 40 ≤◌) g.answers h);
  sheet = λ t rows lengths out left word b g h. g.leaves ∙ sheet_keeps t rows lengths out b (subst (2 ^ 40 ≤◌) g.answers h);
}

-- ---- both

pub entry_recovery : EntryRecovery
entry_recovery t n secret ids coefficients out written places room left split combine d below apart enough roomy g =
    let a = entry_accepted t n secret ids coefficients out d in
    let r = recovery t n secret ids coefficients out places room a below apart enough roomy in
    let same = same_rows t n secret ids coefficients out d places in
    let rows = map (row_at (length secret) written) places in
    let few : length (map length rows) ≤ max_rows =
    omega (arith, pigeonhole n places apart below, (facts t n secret ids coefficients out a).rows_most, length-map rows length, length-map places (row_at (length secret) written)) in (
      g.answers ∙ ap word_of (same_answer (laid rows) (map length rows) few (length room) ∙ ap (λ x. combine_answer (laid x) (map length x) (length room)) same ∙ r.answers),
      g.leaves ∙ same_bytes (laid rows) (map length rows) few room ∙ ap (λ x. combine_bytes (laid x) (map length x) room) same ∙ r.leaves,
    )

pub entry_hiding : EntryHiding
entry_hiding t n secret ids coefficients out written places other word d below apart count other-bytes long =
    let same = same_rows t n secret ids coefficients out d places in
    let one = hiding t n secret ids coefficients out places other (entry_accepted t n secret ids coefficients out d) below apart count other-bytes long in
    record {
      the = one.the;
      has = record {
        word = _;
        written = _;
        split = accepted_entry t n other ids one.the out one.has.accepted;
        rows_same = one.has.rows_same ∙ sym same;
      };
      only = λ cs s. one.only cs (record {
        accepted = entry_accepted t n other ids cs out s.split;
        rows_same = sym (same_rows t n other ids cs out s.split places) ∙ s.rows_same ∙ same;
      });
    }
