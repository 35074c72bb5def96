-- Reading and writing undo each other, and the promise of the reader leaves nothing open.
-- Assumes nothing.
use mathlib.Core.Path.{◌≡◌, refl, sym, ap, ap₂, ◌∙◌, subst, subst₃}
use mathlib.Core.List.{List, ◌++◌, map}
use Prim.Native.Nat.{ℕ, ◌+◌, ◌≤◌}
use native.Mathlib.Omega.{arith}
use lib.ListN.{length, take, drop, replicate}
use lib.Seq.{take_at}
use Rattle.answer.specs.Outcome.{done}
use Rattle.answer.proofs.Meaning.{told}
use Rattle.rows.specs.Storage.{laid}
use Rattle.rows.specs.Lengths.{four_bytes, length_bytes, lengths_of}
use Rattle.rows.proofs.Storage.{length_cut}
use Rattle.rows.proofs.Lengths.{length-lengths}
use Rattle.row_set.specs.Limits.{at_exit}
use Rattle.row_set.specs.RowSet.{secret_length}
use Rattle.row_set.proofs.Chains.{apart}
use Rattle.sheets.specs.Sheet.{sheet_text, sheet_answer, sheet_bytes}
use Rattle.sheets.proofs.LengthBytes.{bytes-lengths}
use Rattle.sheets.proofs.Accepted.{accepted-sheet}
use Rattle.reading.specs.Reading.{IsSheet}
use Rattle.reading.specs.Unsheet.{Read, sheet_of, not_at, unsheet}
use Rattle.reading.specs.Answer.{read_head, read_rows}
use Rattle.reading.specs.Promises.{WrittenThenRead, WritesText, number_in, ReadThenWritten, Untouched, Determined}
use Rattle.reading.proofs.LaidRows.{lengths-same, four_of}
use Rattle.reading.proofs.RowsWritten.{text_is, answer_is}
use Rattle.reading.proofs.Unsheet.{finds, stored, Found, found_rows}
use Rattle.reading.proofs.Accepting.{accepts_sheets}
use Rattle.reading.proofs.Answers.{no_sheet, count_is, refused-leaves, done-leaves}

-- ---- there and back

pub written_then_read : WrittenThenRead
written_then_read t s lengths head out room count hs hl e h k =
    let text = sheet_text t s lengths in
    let ns = lengths_of lengths in
    let sheet : IsSheet text = record { threshold = t; storage = s; lengths = lengths; room = room; count = count; storage_bytes = hs; length_bytes = hl; accepted = e; written = refl } in
    let a = accepted-sheet t s lengths room count e in
    let answer = accepts_sheets.sheet text sheet (length head) (length out) h k in
    let left = done-leaves (finds text sheet) answer in
    record {
      answers = answer;
      rows_are = sym left.leaves ∙ ap (λ x. x ++ drop (length x) out) (stored text sheet);
      head-is = sym left.head_leaves
          ∙ ap (λ m. four_bytes t ++ four_bytes m ++ four_bytes (secret_length ns) ++ drop 12 head) (length_cut ns s ∙ length-lengths lengths);
      lengths_are = sym (ap length_bytes a.rows.lengths_are) ∙ bytes-lengths lengths a.whole hl;
    }

-- the rows that are found are written as the text
writes_found : {t l : ℕ} {rows : List (List ℕ)} {text : List ℕ} → Found t l rows text → WritesText t (laid rows) (length_bytes (replicate (length rows) (l + 1))) text
unfolding sheet_bytes
writes_found {t} {l} {rows} {text} f =
    let bytes = length_bytes (map length rows) in
    let same : sheet_text t (laid rows) bytes ≡ text = sym (f.whole ∙ text_is t l rows f.head f.are_rows) in
    let answers : (room : ℕ) → length text ≤ room → sheet_answer t (laid rows) bytes room ≡ done (length text) =
    λ room h. answer_is t l rows f.head f.are_rows room (omega (arith, ap length same)) ∙ ap (λ x. done (length x)) same in
    subst (λ x. WritesText t (laid rows) (length_bytes x) text) (lengths-same l rows f.are_rows.each)
    (record { text_is = same; answers = answers; leaves = λ out h. ap₂ (λ o x. at_exit o x out) (answers (length out) h) same })

pub read_then_written : ReadThenWritten
read_then_written text head out count a = pick (unsheet text) refl
  where
    number : ℕ → ℕ
    number = number_in (read_head text head out)

    pick : (r : Read) → unsheet text ≡ r → WritesText (number 0) (take count (read_rows text head out)) (length_bytes (replicate (number 1) (number 2 + 1))) text
    pick (sheet_of t l rows) e =
        let left = done-leaves e a in
        let numbers : (i : ℕ) → number_in (four_bytes t ++ four_bytes (length rows) ++ four_bytes l ++ drop 12 head) i ≡ number i = λ i. ap (λ x. number_in x i) left.head_leaves in
        subst₃ (λ x y z. WritesText x y (length_bytes z) text)
        (sym (four_of t) ∙ numbers 0)
        (sym (take_at (laid rows) (drop (length (laid rows)) out) count (count_is text e (length head) (length out) a)) ∙ ap (take count) left.leaves)
        (ap₂ (λ m n. replicate m (n + 1)) (sym (four_of (length rows)) ∙ numbers 1) (sym (four_of l) ∙ numbers 2))
        (writes_found (found_rows text t l rows e))
    pick (not_at k) e = absurd (apart (sym (no_sheet text e (length head) (length out)) ∙ a))

-- ---- nothing else is written, and nothing left open

pub untouched : Untouched
untouched text head out number i j a = let r = refused-leaves a in (sym r.head_leaves, sym r.leaves)

pub determined : Determined
determined text head out a b head-a left-a head-b left-b p q = (
  told a b (p.answers ∙ sym q.answers),
  p.head_leaves ∙ sym q.head_leaves,
  p.leaves ∙ sym q.leaves,
)
