-- The text of a first line in range and of as many rows with different identifiers is a sheet: the writer accepts them laid together.
-- Assumes nothing.
use mathlib.Core.Path.{◌≡◌, refl, sym, ap, ap₂, ◌∙◌}
use mathlib.Core.Bool.{false}
use mathlib.Core.List.{List, map}
use Prim.Native.Nat.{ℕ, ◌+◌, ◌*◌, ◌^◌, ◌<◌, ◌≤◌}
use native.Mathlib.Nat.{le_refl}
use native.Mathlib.Omega.{arith}
use lib.Dec.{ltb}
use lib.ListN.{length, get_or, length-map}
use borrow.Author.Tests.{le-ltb}
use Rattle.answer.specs.Outcome.{Outcome, done}
use Rattle.shamir.specs.Lists.{All, Below, Fresh}
use Rattle.shamir.proofs.Lists.{all_map, all_both}
use Rattle.rows.specs.Storage.{cut, laid, identifiers}
use Rattle.rows.specs.Lengths.{length_bytes}
use Rattle.rows.proofs.Laid.{cut-laid}
use Rattle.row_set.specs.Limits.{max_shares}
use Rattle.row_set.specs.RowSet.{secret_length, judged_rows}
use Rattle.row_set.proofs.RowSet.{by_lengths}
use Rattle.row_set.proofs.LaidRows.{values-each, laid_pass}
use Rattle.sheets.specs.Sheet.{sheet, sheet_text, judged_threshold, sheet_answer}
use Rattle.reading.specs.Unsheet.{SheetOf}
use Rattle.reading.specs.Lines.{Head, Row, Rows}
use Rattle.reading.proofs.LaidRows.{below_laid, length-length_bytes, lengths_of_lem, below_length_bytes}

nonzero-ids : (l : ℕ) (rows : List (List ℕ)) → All (Row l) rows → Fresh 0 (identifiers rows)
nonzero-ids l rows k = all_map (Row l) (λ a. a ≡ 0 → ⊥) (λ r. get_or r 0 0) (λ r h e. omega (arith, h.nonzero)) rows k

module _ (t l : ℕ) (rows : List (List ℕ)) (h : Head t (length rows) l) (k : Rows l rows) where
  abbrev ns : List ℕ
  ns = map length rows

  long : All (λ r. length r ≡ l + 1) rows
  long = all_both (Row l) (Row l) (λ r. length r ≡ l + 1) (λ r p q. p.long) rows k.each k.each

  secret_is : secret_length ns ≡ l
  secret_is = values-each l rows h.some_rows long

  judged_rows_lem : (later : Outcome) → judged_rows 1 (laid rows) ns later ≡ later
  judged_rows_lem = laid_pass l rows h.some_rows long (nonzero-ids l rows k.each) k.distinct h.some_values h.values_most 1 h.some_rows

  abbrev bytes : List ℕ
  bytes = length_bytes ns

  pub text_is : sheet t l rows ≡ sheet_text t (laid rows) bytes
  text_is = sym (ap (λ n. sheet t (secret_length n) (cut n (laid rows))) (lengths_of_lem ns) ∙ ap₂ (sheet t) secret_is (cut-laid rows))

  pub answer_is : (room : ℕ) → let count = length (sheet_text t (laid rows) bytes) in count ≤ room → sheet_answer t (laid rows) bytes room ≡ done count
  unfolding sheet_answer
  answer_is room fits =
      let count = length (sheet_text t (laid rows) bytes) in
      let later = judged_threshold t room count in
      let size : length bytes ≡ length rows * 4 = length-length_bytes ns ∙ ap (◌* 4) (length-map rows length) in
      let low : ltb t 2 ≡ false = le-ltb t 2 h.threshold_least in
      let high : ltb max_shares t ≡ false = le-ltb max_shares t h.threshold_most in
      let enough : ltb room count ≡ false = le-ltb room count fits in
      sym (by_lengths 1 (laid rows) bytes later (omega arith) (omega (arith, h.rows_most))
      (sym (ap (λ n. judged_rows 1 (laid rows) n later) (lengths_of_lem ns) ∙ judged_rows_lem later)))
      ∙ simp (low, high, enough)

  pub rows-sheet : SheetOf t l rows (sheet t l rows)
  rows-sheet = record {
    is_sheet = record {
      threshold = t;
      storage = laid rows;
      lengths = bytes;
      room = length (sheet_text t (laid rows) bytes);
      count = length (sheet_text t (laid rows) bytes);
      storage_bytes = below_laid 256 rows (all_both (Row l) (Row l) (Below 256) (λ r p q. p.bytes) rows k.each k.each);
      length_bytes = below_length_bytes ns (all_map (Row l) (◌< 2 ^ 32) length (λ r p. omega (arith, p.long, h.values_most)) rows k.each);
      accepted = answer_is _ (le_refl _);
      written = text_is;
    };
    threshold_is = refl;
    rows_are = refl;
    lengths_are = lengths_of_lem ns;
    text_is = refl;
  }
