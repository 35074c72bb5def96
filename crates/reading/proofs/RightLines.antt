-- What the tests of a line say, and that a line of the writer passes them.
-- Assumes nothing.
use mathlib.Core.Path.{◌≡◌, sym, ap, ap₂, ◌∙◌}
use mathlib.Core.Bool.{true, not, ◌&&◌}
use mathlib.Core.List.{List, [], ◌∷◌}
use Prim.Native.Nat.{ℕ, ◌+◌}
use native.Mathlib.Omega.{arith}
use lib.Dec.{eqb, ltb}
use lib.ListN.{length, get_or, drop}
use lib.Seq.{drop-cons}
use borrow.Author.Tests.{eqb-true, eq-eqb, ltb-true, ltb-false, lt-ltb, le-ltb, not-true}
use Rattle.shamir.specs.Lists.{Fresh}
use Rattle.rows.specs.Search.{place_of, within}
use Rattle.rows.proofs.Search.{fresh_of, place_fresh}
use Rattle.row_set.specs.Limits.{max_shares, max_secret}
use Rattle.sheets.specs.Text.{decimal, hex}
use Rattle.sheets.specs.Sheet.{seal_word, row_word, head_line, row_line}
use Rattle.sheets.specs.ReadAs.{value, unhex}
use Rattle.reading.specs.Unsheet.{field_at, same, between, right_head, row_of, all_below, right_row}
use Rattle.reading.specs.Lines.{Head, Row}
use Rattle.sheets.proofs.DecimalValue.{value-decimal}
use Rattle.sheets.proofs.Hex.{unhex-hex}
use Rattle.sheets.proofs.Lines.{seal_plain, row_plain, Writable}
use Rattle.reading.proofs.TextLines.{IsLine, is_line}
use Rattle.reading.proofs.FieldsRead.{field_of}
use Rattle.reading.proofs.LineTests.{both, same_true, same_self, below_true, true_below, between_true, true_between}

-- ---- the first line

module _ (t m l : ℕ) where
  pub head_true : (line : List ℕ) → right_head t m l line ≡ true → Head t m l × (line ≡ head_line t m l)
  head_true line e =
      let p = both (between 2 max_shares t && between 1 max_shares m && between 1 max_secret l) (same line (head_line t m l)) e in
      let q = both (between 2 max_shares t && between 1 max_shares m) (between 1 max_secret l) p.0 in
      let r = both (between 2 max_shares t) (between 1 max_shares m) q.0 in
      let ts = between_true 2 max_shares t r.0 in
      let ms = between_true 1 max_shares m r.1 in
      let ls = between_true 1 max_secret l q.1 in
      (record { threshold_least = ts.0; threshold_most = ts.1; some_rows = ms.0; rows_most = ms.1; some_values = ls.0; values_most = ls.1 }, same_true _ _ p.1)

  pub true_head : Head t m l → right_head t m l (head_line t m l) ≡ true
  true_head h =
      ap₂ ◌&&◌
      (ap₂ ◌&&◌
      (ap₂ ◌&&◌ (true_between 2 max_shares t h.threshold_least h.threshold_most) (true_between 1 max_shares m h.some_rows h.rows_most))
      (true_between 1 max_secret l h.some_values h.values_most))
      (same_self (head_line t m l))

  pub head_line_lem : IsLine (head_line t m l)
  head_line_lem = is_line seal_word (decimal t ∷ decimal m ∷ decimal l ∷ []) (seal_plain t m l)

  -- its three numbers are read from it
  pub head_read : (value (field_at 1 (head_line t m l)) ≡ t) × (value (field_at 2 (head_line t m l)) ≡ m) × (value (field_at 3 (head_line t m l)) ≡ l)
  head_read =
      let fields = decimal t ∷ decimal m ∷ decimal l ∷ [] in
      let plain = seal_plain t m l in (
        ap value (field_of 1 seal_word fields plain) ∙ value-decimal t,
        ap value (field_of 2 seal_word fields plain) ∙ value-decimal m,
        ap value (field_of 3 seal_word fields plain) ∙ value-decimal l,
      )

-- ---- the line of a row

-- a row of a sheet with l values a row
pub row_true : (l : ℕ) (ids row line : List ℕ) → right_row l ids row line ≡ true → Row l row × Fresh (get_or row 0 0) ids × (line ≡ row_line row)
row_true l ids row line e =
    let id = get_or row 0 0 in
    let p = both (eqb (length row) (l + 1) && all_below 256 row && ltb 0 id && not (within (place_of id ids) ids)) (same line (row_line row)) e in
    let q = both (eqb (length row) (l + 1) && all_below 256 row && ltb 0 id) (not (within (place_of id ids) ids)) p.0 in
    let r = both (eqb (length row) (l + 1) && all_below 256 row) (ltb 0 id) q.0 in
    let s = both (eqb (length row) (l + 1)) (all_below 256 row) r.0 in (
      record { long = eqb-true _ _ s.0; bytes = below_true 256 row s.1; nonzero = ltb-true 0 id r.1 },
      fresh_of id ids (ltb-false _ _ (not-true _ q.1)),
      same_true _ _ p.1,
    )

module _ {l : ℕ} {row : List ℕ} (h : Row l row) where
  pub true_row : (ids : List ℕ) → Fresh (get_or row 0 0) ids → right_row l ids row (row_line row) ≡ true
  true_row ids f =
      ap₂ ◌&&◌
      (ap₂ ◌&&◌
      (ap₂ ◌&&◌ (ap₂ ◌&&◌ (eq-eqb _ _ h.long) (true_below 256 row h.bytes)) (lt-ltb 0 _ h.nonzero))
      (ap not (le-ltb _ (length ids) (omega (arith, place_fresh (get_or row 0 0) ids f)))))
      (same_self (row_line row))

  writable : Writable row
  writable = record { some = omega (arith, h.long); bytes = h.bytes }

  pub row_line_lem : IsLine (row_line row)
  row_line_lem = is_line row_word (decimal (get_or row 0 0) ∷ hex (drop 1 row) ∷ []) (row_plain row writable)

  pub row_read : row_of (row_line row) ≡ row
  row_read =
      let fields = decimal (get_or row 0 0) ∷ hex (drop 1 row) ∷ [] in
      let plain = row_plain row writable in
      ap₂ ◌∷◌
      (ap value (field_of 1 row_word fields plain) ∙ value-decimal (get_or row 0 0))
      (ap unhex (field_of 2 row_word fields plain) ∙ unhex-hex (drop 1 row))
      ∙ sym (drop-cons row 0 0 writable.some)
