-- The beginning of a sheet can be continued to one: further rows have identifiers that are left, and zeros for values.
-- Assumes nothing.
use mathlib.Core.Path.{◌≡◌, refl, sym, ap, ap₂, ◌∙◌, subst}
use mathlib.Core.List.{List, [], ◌∷◌, ◌++◌, append_assoc, append-nil}
use Prim.Native.Nat.{ℕ, zero, suc, ◌+◌, ◌-◌, ◌≤◌}
use native.Mathlib.Omega.{arith}
use lib.ListN.{length, get_or, replicate, length-append, length-replicate, length-map}
use lib.Seq.{append_snoc}
use Rattle.shamir.specs.Lists.{Below, Fresh, Distinct}
use Rattle.shamir.proofs.Lists.{all_append}
use Rattle.rows.specs.Storage.{identifiers}
use Rattle.sheets.specs.Sheet.{head_line, row_line, row_lines, sheet}
use Rattle.reading.specs.Reading.{IsSheet, Continues}
use Rattle.reading.specs.Lines.{Head, Row, Rows}
use Rattle.reading.proofs.FreshNumbers.{fresh_number, distinct_then}
use Rattle.reading.proofs.RowsWritten.{rows-sheet}

-- ---- one row more

pub ids-append : (rows more : List (List ℕ)) → identifiers (rows ++ more) ≡ identifiers rows ++ identifiers more
ids-append [] more = refl
ids-append (r ∷ rows) more = ap (get_or r 0 0 ∷◌) (ids-append rows more)

pub rows_then : {l : ℕ} {rows : List (List ℕ)} {row : List ℕ} → Rows l rows → Row l row → Fresh (get_or row 0 0) (identifiers rows) → Rows l (rows ++ (row ∷ []))
rows_then {l} {rows} {row} k h f = record {
  each = all_append (Row l) rows (row ∷ []) k.each (h, tt);
  distinct = subst Distinct (sym (ids-append rows (row ∷ []))) (distinct_then (identifiers rows) (get_or row 0 0) k.distinct f);
}

zeros : (l : ℕ) → Below 256 (replicate l 0)
zeros zero = tt
zeros (suc l) = (omega arith, zeros l)

-- n further rows
further : (l n : ℕ) (rows : List (List ℕ)) → Rows l rows → length rows + n ≤ 255 → (more : List (List ℕ)) × (length more ≡ n) × Rows l (rows ++ more)
further l zero rows k h = ([], refl, subst (Rows l) (sym (append-nil rows)) k)
further l (suc n) rows k h =
    let count : length (identifiers rows) ≡ length rows = length-map rows (λ r. get_or r 0 0) in
    let id = fresh_number 256 (0 ∷ identifiers rows) (omega arith) in
    let row = id.0 ∷ replicate l 0 in
    let right : Row l row = record { long = omega (arith, length-replicate {A = ℕ} l 0); bytes = (id.1, zeros l); nonzero = omega (arith, id.2.0) } in
    let size : length (rows ++ (row ∷ [])) ≡ length rows + 1 = length-append rows (row ∷ []) in
    let rest = further l n (rows ++ (row ∷ [])) (rows_then k right id.2.1) (omega arith) in
    (row ∷ rest.0, ap suc rest.1, subst (Rows l) (append_snoc rows row rest.0) rest.2)

-- ---- the beginning of a text

pub begins_continued : (a b : List ℕ) → Continues (a ++ b) → Continues a
begins_continued a b c = record { rest = b ++ c.rest; is_sheet = subst IsSheet (append_assoc a b c.rest) c.is_sheet }

pub row_lines-append : (rows more : List (List ℕ)) → row_lines (rows ++ more) ≡ row_lines rows ++ row_lines more
row_lines-append [] more = refl
row_lines-append (r ∷ rows) more = ap (row_line r ++◌) (row_lines-append rows more) ∙ sym (append_assoc (row_line r) (row_lines rows) (row_lines more))

pub continued : (t m l : ℕ) (rows : List (List ℕ)) → Head t m l → Rows l rows → length rows ≤ m → Continues (head_line t m l ++ row_lines rows)
unfolding sheet
continued t m l rows h k few =
    let f = further l (m - length rows) rows k (omega (arith, h.rows_most)) in
    let all = rows ++ f.0 in
    let count : length all ≡ m = omega (arith, length-append rows f.0, f.1) in
    let s = rows-sheet t l all (subst (λ n. Head t n l) (sym count) h) f.2 in
    let text : sheet t l all ≡ head_line t m l ++ row_lines rows ++ row_lines f.0 =
    ap₂ (λ n x. head_line t n l ++ x) count (row_lines-append rows f.0) ∙ sym (append_assoc (head_line t m l) (row_lines rows) (row_lines f.0)) in
    record { rest = row_lines f.0; is_sheet = subst IsSheet text s.is_sheet }
