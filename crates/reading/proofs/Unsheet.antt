-- Every sheet is found as it was written, and what is found is a sheet.
-- Assumes nothing.
use mathlib.Core.Path.{◌≡◌, sym, ap, ap₂, ◌∙◌, subst, subst₃}
use mathlib.Core.List.{List, [], ◌++◌}
use mathlib.Core.Logic.{⊎_elim}
use Prim.Native.Nat.{ℕ}
use native.Mathlib.Omega.{arith}
use lib.ListN.{length}
use Rattle.rows.specs.Storage.{cut, laid}
use Rattle.rows.specs.Lengths.{lengths_of}
use Rattle.rows.proofs.Laid.{laid-cut}
use Rattle.row_set.specs.RowSet.{secret_length}
use Rattle.sheets.specs.Sheet.{head_line, row_lines, sheet}
use Rattle.reading.specs.Reading.{IsSheet}
use Rattle.reading.specs.Unsheet.{Read, sheet_of, unsheet, SheetOf}
use Rattle.reading.specs.Lines.{Head, Rows}
use Rattle.sheets.proofs.Accepted.{accepted-sheet, rows_fill}
use Rattle.reading.proofs.RowsWritten.{rows-sheet}
use Rattle.reading.proofs.RowsAccepted.{sheet-rows}
use Rattle.reading.proofs.Beginnings.{head-right, head-wrong, head_or_not}
use Rattle.reading.proofs.Unrows.{unrows_finds, unrows-takes}

pub no_rows : (l : ℕ) → Rows l []
no_rows l = record { each = tt; distinct = tt }

abbrev as_written : {text : List ℕ} → IsSheet text → Read
as_written s = let ns = lengths_of s.lengths in sheet_of s.threshold (secret_length ns) (cut ns s.storage)

pub finds : (text : List ℕ) (s : IsSheet text) → unsheet text ≡ as_written s
unfolding sheet
finds text s =
    let ns = lengths_of s.lengths in
    let rows = cut ns s.storage in
    let r = sheet-rows s in
    ap unsheet s.written
    ∙ head-right s.threshold (length rows) (secret_length ns) r.0 (row_lines rows)
    ∙ unrows_finds s.threshold (secret_length ns) rows [] 1 r.1.each r.1.distinct

pub stored : (text : List ℕ) (s : IsSheet text) → laid (cut (lengths_of s.lengths) s.storage) ≡ s.storage
stored text s =
    let a = accepted-sheet s.threshold s.storage s.lengths s.room s.count s.accepted in
    laid-cut (lengths_of s.lengths) s.storage (omega (arith, rows_fill a.rows))

-- a text in which a sheet is found: its first line is in range, its rows are rows, and it is theirs
pub record Found (t l : ℕ) (rows : List (List ℕ)) (text : List ℕ) : Type 0 where
  pub head : Head t (length rows) l
  pub are_rows : Rows l rows
  pub whole : text ≡ sheet t l rows

pub found_rows : (text : List ℕ) (t l : ℕ) (rows : List (List ℕ)) → unsheet text ≡ sheet_of t l rows → Found t l rows text
unfolding sheet
found_rows text t l rows e =
    ⊎_elim
    (λ b.
    let r = head-right b.t b.m b.l b.head b.later in
    let n = unrows-takes b.t b.l b.m 1 [] b.later t l rows (no_rows b.l) (sym (ap unsheet b.parts ∙ r) ∙ e) in
    subst₃ (λ x y z. Found x y z text) n.threshold_is n.values_are n.found_is
    (record {
      head = subst (λ m. Head b.t m b.l) (sym n.count) b.head;
      are_rows = n.are_rows;
      whole = b.parts ∙ ap₂ (λ m x. head_line b.t m b.l ++ x) (sym n.count) n.lines;
    }))
    (λ w. absurd (let f = head-wrong text w in let z : ◌≡◌ {A = ℕ} 0 1 = cc in omega arith))
    (head_or_not text)

pub accepts : (text : List ℕ) (t l : ℕ) (rows : List (List ℕ)) → unsheet text ≡ sheet_of t l rows → SheetOf t l rows text
accepts text t l rows e =
    let f = found_rows text t l rows e in
    subst (SheetOf t l rows) (sym f.whole) (rows-sheet t l rows f.head f.are_rows)
