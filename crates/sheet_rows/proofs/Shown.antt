-- What the program shows of a text, from what the reader answers for it.
-- Assumes nothing.
use mathlib.Core.Path.{◌≡◌, ap, ◌∙◌}
use mathlib.Core.Logic.{⊎_elim}
use mathlib.Core.List.{List, [], ◌∷◌}
use Prim.Native.Nat.{ℕ, ◌≤◌}
use native.Mathlib.Omega.{arith}
use lib.ListN.{length, drop, length-append, length-drop}
use Rattle.answer.specs.Outcome.{done, refused}
use Rattle.rows.specs.Storage.{cut, laid}
use Rattle.rows.specs.Lengths.{lengths_of}
use Rattle.row_set.specs.RowSet.{secret_length}
use Rattle.sheets.specs.Sheet.{head_line, row_line, row_lines, sheet}
use Rattle.sheets.proofs.TextLength.{length-row_line}
use Rattle.reading.specs.Reading.{IsSheet}
use Rattle.reading.specs.Unsheet.{SheetOf, after_line}
use Rattle.reading.specs.Answer.{read_answer}
use Rattle.reading.proofs.TextLines.{line_behind}
use Rattle.reading.proofs.RightLines.{head_line_lem}
use Rattle.reading.proofs.Unsheet.{finds, stored, accepts}
use Rattle.reading.proofs.Accepting.{accepts_sheets, accepts-only}
use Rattle.sheet_rows.specs.Shown.{RowLinesFrom}

shorter : (rows : List (List ℕ)) → length (laid rows) ≤ length (row_lines rows)
shorter [] = omega arith
shorter (row ∷ rows) =
    omega (
      arith,
      shorter rows,
      length-append row (laid rows),
      length-append (row_line row) (row_lines rows),
      length-row_line row,
      length-drop 1 row,
    )

module _ {text : List ℕ} {t l : ℕ} {rows : List (List ℕ)} (s : SheetOf t l rows text) where
  -- the row lines are all that is behind the first line, ..
  pub lines_behind : after_line text ≡ row_lines rows
  unfolding sheet
  lines_behind = ap after_line s.text_is ∙ line_behind (head_line_lem t (length rows) l) (row_lines rows)

  -- .. and the rows are no longer than the text
  pub rows_shorter : length (laid rows) ≤ length text
  unfolding sheet
  rows_shorter = omega (arith, ap length s.text_is, length-append (head_line t (length rows) l) (row_lines rows), shorter rows)

-- ---- by the answer

sheet_of_lem : (text : List ℕ) (s : IsSheet text) → let ns = lengths_of s.lengths in SheetOf s.threshold (secret_length ns) (cut ns s.storage) text
sheet_of_lem text s = accepts text _ _ _ (finds text s)

pub shows_lines : (text : List ℕ) (headRoom room count at : ℕ) → read_answer text headRoom room ≡ done count → at ≤ length text → drop at text ≡ after_line text
    → RowLinesFrom text at
shows_lines text headRoom room count at a h e =
    let s = sheet_of_lem text (accepts-only.sheet text headRoom room count a) in
    record { threshold = _; values = _; rows = _; is_sheet = s; inside = h; lines = e ∙ lines_behind s }

pub shows_number : (text : List ℕ) (room number i j : ℕ) → length text ≤ room → read_answer text 12 room ≡ refused number i j → (number ≡ 14) × (IsSheet text → ⊥)
shows_number text room number i j h a =
    ⊎_elim
    (λ e.
    let s = accepts-only.short text 12 room i j (a ∙ ap (λ n. refused n i j) e) in
    let fits : length s.storage ≤ room = omega (arith, ap length (stored text s), rows_shorter (sheet_of_lem text s)) in
    let read = accepts_sheets.sheet text s 12 room (omega arith) fits in
    absurd (let z : ◌≡◌ {A = ℕ} 0 1 = cc in omega arith))
    (λ e. (e, (accepts-only.other text 12 room i j (a ∙ ap (λ n. refused n i j) e)).0.no_sheet))
    (accepts-only.numbers text 12 room number i j a)
