-- The promise of the sheet writer determines its outcome, which depends on no value, and its text tells what was written.
-- Assumes nothing.
use mathlib.Core.Path.{refl, sym, ◌∙◌}
use Rattle.answer.proofs.Meaning.{told}
use Rattle.rows.specs.Storage.{cut}
use Rattle.rows.specs.Lengths.{lengths_of}
use Rattle.rows.proofs.Laid.{cut-told}
use Rattle.row_set.specs.RowSet.{secret_length, judged}
use Rattle.sheets.specs.Text.{decimal}
use Rattle.sheets.specs.Sheet.{sheet, sheet_answer, sheet_bytes}
use Rattle.sheets.specs.Promises.{Determined, Independent, ToldApart, DecimalRight, CaseG}
use Rattle.sheets.proofs.DecimalValue.{value-decimal, decimal-first}
use Rattle.sheets.proofs.Lines.{head-told, rows_told}
use Rattle.sheets.proofs.LengthBytes.{lengths-told}
use Rattle.sheets.proofs.Accepted.{accepted-sheet, rows_fill, rows_writable}
use Rattle.sheets.proofs.TextLength.{length-same}

pub determined : Determined
determined t s bytes out a b left right p q = (told a b (p.answers ∙ sym q.answers), p.leaves ∙ sym q.leaves)

pub independent : Independent
unfolding sheet_answer
independent t s s' bytes room e ids = rw (length-same t (secret_length (lengths_of bytes)) (lengths_of bytes) s s' e ids, e, ids)

pub told_apart : ToldApart
unfolding sheet
told_apart t u s bytes z others room space m n hs hb hz ho e f same =
    let a = accepted-sheet t s bytes room m e in
    let b = accepted-sheet u z others space n f in
    let head = head-told t _ _ u _ _ _ _ same in
    let rows = rows_told (cut (lengths_of bytes) s) (cut (lengths_of others) z) (rows_writable a.rows hs) (rows_writable b.rows hz) head.3 in
    let stored = cut-told (lengths_of bytes) (lengths_of others) s z (rows_fill a.rows) (rows_fill b.rows) rows in
    (head.0, stored.1, lengths-told bytes others a.whole b.whole hb ho stored.0)

pub decimal-right : DecimalRight
decimal-right = record { valued = value-decimal; no_leading_zero = decimal-first }

-- ---- the example

pub case_g : CaseG
unfolding sheet sheet_answer sheet_bytes decimal lengths_of judged
case_g = record { text = refl; answer = refl; bytes = refl }
