-- `output_of` meets its contract: by what the reader answers.
use Rattle.std.proofs.Common.{sym, ◌∙◌, arith}
use Rattle.std.proofs.lemmas.Result.{err_from_is_err_and}
use Rattle.answer.proofs.Meaning.{refusal}
use Rattle.sheet_rows.proofs.AfterLine.{from_a_place}
use Rattle.sheet_rows.proofs.Shown.{shows_lines, shows_number}
use Rattle.sheet_rows.proofs.output_of.Goals as goal

pub returns-in_err-read_sheet : goal.returns-in_err-read_sheet
returns-in_err-read_sheet c =
    let p = err_from_is_err_and c.from_residual.result c.from_residual.ensures.1 in
    let refused = sym c.in_err-read_sheet.ensures.answers ∙ refusal c.in_err-read_sheet.field-0.0 in
    rw (p.1, p.2) (shows_number c.args.text.now _ _ _ _ (omega (arith, c.requires)) refused)

pub returns : goal.returns
returns c =
    let text = c.args.text.now in
    let place = from_a_place text in
    (place.0, shows_lines text _ _ _ _ (sym c.in_ok-read_sheet.ensures.answers) place.1 place.2, c.behind_first_line.ensures ∙ sym place.2)
