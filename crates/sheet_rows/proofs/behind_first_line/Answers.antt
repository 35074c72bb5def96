-- `behind_first_line` meets its contract: by the place of the first line feed.
use Rattle.std.proofs.Common.{sym, ◌∙◌, ◌+◌}
use Rattle.std.proofs.lemmas.List.{take_rest}
use Rattle.sheet_rows.proofs.AfterLine.{behind, nothing_behind}
use Rattle.sheet_rows.proofs.behind_first_line.Goals as goal

pub returns-in-Some : goal.returns-in-Some
returns-in-Some c =
    let text = c.args.text.now in
    take_rest text (c.in-Some.end + 1) ∙ behind text c.in-Some.end (sym c.in-Some.ensures)

pub returns-in-None : goal.returns-in-None
returns-in-None c = nothing_behind c.args.text.now (sym c.in-None.ensures)
