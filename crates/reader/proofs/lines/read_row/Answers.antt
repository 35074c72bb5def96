-- `read_row` meets its contract: each piece that is missing shows that the text begins with no row's line.
use mathlib.Core.Path.{sym, ◌∙◌}
use Rattle.std.proofs.Common.{rules}
use Rattle.reader.proofs.DigitsRead.{no-yes}
use Rattle.reader.proofs.RowLineRead.{no-start, no_room, no-values, no_end, row_passes}
use Rattle.reader.proofs.lines.read_row.Goals as goal

pub returns-in_err-id : goal.returns-in_err-id
returns-in_err-id c = search (rules, no-start c.args.text.now c.args.head.now.values)

pub returns-in_err-digits : goal.returns-in_err-digits
returns-in_err-digits c = search (rules, no_room c.args.text.now c.args.head.now.values)

pub returns-then-not-all_hex : goal.returns-then-not-all_hex
returns-then-not-all_hex c =
    no-values c.args.text.now c.args.head.now.values c.in_ok-id.ensures
    (λ h. no-yes (sym c.if-not-all_hex.true ∙ c.all_hex.ensures.1 (rw c.in_ok-digits.ensures.cases.1 h)))

pub returns-in_err-text : goal.returns-in_err-text
returns-in_err-text c = search (rules, no_end c.args.text.now c.args.head.now.values)

pub returns : goal.returns
returns c = search (rules, row_passes c.args.text.now c.args.head.now.values)
