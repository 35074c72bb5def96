-- `read_head` meets its contract: each piece that is missing shows that the text begins with no first line.
use mathlib.Core.Path.{◌≡◌}
use mathlib.Core.List.{◌++◌}
use Rattle.std.proofs.Common.{rules}
use Rattle.sheets.specs.Sheet.{seal_word}
use Rattle.reader.proofs.WordRead.{stripped}
use Rattle.reader.proofs.HeadLineRead.{no_word, no-threshold, no_rows, no-values, no_end, head_passes}
use Rattle.reader.proofs.lines.read_head.Goals as goal
use Rattle.reader.proofs.lines.read_head.Goals.{In_ok-text}

word : (c : In_ok-text) → c.args.text.now ≡ seal_word ++ c.in_ok-text.text.now
word c = stripped c.args.text.now seal_word c.in_ok-text.text c.in_ok-text.ensures.cases

pub returns-in_err-text : goal.returns-in_err-text
returns-in_err-text c = search (rules, no_word c.args.text.now)

pub returns-in_err-threshold : goal.returns-in_err-threshold
returns-in_err-threshold c = search (rules, no-threshold c.args.text.now)

pub returns-in_err-rows : goal.returns-in_err-rows
returns-in_err-rows c =
    rw c.from_residual-in_err-rows.ensures
    (no_rows c.args.text.now (word (goal.at.returns-in_err-rows c).In_ok-text) c.in_ok-threshold.ensures c.in_err-rows.ensures)

pub returns-in_err-values : goal.returns-in_err-values
returns-in_err-values c =
    rw c.from_residual-in_err-values.ensures
    (no-values c.args.text.now (word (goal.at.returns-in_err-values c).In_ok-text) c.in_ok-threshold.ensures c.in_ok-rows.ensures c.in_err-values.ensures)

pub returns-in_err-text-2 : goal.returns-in_err-text-2
returns-in_err-text-2 c =
    rw c.from_residual-in_err-text-2.ensures
    (no_end c.args.text.now (word (goal.at.returns-in_err-text-2 c).In_ok-text) c.in_ok-threshold.ensures c.in_ok-rows.ensures c.in_ok-values.ensures
    c.in_err-text-2.ensures)

pub returns : goal.returns
returns c =
    head_passes c.args.text.now (word (goal.at.returns c).In_ok-text) c.in_ok-threshold.ensures c.in_ok-rows.ensures c.in_ok-values.ensures
    c.in_ok-text-2.text.now c.in_ok-text-2.ensures
