-- `read_start` meets its contract.
use mathlib.Core.List.{[], ◌∷◌}
use Rattle.sheets.specs.Sheet.{row_word}
use Rattle.reader.proofs.WordRead.{stripped, other_word}
use Rattle.reader.proofs.RowLineRead.{no-tab}
use Rattle.reader.proofs.lines.read_start.Goals as goal

pub returns-in_err-text-2 : goal.returns-in_err-text-2
returns-in_err-text-2 c =
    rw c.from_residual-in_err-text-2.ensures
    (no-tab c.args.text.now c.in_ok-text.text.now c.in_ok-id.text.now (stripped c.args.text.now row_word c.in_ok-text.text c.in_ok-text.ensures.cases) c.in_ok-id.ensures
    (other_word c.in_ok-id.text.now (9 ∷ []) c.in_err-text-2.ensures.cases))
