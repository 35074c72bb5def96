-- `read_sheet` meets its contract.
use mathlib.Core.Path.{◌≡◌, sym}
use Rattle.std.proofs.lemmas.Option.{MatchOption-at_some, MatchOption-at_none}
use Rattle.std.proofs.lemmas.Result.{err_from_is_err_and}
use Rattle.answer.specs.declared.Reason.TheVariants.{InvalidSheet}
use Rattle.reader.specs.Taking.{HeadRead, SomeRows}
use Rattle.reader.proofs.SheetRead.{judged_ok, judged_err, refuses-text, refuses-line, refuses-head, refuses-room, reads_sheet}
use Rattle.reader.proofs.read.read_sheet.Goals as goal
use Rattle.reader.proofs.read.read_sheet.Goals.{In_ok-numbers, In_ok-map_err}

head : (c : In_ok-numbers) → let n = c.in_ok-numbers.numbers in HeadRead c.args.text.now n.threshold n.rows n.values c.in_ok-numbers.lines.now
head c = MatchOption-at_some _ _ (c.in_ok-numbers.numbers, c.in_ok-numbers.lines) c.in_ok-numbers.ensures.ok_part c.read_head.ensures

rows : (c : In_ok-map_err) → SomeRows c.in_ok-numbers.lines.now c.in_ok-numbers.numbers.rows c.in_ok-numbers.numbers.values
rows c = judged_ok _ c.judge_lines.result c.judge_lines.ensures (sym c.in_ok-map_err.ensures.variant)

pub returns-in_err-numbers : goal.returns-in_err-numbers
returns-in_err-numbers c =
    let a = c.args in
    let p = err_from_is_err_and c.from_residual.result c.from_residual.ensures.1 in
    let v = rw c.in_err-numbers.ensures.ok_part at c.in_err-numbers.ensures.value in
    let reason : c.in_err-numbers.field-0.0 ≡ InvalidSheet 0 = cc in
    rw (p.1, p.2, reason) (refuses-text a.text.now a.head.now a.out.now 0 (MatchOption-at_none _ _ c.in_err-numbers.ensures.ok_part c.read_head.ensures))

pub returns-in_err-map_err : goal.returns-in_err-map_err
returns-in_err-map_err c =
    let a = c.args in
    let p = err_from_is_err_and c.from_residual-in_err-map_err.result c.from_residual-in_err-map_err.ensures.1 in
    let k = judged_err _ _ InvalidSheet c.judge_lines.result c.in_err-map_err.field-0.0 c.judge_lines.ensures c.in_err-map_err.ensures.cases in
    rw (p.1, p.2, k.2) (refuses-line a.text.now a.head.now a.out.now (head (goal.at.returns-in_err-map_err c).In_ok-numbers) k.0 k.1)

pub returns-then-head-lt-HEAD_BYTES : goal.returns-then-head-lt-HEAD_BYTES
returns-then-head-lt-HEAD_BYTES c =
    let a = c.args in
    let at = goal.at.returns-then-head-lt-HEAD_BYTES c in
    refuses-head a.text.now a.head.now a.out.now (head at.In_ok-numbers) (rows at.In_ok-map_err) c.if-head-lt-HEAD_BYTES.true

pub returns-then-out-count : goal.returns-then-out-count
returns-then-out-count c =
    let a = c.args in
    let at = goal.at.returns-then-out-count c in
    refuses-room a.text.now a.head.now a.out.now (head at.In_ok-numbers) (rows at.In_ok-map_err) c.if-out-count.true

pub returns : goal.returns
returns c =
    let a = c.args in
    let at = goal.at.returns c in
    reads_sheet a.text.now a.head.now a.out.now (head at.In_ok-numbers) (rows at.In_ok-map_err) c.if-head-lt-HEAD_BYTES.false c.if-out-count.false
    c.put_numbers.ensures c.take_rows.ensures
