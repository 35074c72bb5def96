-- `judge_equal_rows` meets its contract: each return follows from the searches and tests before it.
use mathlib.Core.Path.{sym}
use native.Mathlib.Omega.{arith}
use Rattle.row_set.proofs.RowSet.{zero-found, repeat_found, too_long, all_well}
use Rattle.row_set.proofs.judge_equal_rows.Goals as goal

pub returns-in-Some : goal.returns-in-Some
returns-in-Some c =
    let r = c.args.rows.now in
    zero-found r.bytes.now r.width r.count _ c.in-Some.ensures.0 c.in-Some.ensures.1

pub returns-in-Some-repeat : goal.returns-in-Some-repeat
returns-in-Some-repeat c =
    let r = c.args.rows.now in
    let j = c.in-Some-repeat in
    repeat_found r.bytes.now r.width r.count (sym c.in_default.ensures) (omega arith) _ _ c.first_repeated-i.ensures j.ensures.0 j.ensures.1

pub returns-then-l-gt-MAX_SECRET : goal.returns-then-l-gt-MAX_SECRET
returns-then-l-gt-MAX_SECRET c =
    let r = c.args.rows.now in
    too_long r.bytes.now r.width r.count (sym c.in_default.ensures) (omega arith) (sym c.in_default-repeat.ensures) (omega arith) c.if-l-gt-MAX_SECRET.true

pub returns : goal.returns
returns c =
    let r = c.args.rows.now in
    all_well r.bytes.now r.width r.count (sym c.in_default.ensures) (omega arith) (sym c.in_default-repeat.ensures) (omega arith) c.if-l-gt-MAX_SECRET.false
