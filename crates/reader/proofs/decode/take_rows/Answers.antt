-- `take_rows` meets its contract: after i turns the first i rows are decoded.
use mathlib.Core.Path.{◌∙◌}
use Prim.Native.Nat.{◌+◌, ◌*◌}
use native.Mathlib.Omega.{arith}
use borrow.Rule.Slice.PartMut.{mid_len}
use Rattle.sheets.proofs.PutRows.{row_inside}
use Rattle.reader.proofs.RowsDecoded.{some-row, row_more}
use Rattle.reader.proofs.decode.take_rows.Goals as goal

pub take_row-rest-requires : goal.take_row-rest-requires
take_row-rest-requires c =
    let a = c.args in
    let h = a.head.now in
    let l = c.loop-i in
    let w = h.values + 1 in (
      some-row a.text.now h.rows h.values l.i (l.i * w) l.rest.now a.out.now l.out l.invariant c.loop-i-test.true c.requires.0,
      mid_len (l.i * w) (l.i * w + w) l.out (omega (arith, row_inside h.rows w a.out.now l.i c.loop-i-test.true c.requires.1, l.auto.out)) ∙ omega arith,
    )

pub loop-i-preserved : goal.loop-i-preserved
loop-i-preserved c =
    let a = c.args in
    let h = a.head.now in
    let l = c.loop-i in
    let w = h.values + 1 in
    let one = c.take_row-rest in
    row_more a.text.now h.rows h.values l.i (l.i * w) l.rest.now a.out.now l.out l.invariant c.loop-i-test.true (l.i * w + w) ((l.i + 1) * w) one.result.now one.new.out
    (omega arith) (omega arith) one.ensures
