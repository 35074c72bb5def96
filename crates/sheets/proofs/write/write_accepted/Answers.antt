-- `write_accepted` meets its contract: each return follows from the tests before it.
use mathlib.Core.Path.{ap}
use Prim.Native.Nat.{◌-◌}
use native.Mathlib.Omega.{arith}
use lib.ListN.{length}
use Rattle.std.proofs.Common.{rules}
use Rattle.sheets.proofs.Writing.{puts-length}
use Rattle.sheets.proofs.PutRows.{rows_length_is}
use Rattle.sheets.proofs.SheetRules.{written}
use Rattle.sheets.proofs.write.write_accepted.Goals as goal

pub head-requires : goal.head-requires
head-requires c =
    let a = c.args in
    let r = a.rows.now in
    let page = c.new-page.ensures in
    omega (arith, page.at_front, ap length page.held, c.sheet_length-n.ensures, c.if-out-n.false, rows_length_is a.threshold r.count r.width r.bytes.now r.some)

pub rows-requires : goal.rows-requires
rows-requires c =
    let a = c.args in
    let r = a.rows.now in
    let page = c.new-page.ensures in
    let p = c.head.ensures.puts in
    let all = rows_length_is a.threshold r.count r.width r.bytes.now r.some in
    let held = ap length page.held in
    omega (
      arith,
      page.at_front,
      held,
      c.sheet_length-n.ensures,
      c.if-out-n.false,
      all,
      p.ends,
      puts-length (omega (arith, page.at_front, held, c.sheet_length-n.ensures, c.if-out-n.false, all)) p,
    )

pub returns : goal.returns
returns c =
    let a = c.args in
    let r = a.rows.now in
    let page = c.new-page.ensures in
    written a.threshold r.count (r.width - 1) r.bytes.now a.out.now c.if-threshold-lt2.false c.if-threshold-gt-MAX_SHARES.false c.sheet_length-n.ensures c.if-out-n.false
    page.held page.at_front c.head.ensures.puts c.rows.ensures.puts (omega (arith, r.some)) (search rules)
