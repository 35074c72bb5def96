-- `readable_lengths` meets its contract: no byte is left behind the fours.
use mathlib.Core.Bool.{false}
use Prim.Native.Nat.{◌/◌}
use native.Mathlib.Omega.{arith}
use lib.ListN.{length}
use borrow.Author.Tests.{le-ltb}
use Rattle.row_set.specs.Limits.{max_rows}
use Rattle.row_set.proofs.RowSet.{fours-test}
use Rattle.row_set.proofs.readable_lengths.Goals as goal

pub returns : goal.returns
returns c =
    let bytes = c.args.bytes.now in
    let e = c.byte_lengths-lengths.ensures in
    (fours-test bytes c.if-odd-ne0.false false (le-ltb max_rows (length bytes / 4) (omega (arith, e.count))), e.lengths)
