-- `add_rows` meets its contract: what is left to add to the sums so far makes what is to be made.
use mathlib.Core.Path.{◌≡◌}
use Prim.Native.Nat.{◌*◌}
use lib.ListN.{length}
use Rattle.std.specs.Slice.Iter.{chunks_exact_rest, chunks_exact_size, iter_rest}
use Rattle.rows.specs.Combining.{plus_rows}
use Rattle.rows.proofs.Rows.add_rows.Given as goal

abbrev pub invariant-loop-row : goal.invariant-loop-row
invariant-loop-row l =
    let w = l.self.width in
    let rows = chunks_exact_rest l.row-iterator.a in
    let cs = iter_rest l.row-iterator.b in
    (chunks_exact_size l.row-iterator.a ≡ w)
    × (length rows ≡ length cs * w)
    × (plus_rows w cs rows l.out ≡ plus_rows w l.coefficients l.self.bytes.now l.initial.out)
