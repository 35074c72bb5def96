-- `sheet_length` meets its contract: after i turns the first line and those of the first i rows are counted.
use mathlib.Core.Path.{◌≡◌}
use Prim.Native.Nat.{◌+◌, ◌*◌, ◌≤◌}
use lib.ListN.{length}
use Rattle.std.specs.Slice.Iter.{chunks_exact_rest, chunks_exact_size}
use Rattle.row_set.specs.Limits.{max_secret}
use Rattle.sheets.specs.Sheet.{head_line}
use Rattle.sheets.proofs.PutRows.{lines_to}
use Rattle.sheets.proofs.RowChunks.{LeftOf}
use Rattle.sheets.proofs.length.sheet_length.Given as goal

-- the last bound keeps the sum from growing too large
abbrev pub invariant-loop-row : goal.invariant-loop-row
invariant-loop-row l =
    (chunks_exact_size l.row-iterator ≡ l.w)
    × LeftOf l.head.rows l.w l.rows (length l.yielded) (chunks_exact_rest l.row-iterator)
    × (l.n ≡ length (head_line l.head.threshold l.head.rows l.head.values) + length (lines_to (length l.yielded) l.w l.rows))
    × (l.n ≤ 23 + length l.yielded * (2 * max_secret + 11))
