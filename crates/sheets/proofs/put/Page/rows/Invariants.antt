-- `rows` meets its contract: after i turns the lines of the first i rows are put.
use mathlib.Core.Path.{◌≡◌}
use lib.ListN.{length}
use Rattle.std.specs.Slice.Iter.{chunks_exact_rest, chunks_exact_size}
use Rattle.sheets.specs.Writing.{Puts}
use Rattle.sheets.proofs.PutRows.{lines_to}
use Rattle.sheets.proofs.RowChunks.{LeftOf}
use Rattle.sheets.proofs.put.Page.rows.Given as goal

abbrev pub invariant-loop-row : goal.invariant-loop-row
invariant-loop-row l =
    (l.self.out.ghost_name ≡ l.initial.self.out.ghost_name)
    × (length l.self.out.now ≡ length l.initial.self.out.now)
    × (chunks_exact_size l.row-iterator ≡ l.rows.width)
    × LeftOf l.rows.count l.rows.width l.rows.bytes.now (length l.yielded) (chunks_exact_rest l.row-iterator)
    × Puts (lines_to (length l.yielded) l.rows.width l.rows.bytes.now) l.initial.self.end l.initial.self.out.now l.self.end l.self.out.now
