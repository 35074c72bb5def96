-- `take_rows` meets its contract: after i turns the first i rows are decoded.
use Rattle.std.proofs.Common.{◌*◌}
use Rattle.reader.proofs.RowsDecoded.{TakenTo}
use Rattle.reader.proofs.decode.take_rows.Given as goal

abbrev pub invariant-loop-i : goal.invariant-loop-i
invariant-loop-i l = TakenTo l.text l.head.rows l.head.values l.i l.rest (l.i * l.w) l.initial.out l.out
