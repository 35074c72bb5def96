-- `write_hex` meets its contract: after k turns the digits of the first k bytes are put.
use Rattle.std.proofs.Common.{◌*◌, take}
use Rattle.sheets.specs.Text.{hex}
use Rattle.sheets.specs.Writing.{Puts}
use Rattle.sheets.proofs.put.write_hex.Given as goal

abbrev pub invariant-loop-k : goal.invariant-loop-k
invariant-loop-k l = Puts (hex (take l.k l.values)) 0 l.initial.out (l.k * 2) l.out
