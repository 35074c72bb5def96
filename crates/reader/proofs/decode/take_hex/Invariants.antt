-- `take_hex` meets its contract: after k turns the first k bytes are decoded.
use Rattle.std.proofs.Common.{◌≡◌, ◌*◌, ◌++◌, take, drop}
use Rattle.sheets.specs.ReadAs.{unhex}
use Rattle.reader.proofs.decode.take_hex.Given as goal

abbrev pub invariant-loop-k : goal.invariant-loop-k
invariant-loop-k l = l.out ≡ unhex (take (l.k * 2) l.digits) ++ drop l.k l.initial.out
