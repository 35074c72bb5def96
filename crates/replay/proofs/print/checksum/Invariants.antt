-- `checksum` meets its contract: the sum stays below the number that it is reduced by.
use Rattle.std.proofs.Common.{◌<◌}
use Rattle.replay.proofs.print.checksum.Given as goal

abbrev pub invariant-loop-b : goal.invariant-loop-b
invariant-loop-b l = l.sum < 65521
