-- `sums_to` meets its contract: the lengths passed are what was taken off n.
use Rattle.rows.proofs.Lengths.{Left}
use Rattle.rows.proofs.sums_to.Given as goal

abbrev pub invariant-loop-given : goal.invariant-loop-given
invariant-loop-given g l = Left (g.T.Length.lengths l.lengths) l.n l.given-index l.rest
