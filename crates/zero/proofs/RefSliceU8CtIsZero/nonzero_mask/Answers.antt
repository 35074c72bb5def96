-- The bytes passed, joined, answer with the rest as all bytes do.
use Rattle.zero.proofs.Bytes.{join_next}
use Rattle.zero.proofs.RefSliceU8CtIsZero.nonzero_mask.Goals as goal

pub loop-b-preserved : goal.loop-b-preserved
loop-b-preserved c = join_next _ c.loop-b.b-index c.loop-b.t c.loop-b-test.true c.loop-b.invariant
