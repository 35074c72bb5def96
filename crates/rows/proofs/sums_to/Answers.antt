-- `sums_to` meets its contract: the lengths passed are what was taken off n.
use native.Mathlib.Omega.{arith}
use Rattle.rows.proofs.Lengths.{said, left_less, left_next}
use Rattle.rows.proofs.sums_to.Goals as goal

pub returns-in_default : goal.returns-in_default
returns-in_default g c =
    let t = g.T.Length in
    let ls = c.args.lengths.now in
    let l = c.loop-given in
    let at = said t.value ls (t.lengths ls) l.given-index c.value.result c.given-item.result (g.met.T.Length.each ls) c.loop-given-test.true c.given-item.is c.value.ensures in
    left_less (t.lengths ls) l.given-index c.value.result at.0 at.1 c.args.n l.rest l.invariant (omega (arith, c.in_default.ensures))

pub loop-given-preserved : goal.loop-given-preserved
loop-given-preserved g c =
    let t = g.T.Length in
    let ls = c.args.lengths.now in
    let l = c.loop-given in
    let s = c.in-Some.ensures in
    let at = said t.value ls (t.lengths ls) l.given-index c.value.result c.given-item.result (g.met.T.Length.each ls) c.loop-given-test.true c.given-item.is c.value.ensures in
    rw s.1 (left_next (t.lengths ls) l.given-index c.value.result at.0 at.1 c.args.n l.rest l.invariant s.0)
