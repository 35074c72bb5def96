-- `denominators` meets its contract: the identifiers passed are multiplied in.
use native.Mathlib.Omega.{arith}
use Rattle.rows.proofs.Coefficients.{denominators_none, denominators_next}
use Rattle.rows.proofs.denominators.Goals as goal

pub loop-a-init : goal.loop-a-init
loop-a-init c = denominators_none c.args.ds.now c.args.xs.now c.requires (λ k. (c.type_inv.ds k).fits)

pub loop-a-preserved : goal.loop-a-preserved
loop-a-preserved c =
    let l = c.loop-a in
    denominators_next c.args.xs.now c.args.ds.now l.ds _ l.a-index (omega arith) l.invariant c.times_differences.ensures
