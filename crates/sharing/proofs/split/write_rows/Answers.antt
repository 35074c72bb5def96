-- `write_rows` meets its contract: after j turns the first j rows stand at the front of the output, and behind them what stood there.
use Prim.Native.Nat.{◌+◌}
use mathlib.Core.Path.{refl}
use native.Mathlib.Omega.{arith}
use native.Mathlib.Nat.{mul-le-mul_right, suc-mul}
use lib.ListN.{length}
use Rattle.sharing.proofs.SplitRows.{row_fills}
use Rattle.sharing.proofs.split.write_rows.Goals as goal

pub loop-j-preserved : goal.loop-j-preserved
loop-j-preserved c =
    let l = c.loop-j in
    let p = c.args.polynomials.now in
    let w = length p.secret.now + 1 in
    row_fills p.k p.secret.now p.coefficients.now l.j _ c.args.ids.now c.args.out.now l.out c.evaluate_row.new.vs
    (omega arith) refl (omega (arith, mul-le-mul_right {n = length c.args.ids.now} w c.loop-j-test.true, suc-mul l.j w)) l.invariant c.evaluate_row.ensures
