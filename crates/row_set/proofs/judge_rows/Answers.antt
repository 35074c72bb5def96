-- `judge_rows` meets its contract: where the lengths pass their tests, it is that of rows of one length.
use mathlib.Core.Path.{sym, ◌∙◌}
use Prim.Native.Nat.{suc}
use native.Mathlib.Omega.{arith}
use Rattle.rows.proofs.Lengths.{as_long, said}
use Rattle.row_set.proofs.RowSet.{fills, of_equal}
use Rattle.row_set.proofs.judge_rows.Goals as goal

pub invariant_of-judge_equal_rows : goal.invariant_of-judge_equal_rows
invariant_of-judge_equal_rows g c =
    let a = c.args in
    let t = g.T.Length in
    let ns = t.lengths a.lengths.now in
    let count = as_long t.value a.lengths.now ns (g.met.T.Length.each a.lengths.now) in
    record {
      some = omega arith;
      stored = omega (arith, fills ns c.value-w.result _ (sym c.all_are.ensures ∙ c.if-not-all_are.false) count _ (sym c.sums_to.ensures ∙ c.if-not-sums_to.false));
    }

pub returns : goal.returns
returns g c =
    let a = c.args in
    let t = g.T.Length in
    let ns = t.lengths a.lengths.now in
    let each = g.met.T.Length.each a.lengths.now in
    let count = as_long t.value a.lengths.now ns each in
    let w = (said t.value a.lengths.now ns 0 c.value-w.result c.index-lengths-0.result each (omega arith) c.index-lengths-0.is c.value-w.ensures).1 in
    of_equal (suc a.too_few) a.rows.now ns c.value-w.result _ (sym c.sums_to.ensures ∙ c.if-not-sums_to.false) (omega arith) c.if-w-lt2.false
    (sym c.all_are.ensures ∙ c.if-not-all_are.false) count (sym w) c.judge_equal_rows.ensures
