-- `combine_bytes` meets its contract: what the checks refuse is refused, and accepted rows are combined.
use mathlib.Core.Path.{◌≡◌, sym, subst}
use Prim.Native.Nat.{◌+◌, ◌-◌}
use native.Mathlib.Omega.{arith}
use Rattle.std.proofs.lemmas.Result.{err_from_is_err_and}
use Rattle.answer.proofs.Meaning.{refusal}
use Rattle.rows.specs.Combining.{Ready}
use Rattle.rows.proofs.Lengths.{as_long}
use Rattle.row_set.proofs.RowSet.{accepted-rows}
use Rattle.sharing.proofs.CombineAccepted.{refuses, combines}
use Rattle.sharing.proofs.combine.combine_bytes.Goals as goal

pub returns-in_err-l : goal.returns-in_err-l
returns-in_err-l g c =
    let a = c.args in
    let p = err_from_is_err_and c.from_residual.result c.from_residual.ensures.1 in
    rw (p.1, p.2) (refuses a.rows.now (g.T.Length.lengths a.lengths.now) a.out.now (refusal c.in_err-l.field-0.0) c.in_err-l.ensures)

pub overflow_add-accepted : goal.overflow_add-accepted
overflow_add-accepted g c =
    let a = c.args in
    record { fits = omega (arith, (accepted-rows 2 a.rows.now (g.T.Length.lengths a.lengths.now) _ (sym c.in_ok-l.ensures)).most) }

pub invariant_of-accepted : goal.invariant_of-accepted
invariant_of-accepted g c =
    let a = c.args in
    let t = g.T.Length in
    let count = as_long t.value a.lengths.now _ (g.met.T.Length.each a.lengths.now) in
    let ready = subst (λ m. Ready (c.in_ok-l.l + 1) m a.rows.now) count (accepted-rows 2 a.rows.now (t.lengths a.lengths.now) _ (sym c.in_ok-l.ensures)).ready in
    record { some = omega arith; stored = ready.stored }

pub combine_accepted-requires : goal.combine_accepted-requires
combine_accepted-requires g c =
    let a = c.args in
    let t = g.T.Length in
    let count = as_long t.value a.lengths.now _ (g.met.T.Length.each a.lengths.now) in
    subst (λ m. Ready (c.in_ok-l.l + 1) m a.rows.now) count (accepted-rows 2 a.rows.now (t.lengths a.lengths.now) _ (sym c.in_ok-l.ensures)).ready

pub returns : goal.returns
returns g c =
    let a = c.args in
    let t = g.T.Length in
    let count = as_long t.value a.lengths.now _ (g.met.T.Length.each a.lengths.now) in
    let e : c.in_ok-l.l + 1 - 1 ≡ c.in_ok-l.l = omega arith in
    combines a.rows.now (t.lengths a.lengths.now) a.out.now count (sym c.in_ok-l.ensures) (rw e at c.combine_accepted.ensures)
