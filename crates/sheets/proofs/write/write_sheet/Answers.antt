-- `write_sheet` meets its contract: what the checks refuse is refused, and accepted rows are written.
use mathlib.Core.Path.{sym}
use native.Mathlib.Omega.{arith}
use Rattle.std.proofs.lemmas.Result.{err_from_is_err_and}
use Rattle.answer.proofs.Meaning.{refusal}
use Rattle.sheets.proofs.SheetRules.{refuses, accepted, writes}
use Rattle.sheets.proofs.write.write_sheet.Goals as goal

pub returns-in_err-l : goal.returns-in_err-l
returns-in_err-l c =
    let a = c.args in
    let p = err_from_is_err_and c.from_residual.result c.from_residual.ensures.1 in
    rw (p.1, p.2) (refuses a.threshold a.rows.now a.lengths.now a.out.now (refusal c.in_err-l.field-0.0) c.in_err-l.ensures)

pub overflow_add-accepted : goal.overflow_add-accepted
overflow_add-accepted c =
    let a = c.args in
    let k = accepted a.threshold a.rows.now a.lengths.now a.out.now (sym c.in_ok-l.ensures) in
    omega (arith, k.1)

pub invariant_of-accepted : goal.invariant_of-accepted
invariant_of-accepted c =
    let a = c.args in
    let k = accepted a.threshold a.rows.now a.lengths.now a.out.now (sym c.in_ok-l.ensures) in
    record { some = omega arith; stored = omega (arith, k.2) }

pub write_accepted-requires : goal.write_accepted-requires
write_accepted-requires c =
    let a = c.args in
    let k = accepted a.threshold a.rows.now a.lengths.now a.out.now (sym c.in_ok-l.ensures) in
    (k.0, omega (arith, k.1))

pub returns : goal.returns
returns c =
    let a = c.args in
    writes a.threshold a.rows.now a.lengths.now a.out.now (sym c.in_ok-l.ensures) (omega arith) c.write_accepted.ensures
