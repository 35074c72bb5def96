-- `split_bytes_with_participant_ids_iter` meets its contract: what `split_answer` refuses is refused, and otherwise the rows are written.
use mathlib.Core.Path.{◌≡◌, sym, ap, ◌∙◌}
use mathlib.Core.List.{◌++◌}
use Prim.Native.Nat.{◌-◌}
use native.Mathlib.Omega.{arith}
use lib.ListN.{length, take, drop}
use lib.Seq.{length-take-le}
use Rattle.std.proofs.lemmas.Result.{err_from_is_err_and}
use Rattle.sharing.specs.Split.{split_room, rows_of}
use Rattle.sharing.proofs.SplitAccepted.{Accepted}
use Rattle.sharing.proofs.SplitBytes.{done-accepted, splits_done, splits_refused}
use Rattle.sharing.proofs.split.split_bytes_with_participant_ids_iter.Goals as goal
use Rattle.sharing.proofs.split.split_bytes_with_participant_ids_iter.Goals.{In_ok-count}

-- what the tests before a done answer say, and of how many identifiers rows are written
allowed : (c : In_ok-count) → Accepted c.args.threshold c.args.limit (length c.args.secret.now) c.args.participant_ids.now (length c.args.coefficients.now) (length c.args.out.now) c.in_ok-count.count
allowed c =
    let s = c.args in
    done-accepted s.threshold s.limit s.secret.now s.participant_ids.now s.coefficients.now s.out.now c.in_ok-count.count c.in_ok-count.ensures

so_many : (c : In_ok-count) → length (take c.args.limit c.args.participant_ids.now) ≡ c.args.limit
so_many c = length-take-le c.args.limit c.args.participant_ids.now (omega (arith, allowed c))

pub returns-in_err-count : goal.returns-in_err-count
returns-in_err-count c =
    let s = c.args in
    let p = err_from_is_err_and c.from_residual.result c.from_residual.ensures.1 in
    rw (p.1, p.2) (splits_refused s.threshold s.limit s.secret.now s.participant_ids.now s.coefficients.now s.out.now c.in_err-count.field-0.0 c.in_err-count.ensures)

pub overflow_sub-polynomials : goal.overflow_sub-polynomials
overflow_sub-polynomials c = omega (arith, allowed (goal.at.overflow_sub-polynomials c).In_ok-count)

pub slice_bounds-write_rows-end : goal.slice_bounds-write_rows-end
slice_bounds-write_rows-end c = sym (so_many (goal.at.slice_bounds-write_rows-end c).In_ok-count)

pub invariant_of-polynomials : goal.invariant_of-polynomials
invariant_of-polynomials c =
    let a = allowed (goal.at.invariant_of-polynomials c).In_ok-count in
    record { some = omega (arith, a); enough = omega (arith, a) }

pub write_rows-requires : goal.write_rows-requires
write_rows-requires c =
    let d = (goal.at.write_rows-requires c).In_ok-count in
    rw (so_many d) (omega (arith, allowed d))

pub returns : goal.returns
returns c =
    let s = c.args in
    splits_done s.threshold s.limit s.secret.now s.participant_ids.now s.coefficients.now s.out.now c.in_ok-count.count c.in_ok-count.ensures _
    (c.write_rows.ensures
    ∙ ap (λ n. rows_of (s.threshold - 1) s.secret.now s.coefficients.now (take s.limit s.participant_ids.now) ++ drop (split_room n (length s.secret.now)) s.out.now)
    (so_many (goal.at.returns c).In_ok-count))
