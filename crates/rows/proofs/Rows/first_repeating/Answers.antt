-- `first_repeating` meets its contract: what was met is marked, and none of it was met before.
use mathlib.Core.Path.{◌∙◌}
use native.Mathlib.Omega.{arith}
use Rattle.rows.specs.Identifiers.{row_ids}
use Rattle.rows.proofs.Storage.{as_many}
use Rattle.rows.proofs.Marks.{seen_none}
use Rattle.rows.proofs.Repeats.{met_again, met_first, all_met}
use Rattle.rows.proofs.Rows.first_repeating.Goals as goal

pub loop-j-init : goal.loop-j-init
loop-j-init c = (seen_none, omega arith)

pub returns-then-seen-x : goal.returns-then-seen-x
returns-then-seen-x c =
    let l = c.loop-j in
    let r = c.args.self.now in
    (met_again (row_ids r) l.j (omega (arith, as_many r)) l.invariant.1 _ (c.from-x.ensures ∙ c.identifier.ensures) (omega arith) l.invariant.0 c.if-seen-x.true, omega arith)

pub loop-j-preserved : goal.loop-j-preserved
loop-j-preserved c =
    let l = c.loop-j in
    let r = c.args.self.now in
    met_first (row_ids r) l.j (omega (arith, as_many r)) l.invariant.1 _ (c.from-x.ensures ∙ c.identifier.ensures) (omega arith) l.invariant.0 c.if-seen-x.false

pub returns : goal.returns
returns c =
    let l = c.loop-j in
    let r = c.args.self.now in
    omega (arith, all_met (row_ids r) l.j (omega (arith, as_many r)) l.invariant.1)
