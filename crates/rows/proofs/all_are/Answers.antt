-- `all_are` meets its contract: what `all` tells of the lengths.
use mathlib.Core.Path.{◌≡◌, ap, sym, ◌∙◌}
use Rattle.std.proofs.Common.{rules}
use Rattle.std.proofs.lemmas.Iterator.{cases_from_all, YieldsList-from_slice}
use Rattle.rows.specs.Search.{all_are}
use Rattle.rows.proofs.Lengths.{are_told}
use Rattle.rows.proofs.all_are.Goals as goal

pub returns : goal.returns
returns g c =
    let v = g.T.Length.value in
    let ls = c.args.lengths.now in
    let w = c.args.w in
    are_told v w ls c.all.result
    (cases_from_all _ _ _ (λ x. v x ≡ w) (λ x. v x ≡ w → ⊥) c.all.ensures.ran (YieldsList-from_slice ls cc) (λ x q k. search rules) (λ x q k. search rules))
    ∙ sym (ap (all_are w) (g.met.T.Length.each ls))
