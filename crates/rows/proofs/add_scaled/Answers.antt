-- `add_scaled` meets its contract: the places before k have their product added, the others hold what they held.
use mathlib.Core.Path.{refl}
use native.Mathlib.Omega.{arith}
use Rattle.strides.proofs.InPlace.{all-zip}
use Rattle.rows.proofs.add_scaled.Goals as goal

pub returns : goal.returns
returns c =
    let l = c.loop-k in
    all-zip l.k l.invariant (omega arith) _ c.args.row.now c.requires (λ k d. refl)
