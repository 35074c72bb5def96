-- `gather` meets its contract: the places before i hold what is gathered, the others what they held.
use mathlib.Core.Path.{refl}
use Prim.Native.Nat.{◌+◌, ◌*◌}
use native.Mathlib.Omega.{arith}
use lib.ListN.{length}
use Rattle.strides.specs.Strides.{strided}
use Rattle.strides.proofs.Strides.{length-strided, strided_at}
use Rattle.strides.proofs.InPlace.{all}
use Rattle.strides.proofs.gather.Goals as goal

pub returns : goal.returns
returns c =
    let l = c.loop-i in
    let a = c.args in
    let m = length a.out.now in
    all l.i l.invariant (omega arith) (strided a.stride a.place m a.from.now) (length-strided a.stride a.place m a.from.now)
    (λ k h. strided_at a.stride a.place m a.from.now k (k * a.stride + a.place) h refl)
