-- `gather` meets its contract: the places before i hold what is gathered, the others what they held.
use Prim.Native.Nat.{◌+◌, ◌*◌}
use lib.ListN.{get_or}
use Rattle.strides.proofs.InPlace.{InPlace}
use Rattle.strides.proofs.gather.Given as goal

abbrev pub invariant-loop-i : goal.invariant-loop-i
invariant-loop-i l = InPlace (λ k x. get_or l.from (k * l.stride + l.place) 0) l.initial.out l.i l.out
