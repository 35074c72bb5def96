-- `divide_into` meets its contract: the places before that of d are divided into p, the others hold what they held.
use Rattle.gf256.specs.Field256.{mul256, inv256}
use Rattle.strides.proofs.InPlace.{InPlace}
use Rattle.rows.proofs.divide_into.Given as goal

abbrev pub invariant-loop-d : goal.invariant-loop-d
invariant-loop-d l = InPlace (λ k d. mul256 (inv256 d) l.p) l.initial.ds l.d-index l.ds
