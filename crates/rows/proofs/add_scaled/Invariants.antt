-- `add_scaled` meets its contract: the places before k have their product added, the others hold what they held.
use lib.Bits.{bit_xor}
use lib.ListN.{get_or}
use Rattle.gf256.specs.Field256.{mul256}
use Rattle.strides.proofs.InPlace.{InPlace}
use Rattle.rows.proofs.add_scaled.Given as goal

abbrev pub invariant-loop-k : goal.invariant-loop-k
invariant-loop-k l = InPlace (λ k o. bit_xor o (mul256 (get_or l.row k 0) l.c)) l.initial.out l.k l.out
