-- `times_differences` meets its contract: the places before k are multiplied, the others hold what they held.
use mathlib.Core.Bool.{cond}
use lib.Bits.{bit_xor}
use lib.Dec.{eqb}
use lib.ListN.{get_or}
use Rattle.gf256.specs.Field256.{mul256}
use Rattle.strides.proofs.InPlace.{InPlace}
use Rattle.rows.proofs.times_differences.Given as goal

abbrev pub invariant-loop-k : goal.invariant-loop-k
invariant-loop-k l = InPlace (λ k d. cond (eqb l.a (get_or l.xs k 0)) d (mul256 d (bit_xor (get_or l.xs k 0) l.a))) l.initial.ds l.k l.ds
