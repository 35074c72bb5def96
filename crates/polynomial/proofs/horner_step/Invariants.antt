-- `horner_step` meets its contract: after i turns the first i values have made the step.
use Prim.Native.Nat.{ℕ}
use mathlib.Core.Path.{◌≡◌}
use mathlib.Core.List.{List, ◌++◌}
use lib.Bits.{bit_xor}
use lib.ListN.{drop, get_or}
use Rattle.gf256.specs.Field256.{mul256}
use Rattle.polynomial.specs.Steps.{each}
use Rattle.polynomial.proofs.horner_step.Given as goal

-- the value at place i after its step
abbrev pub stepped : ℕ → List ℕ → List ℕ → ℕ → ℕ
stepped x vs column i = bit_xor (mul256 (get_or vs i 0) x) (get_or column i 0)

abbrev pub invariant-loop-i : goal.invariant-loop-i
invariant-loop-i l = l.vs ≡ each l.i (stepped l.x l.initial.vs l.column) ++ drop l.i l.initial.vs
