-- `horner_step` meets its contract: after i turns the first i values have made the step.
use Prim.Native.Nat.{ℕ, ◌+◌, ◌<◌}
use mathlib.Core.Path.{◌≡◌, ap, ◌∙◌}
use mathlib.Core.List.{List, ◌++◌}
use native.Mathlib.Omega.{arith}
use lib.Bits.{bit_xor}
use lib.ListN.{length, drop, set, get_or}
use Rattle.gf256.specs.Field256.{mul256}
use Rattle.polynomial.specs.Steps.{each}
use Rattle.polynomial.proofs.Each.{each_next, each-one}
use Rattle.polynomial.proofs.horner_step.Invariants.{stepped}
use Rattle.polynomial.proofs.horner_step.Goals as goal

write : (vs₀ vs column : List ℕ) (x i product : ℕ) → i < length vs₀ → vs ≡ each i (stepped x vs₀ column) ++ drop i vs₀ → product ≡ mul256 (get_or vs i 0) x
    → set vs i (bit_xor product (get_or column i 0)) ≡ each (i + 1) (stepped x vs₀ column) ++ drop (i + 1) vs₀
write vs₀ vs column x i product h f e =
    let v : get_or vs i 0 ≡ get_or vs₀ i 0 = ap (λ l. get_or l i 0) f ∙ each_next vs₀ i (stepped x vs₀ column) h in
    ap (λ l. set l i (bit_xor product (get_or column i 0))) f
    ∙ each-one vs₀ i (stepped x vs₀ column) _ h (ap (λ b. bit_xor b (get_or column i 0)) (e ∙ ap (λ b. mul256 b x) v))

pub loop-i-preserved : goal.loop-i-preserved
loop-i-preserved c =
    let a = c.args in
    let l = c.loop-i in
    write a.vs.now l.vs a.column.now a.x l.i c.gf256_mul.result (omega arith) l.invariant c.gf256_mul.ensures
