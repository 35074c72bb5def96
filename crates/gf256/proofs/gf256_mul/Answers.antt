-- `gf256_mul` meets its contract: what is gathered in r, with the product of x and the bits of b that are still to come, is the
-- product of a and b.
use Prim.Native.Nat.{ℕ, ◌*◌, ◌<◌, ◌/◌, ◌^◌}
use mathlib.Core.Path.{◌≡◌, refl, ◌∙◌}
use native.Mathlib.Nat.{div-one, div-eq_of_lt, div-div-eq-div-mul, pow-suc}
use native.Mathlib.Numerals.{add-one}
use native.Mathlib.Omega.{arith}
use lib.Bits.{bit_and, bit_xor, and_mask}
use Rattle.algebra.proofs.Ring.{zero-mul}
use Rattle.poly2.specs.Poly2.{reduce}
use Rattle.poly2.proofs.Sum.{xor_assoc}
use Rattle.poly2.proofs.Remainder.{mul_mod_last}
use Rattle.gf256.specs.Field256.{modulus, mul256}
use Rattle.gf256.proofs.Field256.{ring256}
use Rattle.gf256.proofs.gf256_mul.Goals as goal

-- the lowest bit of q gathered, and x doubled for the others
round : (q x r : ℕ) → x < 256 → bit_xor (bit_xor r (bit_and q 1 * x)) (mul256 (q / 2) (reduce 8 modulus (x * 2))) ≡ bit_xor r (mul256 q x)
unfolding mul256
round q x r h = rw (and_mask q 1, xor_assoc, mul_mod_last 8 modulus refl q x h)

pub loop-i-init : goal.loop-i-init
loop-i-init c = rw div-one (ring256.mul_comm c.args.b c.args.a)

pub loop-i-preserved : goal.loop-i-preserved
loop-i-preserved c =
    let l = c.loop-i in
    rw (c.xtime-x.ensures, add-one, pow-suc, ← div-div-eq-div-mul) (round (c.args.b / 2 ^ l.i) l.x l.r (omega arith) ∙ l.invariant)

pub returns : goal.returns
returns c =
    let l = c.loop-i in
    let e : l.i ≡ 8 = omega arith in
    rw (e, div-eq_of_lt c.ranges.b.fits, zero-mul ring256 l.x, ring256.add-zero l.r) at l.invariant
