-- `gf256_mul` meets its contract: what is gathered in r, with the product of x and the bits of b that are still to come, is the
-- product of a and b.
use Prim.Native.Nat.{◌/◌, ◌^◌}
use mathlib.Core.Path.{◌≡◌}
use lib.Bits.{bit_xor}
use Rattle.gf256.specs.Field256.{mul256}
use Rattle.gf256.proofs.gf256_mul.Given as goal

abbrev pub invariant-loop-i : goal.invariant-loop-i
invariant-loop-i l = bit_xor l.r (mul256 (l.b / 2 ^ l.i) l.x) ≡ mul256 l.a l.b
