-- `xtime` meets its contract, as computed for every byte.
use Prim.Native.Nat.{◌*◌, ◌/◌, ◌%◌}
use native.Mathlib.Omega.{arith}
use lib.Bits.{bit_xor}
use Rattle.poly2.specs.Poly2.{reduce, clmul}
use Rattle.algebra.proofs.Below.{below-≡}
use Rattle.gf256.specs.Field256.{modulus}
use Rattle.gf256.proofs.xtime.Goals as goal

pub returns : goal.returns
unfolding reduce clmul
returns c =
    below-≡ (λ a. bit_xor (a * 2 % 256) (a / 128 * 0x1b)) (λ a. reduce 8 modulus (a * 2)) 256 tt c.args.a (omega arith)
