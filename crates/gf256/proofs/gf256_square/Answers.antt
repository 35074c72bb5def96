-- `gf256_square` meets its contract, as computed for every byte.
use Prim.Native.Nat.{ℕ, ◌*◌, ◌/◌, ◌%◌}
use native.Mathlib.Omega.{arith}
use lib.Bits.{bit_and}
use Rattle.poly2.specs.Poly2.{mul_mod, rem, reduce, clmul}
use Rattle.poly2.proofs.Sum.{◌⊕◌}
use Rattle.algebra.proofs.Below.{below-≡}
use Rattle.gf256.specs.Field256.{mul256}
use Rattle.gf256.proofs.gf256_square.Goals as goal

-- what the code computes
abbrev squared : ℕ → ℕ
squared a =
    bit_and a 1 ⊕ bit_and a 2 * 2 % 256 ⊕ bit_and a 4 * 4 % 256 ⊕ bit_and a 8 * 8 % 256
    ⊕ bit_and (a / 16) 1 * 0x1b ⊕ bit_and (a / 32) 1 * 0x6c ⊕ bit_and (a / 64) 1 * 0xab ⊕ a / 128 * 0x9a

pub returns : goal.returns
unfolding mul256 mul_mod rem reduce clmul
returns c = below-≡ squared (λ a. mul256 a a) 256 tt c.args.a (omega arith)
