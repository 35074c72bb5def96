-- The mask that the zero tests of document 01, module 1, make, and the fact that they rest on.
-- Assumes nothing.
use Rattle.std.specs.Prelude.{◌≡◌, zero, suc, ◌^◌, ℤ, pos, negsuc}
use Rattle.std.specs.Int.Bits.{bit_or}
use Rattle.std.specs.Int.Signed.{shr_z}
use Rattle.std.specs.Int.{Width}
use mir.Val.{hbits, SFits, to_z, of_z}
use Rattle.signs.specs.Wrap.{wrapped_neg}

-- -1, all bits set, where the number is not 0, and 0 where it is
abbrev pub nonzero_mask : ℤ → ℤ
nonzero_mask (pos zero) = pos 0
nonzero_mask (pos (suc n)) = negsuc 0
nonzero_mask (negsuc n) = negsuc 0

-- 01, module 1, the fact of the zero tests, once for every width: the bits of a number, or-ed with those of its wrapped negative and
-- shifted until only the sign is left, are the mask. It holds for every number of the width, the lowest too.
abbrev pub SignOfJoin : Type 0
SignOfJoin = (w : Width) (z : ℤ) → SFits w z → shr_z (to_z w (bit_or (of_z w z) (wrapped_neg w (of_z w z)))) (2 ^ hbits w) ≡ nonzero_mask z
