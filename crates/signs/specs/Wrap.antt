-- Zero minus a number, wrapped to a width.
-- Assumes nothing.
use Rattle.std.specs.Prelude.{ℕ, ◌-◌, ◌%◌, ◌^◌, ℤ}
use Rattle.std.specs.Int.{Width}
use mir.Val.{bits, to_z, of_z}

-- on the bits: what is left of the difference modulo 2 to the width
abbrev pub wrapped_neg : Width → ℕ → ℕ
wrapped_neg w n = (2 ^ bits w - n) % 2 ^ bits w

-- on the signed number that has those bits: -z, and z itself where z is the lowest number, whose negative the width does not hold
abbrev pub int_wrapped_neg : Width → ℤ → ℤ
int_wrapped_neg w z = to_z w (wrapped_neg w (of_z w z))
