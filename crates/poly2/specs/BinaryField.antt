-- The field of 2^w elements that a polynomial m of degree w gives: the polynomials of lower degree, with the product modulo m.
-- Assumes nothing.
use Rattle.std.specs.Prelude.{ℕ, ◌-◌, ◌^◌}
use Rattle.std.specs.Int.Bits.{bit_xor}
use Rattle.algebra.specs.Field.{Ops, power}
use Rattle.poly2.specs.Poly2.{mul_mod}

-- The inverse is the power 2^w - 2, which is 0 for 0. Whether these are a field depends on m.
abbrev pub binary_field : ℕ → ℕ → Ops
binary_field w m = record { size = 2 ^ w; add = bit_xor; mul = mul_mod w m; inv = λ a. power (mul_mod w m) a (2 ^ w - 2) }
