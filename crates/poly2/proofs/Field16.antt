-- The field of 16 elements by x^4 + x + 1: the powers of 2 hold each element but 0.
-- Assumes nothing.
use mathlib.Core.Path.{refl}
use lib.Dec.{lit<}
use Rattle.algebra.specs.Field.{Laws, power}
use Rattle.poly2.specs.Poly2.{mul_mod, rem, reduce, clmul}
use Rattle.poly2.specs.BinaryField.{binary_field}
use Rattle.poly2.proofs.BinaryField.{binary_laws}

pub laws16 : Laws (binary_field 4 0x13)
unfolding power mul_mod rem reduce clmul
laws16 = binary_laws 4 0x13 refl (lit< tt) 2 14 refl (lit< tt) refl tt
