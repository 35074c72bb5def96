-- The standard's examples hold by computation.
-- Assumes nothing.
use mathlib.Core.Path.{refl}
use Rattle.poly2.specs.Poly2.{mul_mod, rem, reduce, clmul}
use Rattle.gf256.specs.Field256.{mul256}
use Rattle.gf256.specs.Values.{Values}

pub values : Values
unfolding mul256 mul_mod rem reduce clmul
values = record { standard = refl; inverses = refl }
