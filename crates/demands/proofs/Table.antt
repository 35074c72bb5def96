-- The values A to L hold by computation.
-- Assumes nothing.
use mathlib.Core.Path.{refl}
use mathlib.Core.List.{zip_with}
use Rattle.poly2.specs.Poly2.{mul_mod, rem, reduce, clmul}
use Rattle.algebra.specs.Field.{power}
use Rattle.gf256.specs.Field256.{mul256, inv256}
use Rattle.row_set.specs.RowSet.{judged}
use Rattle.sharing.specs.Split.{split_outcome, split_bytes}
use Rattle.sharing.specs.Combine.{combine_outcome, combine_bytes}
use Rattle.demands.specs.Table.{TableHolds}

pub table_holds : TableHolds
unfolding split_outcome split_bytes judged combine_outcome combine_bytes zip_with mul256 inv256 power mul_mod rem reduce clmul
table_holds = refl
