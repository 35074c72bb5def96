-- `denominators` meets its contract: the identifiers passed are multiplied in.
use mathlib.Core.Path.{◌≡◌}
use mathlib.Core.List.{zip_with}
use lib.ListN.{take}
use Rattle.gf256.specs.Field256.{mul256, gf256}
use Rattle.shamir.specs.Polynomial.{others}
use Rattle.rows.proofs.denominators.Given as goal

abbrev pub invariant-loop-a : goal.invariant-loop-a
invariant-loop-a l = l.ds ≡ zip_with (λ d x. mul256 d (others gf256 x x (take l.a-index l.xs))) l.initial.ds l.xs
