-- `evaluate_row` meets its contract: after the blocks before b the first b values are those of the row.
use mathlib.Core.Path.{◌≡◌}
use mathlib.Core.List.{◌++◌}
use Prim.Native.Nat.{◌≤◌}
use lib.ListN.{length, take, drop}
use Rattle.std.specs.Slice.Iter.{chunks_rest, chunks_size}
use Rattle.shamir.specs.Rows.{row}
use Rattle.gf256.specs.Field256.{gf256}
use Rattle.polynomial.proofs.Polynomials.evaluate_row.Given as goal

abbrev pub invariant-loop-block : goal.invariant-loop-block
invariant-loop-block l =
    (chunks_size l.block-iterator ≡ 64)
    × (chunks_rest l.block-iterator ≡ drop l.b l.self.secret.now)
    × (l.b ≤ length l.self.secret.now)
    × (l.vs ≡ row gf256 l.self.k l.x (take l.b l.self.secret.now) l.self.coefficients.now ++ drop l.b l.initial.vs)
