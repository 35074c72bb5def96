-- The bytes passed, joined, answer with the rest as all bytes do.
use mathlib.Core.Path.{◌≡◌}
use mathlib.Core.List.{◌∷◌}
use lib.ListN.{drop}
use Rattle.zero.specs.Zero.{is_zero_bytes}
use Rattle.zero.proofs.RefSliceU8CtIsZero.nonzero_mask.Given as goal

abbrev pub invariant-loop-b : goal.invariant-loop-b
invariant-loop-b l = is_zero_bytes (l.t ∷ drop l.b-index l.b-items) ≡ is_zero_bytes l.b-items
