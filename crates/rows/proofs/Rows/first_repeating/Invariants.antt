-- `first_repeating` meets its contract: what was met is marked, and none of it was met before.
use mathlib.Core.Path.{◌≡◌}
use Prim.Native.Nat.{◌+◌}
use lib.ListN.{take, drop}
use Rattle.rows.specs.Search.{repeating_behind, first_repeating}
use Rattle.rows.specs.Identifiers.{row_ids}
use Rattle.rows.proofs.Marks.{Seen}
use Rattle.rows.proofs.Rows.first_repeating.Given as goal

abbrev pub invariant-loop-j : goal.invariant-loop-j
invariant-loop-j l =
    let ids = row_ids l.self in
    Seen l.seen (take l.j ids) × (first_repeating ids ≡ l.j + repeating_behind (take l.j ids) (drop l.j ids))
