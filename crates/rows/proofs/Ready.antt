-- Rows that are ready to be combined: their identifiers are distinct and not 0, and so there are at most 255 of them.
-- Assumes nothing.
use mathlib.Core.List.{List, ◌∷◌}
use Prim.Native.Nat.{ℕ, suc, ◌<◌, ◌≤◌}
use native.Mathlib.Omega.{arith}
use lib.ListN.{length, get_or}
use Rattle.shamir.specs.Lists.{Fresh, Distinct}
use Rattle.strides.specs.Strides.{strided}
use Rattle.rows.specs.Combining.{Ready}
use Rattle.strides.proofs.Strides.{length-strided}
use Rattle.rows.proofs.Storage.{strided-lt}
use Rattle.rows.proofs.Search.{fresh_of}
use Rattle.rows.proofs.Repeats.{distinct_of}
use Rattle.rows.proofs.Pigeonhole.{pigeonhole}

module _ (w m : ℕ) (s : List ℕ) (r : Ready w m s) where
  abbrev ids : List ℕ
  ids = strided w 0 m s

  pub ready_nonzero : Fresh 0 ids
  ready_nonzero = fresh_of 0 ids (omega (arith, length-strided w 0 m s, r.nonzero))

  pub ready_distinct : Distinct ids
  ready_distinct = distinct_of ids (omega (arith, length-strided w 0 m s, r.distinct))

  -- with 0 they are distinct bytes still
  pub ready_few : ((i : ℕ) → get_or s i 0 < 256) → m ≤ 255
  ready_few b =
      let h : suc (length ids) ≤ 256 = pigeonhole 256 (0 ∷ ids) (ready_nonzero, ready_distinct) (omega arith, strided-lt 256 w 0 m s b) in
      omega (arith, length-strided w 0 m s)
