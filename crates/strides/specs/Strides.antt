-- Elements that lie a stride apart.
-- Assumes nothing.
use Rattle.std.specs.Prelude.{List, [], ◌∷◌, ℕ, zero, suc, get_or, drop}

-- of m runs of w elements, one behind another in s, the one at place k of each
abbrev pub strided : ℕ → ℕ → ℕ → List ℕ → List ℕ
strided w k zero s = []
strided w k (suc m) s = get_or s k 0 ∷ strided w k m (drop w s)
