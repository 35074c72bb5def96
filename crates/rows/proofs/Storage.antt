-- Rows of w elements one after another: where each element of them stands.
-- Assumes nothing.
use mathlib.Core.Path.{◌≡◌, refl, ap, ap₂, ◌∙◌}
use mathlib.Core.Bool.{Bool, true, false, ◌&&◌}
use mathlib.Core.List.{List, [], ◌∷◌}
use Prim.Native.Nat.{ℕ, zero, suc, ◌+◌, ◌*◌, ◌<◌}
use native.Mathlib.Omega.{arith}
use lib.Dec.{eqb}
use lib.ListN.{length, get_or, take, drop, replicate}
use lib.Seq.{get_or-take, get_or-drop}
use borrow.Author.Tests.{eq-eqb, eqb-true}
use Rattle.shamir.specs.Lists.{Below}
use Rattle.shamir.specs.Rows.{column}
use Rattle.strides.proofs.Strides.{length-strided, strided_at}
use Rattle.rows.specs.declared.Rows.{Rows}
use Rattle.rows.specs.Identifiers.{row_ids}
use Rattle.rows.specs.Search.{sum, all_are}
use Rattle.strides.specs.Strides.{strided}
use Rattle.rows.specs.Storage.{cut, values}

-- where the next row begins
pub next_row : (i w at : ℕ) → at ≡ i * w → at + w ≡ (i + 1) * w
next_row i w at e = omega arith

pub strided-first : (w m : ℕ) (s : List ℕ) (i at : ℕ) → i < m → at ≡ i * w → get_or s at 0 ≡ get_or (strided w 0 m s) i 0
strided-first w m s i at h e = strided_at w 0 m s i at h (omega arith)

-- as many identifiers as there are rows
pub as_many : (r : Rows) → length (row_ids r) ≡ r.count
as_many r = length-strided r.width 0 r.count r.bytes.now

-- the first elements of rows of one element are all of them
pub strided-one : (xs : List ℕ) → strided 1 0 (length xs) xs ≡ xs
strided-one [] = refl
strided-one (x ∷ xs) = ap (x ∷◌) (strided-one xs)

pub strided-lt : (n w k m : ℕ) (s : List ℕ) → ((i : ℕ) → get_or s i 0 < n) → Below n (strided w k m s)
strided-lt n w k zero s h = tt
strided-lt n w k (suc m) s h = (h k, strided-lt n w k m (drop w s) (λ i. rw get_or-drop (h (w + i))))

-- ---- rows of one length

pub equal_lengths : (w : ℕ) (ns : List ℕ) → all_are w ns ≡ true → ns ≡ replicate (length ns) w
equal_lengths w [] e = refl
equal_lengths w (n ∷ ns) e = step (eqb n w) (eqb-true n w) (equal_lengths w ns) e
  where
    step : (b : Bool) → (b ≡ true → n ≡ w) → (all_are w ns ≡ true → ns ≡ replicate (length ns) w) → (b && all_are w ns) ≡ true → n ∷ ns ≡ replicate (suc (length ns)) w
    step true f g h = ap₂ ◌∷◌ (f refl) (g h)
    step false f g h = absurd (let z : ◌≡◌ {A = ℕ} 0 1 = cc in omega arith)

pub all_equal : (w m : ℕ) → all_are w (replicate m w) ≡ true
all_equal w zero = refl
all_equal w (suc m) = ap (◌&& all_are w (replicate m w)) (eq-eqb w w refl) ∙ all_equal w m

pub sum-replicate : (m w : ℕ) → sum (replicate m w) ≡ m * w
sum-replicate zero w = omega arith
sum-replicate (suc m) w = omega (arith, sum-replicate m w)

pub column-strided : (w k m : ℕ) (s : List ℕ) → k < w → column k (cut (replicate m w) s) ≡ strided w k m s
column-strided w k zero s h = refl
column-strided w k (suc m) s h = ap₂ ◌∷◌ (get_or-take w s k 0 h) (column-strided w k m (drop w s) h)

pub values-strided : (w k m : ℕ) (s : List ℕ) → suc k < w → column k (values (cut (replicate m w) s)) ≡ strided w (suc k) m s
values-strided w k zero s h = refl
values-strided w k (suc m) s h = ap₂ ◌∷◌ (get_or-drop 1 (take w s) k 0 ∙ first) (values-strided w k m (drop w s) h)
  where
    first : get_or (take w s) (1 + k) 0 ≡ get_or s (suc k) 0
    first = let z : 1 + k ≡ suc k = omega arith in ap (λ n. get_or (take w s) n 0) z ∙ get_or-take w s (suc k) 0 h

pub length_cut : (ns s : List ℕ) → length (cut ns s) ≡ length ns
length_cut [] s = refl
length_cut (n ∷ ns) s = ap suc (length_cut ns (drop n s))
