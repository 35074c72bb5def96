-- Rows laid together, with their lengths as bytes, can be cut apart again.
-- Assumes nothing.
use mathlib.Core.Path.{◌≡◌, refl, ap, ap₂, ◌∙◌}
use mathlib.Core.List.{List, [], ◌∷◌, map}
use Prim.Native.Nat.{ℕ, ◌+◌, ◌*◌, ◌/◌, ◌%◌, ◌^◌, ◌<◌}
use native.Mathlib.Omega.{arith}
use lib.ListN.{length, replicate, length-append}
use Rattle.shamir.specs.Lists.{All, Below}
use Rattle.shamir.proofs.Lists.{all_append}
use Rattle.rows.specs.Storage.{laid}
use Rattle.rows.specs.Lengths.{four, length_bytes, fours, lengths_of}
use Rattle.reading.specs.Lines.{Row}

pub below_laid : (n : ℕ) (rows : List (List ℕ)) → All (Below n) rows → Below n (laid rows)
below_laid n [] h = tt
below_laid n (r ∷ rows) h = all_append (◌< n) r (laid rows) h.0 (below_laid n rows h.1)

pub length-laid : (l : ℕ) (rows : List (List ℕ)) → All (Row l) rows → length (laid rows) ≡ length rows * (l + 1)
length-laid l [] h = omega arith
length-laid l (row ∷ rows) h = omega (arith, length-append row (laid rows), length-laid l rows h.1, h.0.long)

-- ---- their lengths

pub lengths-same : (l : ℕ) (rows : List (List ℕ)) → All (Row l) rows → map length rows ≡ replicate (length rows) (l + 1)
lengths-same l [] h = refl
lengths-same l (row ∷ rows) h = ap₂ ◌∷◌ h.0.long (lengths-same l rows h.1)

pub four_of : (n : ℕ) → four (n % 2 ^ 8) (n / 2 ^ 8 % 2 ^ 8) (n / 2 ^ 16 % 2 ^ 8) (n / 2 ^ 24) ≡ n
four_of n = omega arith

pub length-length_bytes : (ns : List ℕ) → length (length_bytes ns) ≡ length ns * 4
length-length_bytes [] = omega arith
length-length_bytes (n ∷ ns) = omega (arith, length-length_bytes ns)

fours_of : (ns : List ℕ) → fours (length ns) (length_bytes ns) ≡ ns
fours_of [] = refl
fours_of (n ∷ ns) = ap₂ ◌∷◌ (four_of n) (fours_of ns)

pub lengths_of_lem : (ns : List ℕ) → lengths_of (length_bytes ns) ≡ ns
unfolding lengths_of
lengths_of_lem ns =
    let count : length (length_bytes ns) / 4 ≡ length ns = omega (arith, length-length_bytes ns) in
    ap (λ m. fours m (length_bytes ns)) count ∙ fours_of ns

pub below_length_bytes : (ns : List ℕ) → Below (2 ^ 32) ns → Below 256 (length_bytes ns)
below_length_bytes [] h = tt
below_length_bytes (n ∷ ns) h =
    let l = h.0 in
    (omega arith, (omega arith, (omega arith, (omega arith, below_length_bytes ns h.1))))
