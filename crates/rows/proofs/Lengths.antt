-- Row lengths one by one: a turn of the loops that read them, whichever way they are stored, and how they are stored as bytes.
-- Assumes nothing.
use mathlib.Core.Path.{◌≡◌, refl, sym, ap, ap₂, ◌∙◌}
use mathlib.Core.Bool.{Bool, true, false, ◌&&◌, and-false}
use mathlib.Core.List.{List, [], ◌∷◌, map}
use Prim.Native.Nat.{ℕ, zero, suc, ◌+◌, ◌-◌, ◌/◌, ◌<◌, ◌≤◌}
use native.Mathlib.Numerals.{add-one}
use native.Mathlib.Omega.{arith}
use lib.Dec.{eqb}
use lib.ListN.{length, get_or, drop, length-map}
use lib.Seq.{drop-cons}
use borrow.Author.Tests.{eq-eqb, ne_eqb}
use Rattle.rows.specs.Search.{sum, all_are}
use Rattle.std.proofs.Common.{lit<}
use Rattle.std.proofs.lemmas.List.{get_or-take, get_or-map}
use Rattle.std.specs.Bool.{MatchBool}
use Rattle.std.specs.List.{All, AllWithin, HoldsAt}
use Rattle.std.specs.Simd.{first_chunks}
use Rattle.rows.specs.Lengths.{four_of, fours, lengths_of}

-- the first i lengths are taken off n, and rest is left
abbrev pub Left : List ℕ → ℕ → ℕ → ℕ → Type 0
Left ns n i rest = rest + sum ns ≡ n + sum (drop i ns)

module _ (ns : List ℕ) (i l : ℕ) (k : i < length ns) (e : l ≡ get_or ns i 0) where
  sum_drop : sum (drop i ns) ≡ l + sum (drop (i + 1) ns)
  sum_drop = rw (e, add-one, drop-cons ns i 0)

  pub left_less : (n rest : ℕ) → Left ns n i rest → rest < l → false ≡ eqb (sum ns) n
  left_less n rest h s = sym (ne_eqb (sum ns) n (λ z. omega (arith, sum_drop)))

  pub left_next : (n rest : ℕ) → Left ns n i rest → l ≤ rest → Left ns n (i + 1) (rest - l)
  left_next n rest h s = omega (arith, sum_drop)

-- what lengths say is as long a list ..
pub as_long : {X : Type 0} (v : X → ℕ) (xs : List X) (ns : List ℕ) → ns ≡ map v xs → length ns ≡ length xs
as_long v xs ns e = ap length e ∙ length-map xs v

-- .. in which each stands at its place
pub said : {X : Type 0} (v : X → ℕ) (xs : List X) (ns : List ℕ) (i l : ℕ) (x : X) → ns ≡ map v xs → i < length xs → x ≡ get_or xs i x → l ≡ v x
    → (i < length ns) × (l ≡ get_or ns i 0)
said v xs ns i l x e h at el =
    let long = as_long v xs ns e in
    (omega arith, el ∙ ap v at ∙ sym (get_or-map v xs i x 0 h) ∙ ap (λ n. get_or n i 0) (sym e))

-- whether each is w, from what is known of each, or of one
module _ {X : Type 0} (v : X → ℕ) (w : ℕ) where
  each_is : (xs : List X) → All (λ x. v x ≡ w) xs → all_are w (map v xs) ≡ true
  each_is [] h = refl
  each_is (x ∷ xs) h = ap₂ ◌&&◌ (eq-eqb (v x) w (h 0 x (omega arith))) (each_is xs (λ k d l. h (suc k) d (omega arith)))

  one_other : (xs : List X) (k : ℕ) → k < length xs → HoldsAt (λ x. v x ≡ w → ⊥) xs k → all_are w (map v xs) ≡ false
  one_other [] k l h = absurd (omega arith)
  one_other (x ∷ xs) zero l h = ap (◌&& all_are w (map v xs)) (ne_eqb (v x) w (h x))
  one_other (x ∷ xs) (suc k) l h = ap (eqb (v x) w &&◌) (one_other xs k (omega arith) (λ d. h d)) ∙ and-false (eqb (v x) w)

  pub are_told : (xs : List X) (r : Bool) → MatchBool r (AllWithin (λ x. v x ≡ w) xs 0 (length xs)) ((k : ℕ) × (k < length xs) × HoldsAt (λ x. v x ≡ w → ⊥) xs k)
      → r ≡ all_are w (map v xs)
  are_told xs true h = sym (each_is xs (λ k d l. h k d (omega arith) l))
  are_told xs false h = sym (one_other xs h.0 h.1 h.2)

-- ---- as bytes

length-fours : (m : ℕ) (bytes : List ℕ) → length (fours m bytes) ≡ m
length-fours zero bytes = refl
length-fours (suc m) bytes = ap suc (length-fours m (drop 4 bytes))

pub length-lengths : (bytes : List ℕ) → length (lengths_of bytes) ≡ length bytes / 4
unfolding lengths_of
length-lengths bytes = length-fours (length bytes / 4) bytes

-- the first m fours, as arrays
chunks : (m : ℕ) (bytes : List ℕ) → map four_of (first_chunks 4 m bytes) ≡ fours m bytes
chunks zero bytes = refl
chunks (suc m) bytes =
    ap₂ ◌∷◌
    (simp (get_or-take 4 bytes 0 0 (lit< tt), get_or-take 4 bytes 1 0 (lit< tt), get_or-take 4 bytes 2 0 (lit< tt), get_or-take 4 bytes 3 0 (lit< tt)))
    (chunks m (drop 4 bytes))

pub chunks_are : (bytes : List ℕ) → map four_of (first_chunks 4 (length bytes / 4) bytes) ≡ lengths_of bytes
unfolding lengths_of
chunks_are bytes = chunks (length bytes / 4) bytes
