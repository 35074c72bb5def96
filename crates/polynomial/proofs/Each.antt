-- Lists that are given number by number. Assumes nothing.
use mathlib.Core.Path.{◌≡◌, ◌∙◌, sym, ap, ap₂, refl}
use mathlib.Core.List.{List, [], ◌∷◌, ◌++◌}
use Prim.Native.Nat.{ℕ, zero, suc, ◌+◌, ◌<◌}
use native.Mathlib.Omega.{arith}
use native.Mathlib.Numerals.{add-one}
use lib.ListN.{length, drop, get_or, set}
use Rattle.polynomial.specs.Steps.{each}
use Rattle.polynomial.proofs.Fill.{fill_one, fill_next}

pub length-each : (n : ℕ) (f : ℕ → ℕ) → length (each n f) ≡ n
length-each zero f = refl
length-each (suc n) f = ap suc (length-each n (λ i. f (suc i)))

pub each_at : (n : ℕ) (f : ℕ → ℕ) (i : ℕ) → i < n → get_or (each n f) i 0 ≡ f i
each_at zero f i h = absurd (omega arith)
each_at (suc n) f zero h = refl
each_at (suc n) f (suc i) h = each_at n (λ i. f (suc i)) i (omega arith)

pub each_same : (n : ℕ) (f g : ℕ → ℕ) → ((i : ℕ) → i < n → f i ≡ g i) → each n f ≡ each n g
each_same zero f g s = refl
each_same (suc n) f g s = ap₂ ◌∷◌ (s 0 (omega arith)) (each_same n (λ i. f (suc i)) (λ i. g (suc i)) (λ i h. s (suc i) (omega arith)))

-- a list is what it holds
pub each_of : (l : List ℕ) (f : ℕ → ℕ) → ((i : ℕ) → i < length l → get_or l i 0 ≡ f i) → l ≡ each (length l) f
each_of [] f s = refl
each_of (x ∷ l) f s = ap₂ ◌∷◌ (s 0 (omega arith)) (each_of l (λ i. f (suc i)) (λ i h. s (suc i) (omega arith)))

each_suc : (n : ℕ) (f : ℕ → ℕ) → each n f ++ f n ∷ [] ≡ each (suc n) f
each_suc zero f = refl
each_suc (suc n) f = ap (f 0 ∷◌) (each_suc n (λ i. f (suc i)))

-- a loop that fills d number by number: what stands at the next place, a turn, and the end
module _ (d : List ℕ) (n : ℕ) (f : ℕ → ℕ) where
  pub each_next : n < length d → get_or (each n f ++ drop n d) n 0 ≡ get_or d n 0
  each_next h = fill_next (each n f) d n (length-each n f) h

  pub each-one : (v : ℕ) → n < length d → v ≡ f n → set (each n f ++ drop n d) n v ≡ each (n + 1) f ++ drop (n + 1) d
  each-one v h e =
      fill_one (each n f) d n (length-each n f) v h
      ∙ ap (◌++ drop (n + 1) d) (ap (λ v. each n f ++ v ∷ []) e ∙ each_suc n f ∙ ap (λ m. each m f) (sym (add-one n)))
