-- A loop that changes a list in place, one element a turn, and what it has made of the list in the end.
-- Assumes nothing.
use mathlib.Core.Path.{◌≡◌, refl, sym, ap, ◌∙◌}
use mathlib.Core.List.{List, [], ◌∷◌, zip_with}
use mathlib.Core.Logic.{⊎_elim}
use Prim.Native.Nat.{ℕ, zero, suc, ◌+◌, ◌<◌, ◌≤◌}
use native.Mathlib.Nat.{eq-or-lt_of_le}
use native.Mathlib.Omega.{arith}
use lib.ListN.{length, get_or, set, length-set}
use lib.Seq.{get_or-set_same, get_or-set_other, ext_get_or}

-- l is l₀ with f of its place and itself for each element before i
pub record InPlace (f : ℕ → ℕ → ℕ) (l₀ : List ℕ) (i : ℕ) (l : List ℕ) : Type 0 where
  pub long : length l ≡ length l₀
  pub done : (k : ℕ) → k < i → get_or l k 0 ≡ f k (get_or l₀ k 0)
  pub rest : (k : ℕ) → i ≤ k → get_or l k 0 ≡ get_or l₀ k 0

pub length-zip-le : (f : ℕ → ℕ → ℕ) (xs ys : List ℕ) → length xs ≤ length ys → length (zip_with f xs ys) ≡ length xs
unfolding zip_with
length-zip-le f [] ys h = refl
length-zip-le f (x ∷ xs) [] h = absurd (omega arith)
length-zip-le f (x ∷ xs) (y ∷ ys) h = ap suc (length-zip-le f xs ys (omega arith))

pub get_or-zip : (f : ℕ → ℕ → ℕ) (xs ys : List ℕ) (k : ℕ) → k < length xs → k < length ys → get_or (zip_with f xs ys) k 0 ≡ f (get_or xs k 0) (get_or ys k 0)
unfolding zip_with
get_or-zip f [] ys k h j = absurd (omega arith)
get_or-zip f (x ∷ xs) [] k h j = absurd (omega arith)
get_or-zip f (x ∷ xs) (y ∷ ys) zero h j = refl
get_or-zip f (x ∷ xs) (y ∷ ys) (suc k) h j = get_or-zip f xs ys k (omega arith) (omega arith)

module _ {f : ℕ → ℕ → ℕ} {l₀ : List ℕ} where
  pub next : {l : List ℕ} (i v : ℕ) → InPlace f l₀ i l → i < length l → v ≡ f i (get_or l i 0) → InPlace f l₀ (i + 1) (set l i v)
  next {l} i v p h e = record {
    long = length-set l i v ∙ p.long;
    done = λ k hk. ⊎_elim
        (λ (q : k ≡ i). ap (λ n. get_or (set l i v) n 0) q ∙ get_or-set_same l i v 0 h ∙ e ∙ ap (f i) (p.rest i (omega arith)) ∙ ap (λ n. f n (get_or l₀ n 0)) (sym q))
        (λ q. get_or-set_other l i k v 0 (λ z. omega arith) ∙ p.done k q)
        (eq-or-lt_of_le (let z : k ≤ i = omega arith in z));
    rest = λ k hk. get_or-set_other l i k v 0 (λ z. omega arith) ∙ p.rest k (omega arith);
  }

  module _ {l : List ℕ} (i : ℕ) (p : InPlace f l₀ i l) (h : length l ≤ i) where
    pub all : (t : List ℕ) → length t ≡ length l₀ → ((k : ℕ) → k < length l₀ → f k (get_or l₀ k 0) ≡ get_or t k 0) → l ≡ t
    all t e s = ext_get_or 0 l t (p.long ∙ sym e) (λ k hk. p.done k (omega arith) ∙ s k (omega (arith, p.long)))

    pub all-zip : (g : ℕ → ℕ → ℕ) (xs : List ℕ) → length l₀ ≡ length xs → ((k d : ℕ) → f k d ≡ g d (get_or xs k 0)) → l ≡ zip_with g l₀ xs
    all-zip g xs e s = all (zip_with g l₀ xs) (length-zip-le g l₀ xs (omega arith)) (λ k hk. s k (get_or l₀ k 0) ∙ sym (get_or-zip g l₀ xs k hk (omega arith)))
