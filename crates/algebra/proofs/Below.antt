-- What a computed test shows of each number below n.
-- Assumes nothing.
use mathlib.Core.Path.{◌≡◌, sym, subst}
use mathlib.Core.Bool.{Bool, true, false, ◌&&◌}
use mathlib.Core.Logic.{⊎_elim}
use Prim.Native.Nat.{ℕ, zero, suc, ◌<◌}
use native.Mathlib.Nat.{not-suc-le-zero, le_of_suc-le-suc, eq-or-lt_of_le}
use lib.Dec.{T, eqb, ltb, eqb→eq, ltb→lt}

both : (a b : Bool) → T (a && b) → T a × T b
both true b t = (tt, t)
both false b t = absurd t

abbrev pub all : (ℕ → Bool) → ℕ → Bool
all f zero = true
all f (suc n) = f n && all f n

pub below : (f : ℕ → Bool) (n : ℕ) → T (all f n) → (k : ℕ) → k < n → T (f k)
below f zero t k h = absurd (not-suc-le-zero h)
below f (suc n) t k h =
    let each = both (f n) (all f n) t in
    ⊎_elim (λ e. subst (λ x. T (f x)) (sym e) each.0) (λ l. below f n each.1 k l) (eq-or-lt_of_le (le_of_suc-le-suc h))

module _ (f g : ℕ → ℕ) (n : ℕ) where
  pub below-≡ : T (all (λ k. eqb (f k) (g k)) n) → (k : ℕ) → k < n → f k ≡ g k
  below-≡ t k h = eqb→eq (f k) (g k) (below (λ j. eqb (f j) (g j)) n t k h)

  pub below-< : T (all (λ k. ltb (f k) (g k)) n) → (k : ℕ) → k < n → f k < g k
  below-< t k h = ltb→lt (f k) (g k) (below (λ j. ltb (f j) (g j)) n t k h)
