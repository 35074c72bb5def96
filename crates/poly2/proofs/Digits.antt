-- A walk through the binary digits ends with its step at the last digit; what holds of both digits holds of a number's last.
-- Assumes nothing.
use mathlib.Core.Path.{◌≡◌, refl, sym, ap, ◌∙◌}
use Prim.Native.Nat.{ℕ, zero, suc, ◌/◌, ◌%◌, ◌<◌, ◌≤◌}
use native.Mathlib.Nat.{le_of_suc-le-suc, not-suc-le-zero, le_refl, zero-lt-suc, mod-lt}
use native.Mathlib.Decide.{le_ind}
use lib.Arith.{half_le}
use Rattle.poly2.specs.Poly2.{digits, fold}

pub two_pos : 0 < 2
two_pos = zero-lt-suc 1

module _ (step : ℕ → ℕ → ℕ) (none : step 0 0 ≡ 0) where
  more : (n a : ℕ) → a ≤ n → digits step (suc n) a ≡ digits step n a
  more zero zero h = refl
  more zero (suc a) h = absurd (not-suc-le-zero h)
  more (suc n) zero h = refl
  more (suc n) (suc a) h = ap (λ s. step s (suc a % 2)) (more n (suc a / 2) (half_le h))

  enough : (n a : ℕ) → a ≤ n → digits step n a ≡ fold step a
  enough n a h = le_ind (λ k. digits step k a ≡ fold step a) refl (λ k l e. more k a l ∙ e) n h

  pub fold_step : (a : ℕ) → fold step a ≡ step (fold step (a / 2)) (a % 2)
  fold_step zero = sym none
  fold_step (suc a) = ap (λ s. step s (suc a % 2)) (enough a (suc a / 2) (half_le (le_refl (suc a))))

pub by_bit : (P : ℕ → Type 0) → P 0 → P 1 → (x : ℕ) → x < 2 → P x
by_bit P p q zero h = p
by_bit P p q (suc zero) h = q
by_bit P p q (suc (suc x)) h = absurd (not-suc-le-zero (le_of_suc-le-suc (le_of_suc-le-suc h)))

pub odd : (P : ℕ → Type 0) → P 0 → P 1 → (a : ℕ) → P (a % 2)
odd P p q a = by_bit P p q (a % 2) (mod-lt a two_pos)
