-- The mask, at any width: a number joined with its wrapped negative has its sign bit set where it is not 0, and only there.
-- Assumes nothing.
use mathlib.Core.Path.{◌≡◌, refl, sym, ap, ◌∙◌, subst}
use mathlib.Core.Bool.{Bool}
use Prim.Native.Nat.{ℕ, zero, suc, ◌-◌, ◌%◌, ◌^◌, ◌≤◌, ◌<◌}
use native.Mathlib.Nat.{sub-zero, mod_self, zero-div, div-eq_of_lt, mod-eq_of_lt, zero-lt-suc}
use native.Mathlib.Omega.{arith}
use borrow.Author.Tests.{le-ltb}
use lib.Bits.{bit_or, or_add_and, and_le_l, and_le_r, or_lt}
use lib.IntN.{ℤ, pos, negsuc, neg_ℤ, ◌+ℤ◌}
use lib.Pow.{pow_pos}
use lib.Signed.{shr_z}
use mir.Syntax.{Width}
use mir.Val.{bits, hbits, SFits, of_z, to_z, sel}
use mir.ValLaws.{pow-bits, half_full, to_z_pos, to_z-of_z, of_z-to_z, of_z_fits, Fits-wrap}
use Rattle.signs.specs.Wrap.{wrapped_neg, int_wrapped_neg}
use Rattle.zero.specs.Mask.{nonzero_mask, SignOfJoin}
use Rattle.zero.specs.Zero.{int_is_zero, int_is_not_zero}

wrapped_zero : (w : Width) → wrapped_neg w 0 ≡ 0
wrapped_zero w = ap (λ (x : ℕ). x % 2 ^ bits w) (sub-zero (2 ^ bits w)) ∙ mod_self (2 ^ bits w)

wrapped_more : (w : Width) {n : ℕ} → 0 < n → n < 2 ^ bits w → wrapped_neg w n ≡ 2 ^ bits w - n
wrapped_more w h l = mod-eq_of_lt (omega arith)

-- n and 2 ^ bits w - n cannot both be in the lower half
high : (w : Width) {n : ℕ} → 0 < n → n < 2 ^ bits w → 2 ^ hbits w ≤ bit_or n (wrapped_neg w n)
high w {n} h l = omega (arith, pow-bits w, wrapped_more w h l, or_add_and n (wrapped_neg w n), and_le_l n (wrapped_neg w n), and_le_r n (wrapped_neg w n))

sign_set : (w : Width) {n : ℕ} → 0 < n → n < 2 ^ bits w → shr_z (to_z w (bit_or n (wrapped_neg w n))) (2 ^ hbits w) ≡ negsuc 0
sign_set w {n} h l =
    ap (λ (b : Bool). shr_z (sel b (pos o) (negsuc (2 ^ bits w - suc o))) (2 ^ hbits w)) (le-ltb o (2 ^ hbits w) (high w h l))
    ∙ ap negsuc (div-eq_of_lt (omega (arith, pow-bits w, high w h l, or_lt (bits w) n (wrapped_neg w n) l (Fits-wrap w (2 ^ bits w - n)).fits)))
  where
    o : ℕ
    o = bit_or n (wrapped_neg w n)

pub join_sign : SignOfJoin
join_sign w (pos zero) f =
    ap (λ (m : ℕ). shr_z (to_z w m) (2 ^ hbits w)) (wrapped_zero w)
    ∙ ap (λ (z : ℤ). shr_z z (2 ^ hbits w)) (to_z_pos w 0 (pow_pos (hbits w))) ∙ ap pos (zero-div (2 ^ hbits w))
join_sign w (pos (suc n)) f = sign_set w (zero-lt-suc n) (half_full w f.sfits)
join_sign w (negsuc n) f = sign_set w (omega (arith, pow-bits w, f.sfits)) (of_z_fits w (negsuc n) f).fits

-- the mask read again at a width that holds it
pub again : (w : Width) (a : ℤ) {m : ℤ} → m ≡ nonzero_mask a → to_z w (of_z w m) ≡ nonzero_mask a
again w a e = ap (λ (z : ℤ). to_z w (of_z w z)) e ∙ to_z-of_z w (nonzero_mask a) (fits a)
  where
    fits : (z : ℤ) → SFits w (nonzero_mask z)
    fits (pos zero) = record { sfits = pow_pos (hbits w) }
    fits (pos (suc n)) = record { sfits = pow_pos (hbits w) }
    fits (negsuc n) = record { sfits = pow_pos (hbits w) }

-- the code's way: r is what the wrapped negative was answered as
pub mask : (w : Width) (a : ℤ) {r : ℤ} → SFits w a → r ≡ int_wrapped_neg w (to_z w (of_z w a))
    → to_z w (of_z w (shr_z (to_z w (bit_or (of_z w a) (of_z w r))) (2 ^ hbits w))) ≡ nonzero_mask a
mask w a f e =
    again w a (ap (λ (n : ℕ). shr_z (to_z w (bit_or (of_z w a) n)) (2 ^ hbits w))
    (ap (of_z w) (e ∙ ap (int_wrapped_neg w) (to_z-of_z w a f)) ∙ of_z-to_z w (wrapped_neg w (of_z w a)) (Fits-wrap w (2 ^ bits w - of_z w a)))
    ∙ join_sign w a f)

-- what the tests make of the mask
pub record Answers (m a : ℤ) : Type 0 where
  pub plus_one : m +ℤ pos 1 ≡ pos (int_is_zero a)
  pub negated : neg_ℤ m ≡ pos (int_is_not_zero a)

answers : (a : ℤ) → Answers (nonzero_mask a) a
answers (pos zero) = record { plus_one = refl; negated = refl }
answers (pos (suc n)) = record { plus_one = refl; negated = refl }
answers (negsuc n) = record { plus_one = refl; negated = refl }

pub answered : (a : ℤ) {m : ℤ} → m ≡ nonzero_mask a → Answers m a
answered a e = subst (λ (m : ℤ). Answers m a) (sym e) (answers a)
