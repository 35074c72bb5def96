-- The decimal of a number is a text of digits whose value is the number, so that it tells the number.
-- Assumes nothing.
use mathlib.Core.Path.{◌≡◌, refl, sym, ap, ◌∙◌}
use mathlib.Core.List.{List, [], ◌∷◌, ◌++◌}
use mathlib.Core.Logic.{◌⊎◌, inl, inr, ⊎_elim}
use Prim.Native.Nat.{ℕ, zero, suc, ◌+◌, ◌*◌, ◌-◌, ◌/◌, ◌<◌, ◌≤◌}
use native.Mathlib.Decide.{dec_lt}
use native.Mathlib.Omega.{arith}
use lib.ListN.{length, get_or, get_or-append}
use Rattle.shamir.specs.Lists.{All}
use Rattle.shamir.proofs.Lists.{all_append}
use Rattle.sheets.specs.Text.{decimal}
use Rattle.sheets.specs.ReadAs.{value_from, value}
use Rattle.sheets.specs.ReadAs.{IsDigit}
use Rattle.sheets.proofs.Decimal.{decimal-small, decimal_more, length-decimal-small, length-decimal_more}

-- a number has one digit, or more
pub one_or_more : (n : ℕ) → (n < 10) ⊎ (10 ≤ n)
one_or_more n = elim (dec_lt n 10) [ yes h ↦ inl h | no h ↦ inr (omega arith) ]

-- what holds of numbers of one digit, and of each other number where it holds of its tenth, holds of all
pub by_digits : (P : ℕ → Type 0) → ((n : ℕ) → n < 10 → P n) → ((n : ℕ) → 10 ≤ n → P (n / 10) → P n) → (n : ℕ) → P n
by_digits P one more n = below (suc n) n (omega arith)
  where
    below : (p n : ℕ) → n < p → P n
    below zero n h = absurd (omega arith)
    below (suc p) n h = ⊎_elim (one n) (λ l. more n l (below p (n / 10) (omega arith))) (one_or_more n)

-- ---- its characters

pub decimal-digits : (n : ℕ) → All IsDigit (decimal n)
decimal-digits =
    by_digits (λ n. All IsDigit (decimal n))
    (λ n h. rw (decimal-small n h) ((omega arith, omega arith), tt))
    (λ n h k. rw (decimal_more n h) (all_append IsDigit (decimal (n / 10)) _ k ((omega arith, omega arith), tt)))

pub decimal-some : (n : ℕ) → 0 < length (decimal n)
decimal-some =
    by_digits (λ n. 0 < length (decimal n))
    (λ n h. omega (arith, length-decimal-small n h))
    (λ n h k. omega (arith, length-decimal_more n h))

-- only 0 begins with the digit 0
pub decimal-first : (n : ℕ) → get_or (decimal n) 0 0 ≡ 48 → n ≡ 0
decimal-first =
    by_digits (λ n. get_or (decimal n) 0 0 ≡ 48 → n ≡ 0)
    (λ n h e. omega (arith, rw (decimal-small n h) at e))
    (λ n h k e. let z : n / 10 ≡ 0 = k (sym (get_or-append (decimal (n / 10)) _ 0 0 (decimal-some (n / 10))) ∙ (rw (decimal_more n h) at e)) in omega arith)

-- ---- its value

pub value-append : (v : ℕ) (xs ys : List ℕ) → value_from v (xs ++ ys) ≡ value_from (value_from v xs) ys
value-append v [] ys = refl
value-append v (x ∷ xs) ys = value-append (v * 10 + (x - 48)) xs ys

pub value-decimal : (n : ℕ) → value (decimal n) ≡ n
value-decimal =
    by_digits (λ n. value (decimal n) ≡ n)
    (λ n h. ap value (decimal-small n h) ∙ omega arith)
    (λ n h k. ap value (decimal_more n h) ∙ value-append 0 (decimal (n / 10)) _ ∙ omega arith)

pub decimal-told : (m n : ℕ) → decimal m ≡ decimal n → m ≡ n
decimal-told m n e = sym (value-decimal m) ∙ ap value e ∙ value-decimal n
