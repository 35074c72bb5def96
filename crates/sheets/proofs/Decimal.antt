-- A number in decimal is the decimal of its tenth, where that is not 0, and its last digit.
-- Assumes nothing.
use mathlib.Core.Path.{◌≡◌, refl, ap, ◌∙◌}
use mathlib.Core.Bool.{Bool, true, false, cond}
use mathlib.Core.List.{[], ◌∷◌, ◌++◌}
use Prim.Native.Nat.{ℕ, zero, suc, ◌+◌, ◌*◌, ◌/◌, ◌%◌, ◌^◌, ◌<◌, ◌≤◌}
use native.Mathlib.Nat.{pow-suc}
use native.Mathlib.Omega.{arith}
use lib.Dec.{ltb}
use lib.ListN.{length, length-append}
use borrow.Author.Tests.{ltb-true, ltb-false, lt-ltb, le-ltb}
use Rattle.sheets.specs.Text.{digit, decimal_in, decimal}

-- it does not matter in how many places, once they are enough
enough : (p q n : ℕ) → n < p → n < q → decimal_in p n ≡ decimal_in q n
enough zero q n hp hq = absurd (omega arith)
enough (suc p) zero n hp hq = absurd (omega arith)
enough (suc p) (suc q) n hp hq =
    ap (◌++ (digit (n % 10) ∷ [])) (others (ltb n 10) (λ e. enough p q (n / 10) (omega (arith, ltb-false n 10 e)) (omega (arith, ltb-false n 10 e))))
  where
    others : (b : Bool) → (b ≡ false → decimal_in p (n / 10) ≡ decimal_in q (n / 10)) → cond b [] (decimal_in p (n / 10)) ≡ cond b [] (decimal_in q (n / 10))
    others true h = refl
    others false h = h refl

pub decimal_last : (n : ℕ) → decimal n ≡ cond (ltb n 10) [] (decimal (n / 10)) ++ (digit (n % 10) ∷ [])
unfolding decimal
decimal_last n =
    ap (◌++ (digit (n % 10) ∷ [])) (others (ltb n 10) (λ e. enough n (suc (n / 10)) (n / 10) (omega (arith, ltb-false n 10 e)) (omega arith)))
  where
    others : (b : Bool) → (b ≡ false → decimal_in n (n / 10) ≡ decimal_in (suc (n / 10)) (n / 10)) → cond b [] (decimal_in n (n / 10)) ≡ cond b [] (decimal_in (suc (n / 10)) (n / 10))
    others true h = refl
    others false h = h refl

pub decimal-small : (n : ℕ) → n < 10 → decimal n ≡ digit (n % 10) ∷ []
decimal-small n h = decimal_last n ∙ simp (lt-ltb n 10 h)

pub decimal_more : (n : ℕ) → 10 ≤ n → decimal n ≡ decimal (n / 10) ++ (digit (n % 10) ∷ [])
decimal_more n h = decimal_last n ∙ simp (le-ltb n 10 h)

pub length-decimal-small : (n : ℕ) → n < 10 → length (decimal n) ≡ 1
length-decimal-small n h = ap length (decimal-small n h)

pub length-decimal_more : (n : ℕ) → 10 ≤ n → length (decimal n) ≡ length (decimal (n / 10)) + 1
length-decimal_more n h = ap length (decimal_more n h) ∙ simp length-append

power-some : (k : ℕ) → 1 ≤ 10 ^ k
power-some zero = omega arith
power-some (suc k) = omega (arith, power-some k, pow-suc 10 k)

-- so many digits for numbers from a power of ten to the next
pub digits : (k n : ℕ) → 10 ^ k ≤ n → n < 10 ^ (k + 1) → length (decimal n) ≡ k + 1
digits zero n h g = length-decimal-small n g
digits (suc k) n h g =
    let least : 10 ^ suc k ≡ 10 ^ k * 10 = pow-suc 10 k in
    let most : 10 ^ (suc k + 1) ≡ 10 ^ (k + 1) * 10 = ap (10 ^◌) (omega arith) ∙ pow-suc 10 (k + 1) in
    let some : 1 ≤ 10 ^ k = power-some k in
    omega (arith, length-decimal_more n (omega arith), digits k (n / 10) (omega arith) (omega arith))

pub decimal-short : (k n : ℕ) → n < 10 ^ (k + 1) → length (decimal n) ≤ k + 1
decimal-short zero n g = omega (arith, length-decimal-small n g)
decimal-short (suc k) n g =
    let most : 10 ^ (suc k + 1) ≡ 10 ^ (k + 1) * 10 = ap (10 ^◌) (omega arith) ∙ pow-suc 10 (k + 1) in
    by_test (ltb n 10) (ltb-true n 10) (ltb-false n 10) (decimal-short k (n / 10) (omega arith))
  where
    by_test : (b : Bool) → (b ≡ true → n < 10) → (b ≡ false → 10 ≤ n) → length (decimal (n / 10)) ≤ k + 1 → length (decimal n) ≤ suc k + 1
    by_test true few many h = omega (arith, length-decimal-small n (few refl))
    by_test false few many h = omega (arith, length-decimal_more n (many refl))
