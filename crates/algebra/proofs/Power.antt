-- Powers; and inverses from a generator: where the powers of some g, computed once, hold every element but 0, each such
-- element to the count of them is 1, so that the power before it is an inverse.
-- Assumes nothing.
use mathlib.Core.Path.{◌≡◌, sym, refl, ◌∙◌, ap}
use mathlib.Core.Bool.{Bool, true, false, ◌||◌}
use mathlib.Core.List.{List, [], ◌∷◌}
use Prim.Native.Nat.{ℕ, zero, suc, ◌+◌, ◌*◌, ◌<◌}
use native.Mathlib.Nat.{le_of_suc-le-suc, suc-add, zero-add, add_comm, zero-mul, suc-mul, mul_comm}
use lib.Dec.{T, eqb, eqb→eq}
use Rattle.algebra.specs.Field.{Ops, Ring, power}
use Rattle.algebra.proofs.Below.{below, all}

abbrev has : ℕ → List ℕ → Bool
has a [] = false
has a (x ∷ xs) = eqb a x || has a xs

-- x, g x, g g x, ..: n of them
abbrev walk : (ℕ → ℕ → ℕ) → ℕ → ℕ → ℕ → List ℕ
walk mul g zero x = []
walk mul g (suc n) x = x ∷ walk mul g n (mul g x)

-- the first n powers of g hold each of 1 .. n
abbrev pub generates : (ℕ → ℕ → ℕ) → ℕ → ℕ → Bool
generates mul g n = all (λ k. has (suc k) (walk mul g n 1)) n

either : {P : Type 0} (s t : Bool) → (T s → P) → (T t → P) → T (s || t) → P
either true t f h p = f tt
either false t f h p = h p

module _ {F : Ops} (R : Ring F) where
  infixl 70 ◌⊗◌
  open F use {size, mul as ◌⊗◌}

  abbrev pow : ℕ → ℕ → ℕ
  pow = power ◌⊗◌

  pub power-lt : (a n : ℕ) → a < size → pow a n < size
  unfolding power
  power-lt a zero h = R.one-lt
  power-lt a (suc n) h = R.mul-lt a (pow a n) h (power-lt a n h)

  one-mul : (a : ℕ) → a < size → 1 ⊗ a ≡ a
  one-mul a h = R.mul_comm 1 a ∙ R.mul-one a h

  pub power-one : (a : ℕ) → a < size → pow a 1 ≡ a
  unfolding power
  power-one a h = R.mul-one a h

  pub power-add : (a i j : ℕ) → a < size → pow a (i + j) ≡ pow a i ⊗ pow a j
  unfolding power
  power-add a zero j h = ap (pow a) (zero-add j) ∙ sym (one-mul (pow a j) (power-lt a j h))
  power-add a (suc i) j h =
      ap (pow a) (suc-add i j) ∙ ap (a ⊗◌) (power-add a i j h) ∙ sym (R.mul_assoc a (pow a i) (pow a j))

  power-mul : (a i j : ℕ) → a < size → pow a (i * j) ≡ pow (pow a j) i
  unfolding power
  power-mul a zero j h = ap (pow a) (zero-mul j)
  power-mul a (suc i) j h =
      ap (pow a) (suc-mul i j ∙ add_comm (i * j) j) ∙ power-add a j (i * j) h ∙ ap (pow a j ⊗◌) (power-mul a i j h)

  power_of_one : (n : ℕ) → pow 1 n ≡ 1
  unfolding power
  power_of_one zero = refl
  power_of_one (suc n) = ap (1 ⊗◌) (power_of_one n) ∙ R.mul-one 1 R.one-lt

  found : (a g n i : ℕ) → T (has a (walk ◌⊗◌ g n (pow g i))) → (k : ℕ) × (a ≡ pow g k)
  unfolding power
  found a g zero i t = absurd t
  found a g (suc n) i t =
      either (eqb a (pow g i)) (has a (walk ◌⊗◌ g n (pow g (suc i)))) (λ e. (i, eqb→eq a (pow g i) e)) (λ h. found a g n (suc i) h) t

  -- with a = g^k: a^n = g^(k n) = (g^n)^k = 1
  fermat : (g n : ℕ) → g < size → pow g n ≡ 1 → T (generates ◌⊗◌ g n) → (k : ℕ) → k < n → pow (suc k) n ≡ 1
  unfolding power
  fermat g n hg e t k h =
      let f = found (suc k) g n 0 (below (λ j. has (suc j) (walk ◌⊗◌ g n 1)) n t k h) in
      ap (λ x. pow x n) f.1 ∙ sym (power-mul g n f.0 hg) ∙ ap (pow g) (mul_comm n f.0)
      ∙ power-mul g f.0 n hg ∙ ap (λ x. pow x f.0) e ∙ power_of_one f.0

  -- of n + 1 elements beside 0, each times its nth power is 1
  pub inverse_power : (g n : ℕ) → g < size → pow g (suc n) ≡ 1 → T (generates ◌⊗◌ g (suc n)) → (a : ℕ) → (a ≡ 0 → ⊥) → a < suc (suc n) → a ⊗ pow a n ≡ 1
  unfolding power
  inverse_power g n hg e t zero na l = absurd (na refl)
  inverse_power g n hg e t (suc k) na l = fermat g (suc n) hg e t k (le_of_suc-le-suc l)
