-- The sum of polynomials: `simp xor` proves the equations of a commutative group in which each element is its own inverse.
-- Assumes nothing.
use mathlib.Core.Path.{◌≡◌, refl, sym, ap₂, ◌∙◌}
use Prim.Native.Nat.{ℕ, ◌+◌, ◌*◌, ◌/◌, ◌%◌}
use native.Mathlib.Nat.{add-zero, mod-lt, div-add-mod'}
use lib.Arith.{bin_ind}
use lib.Bits.{bit_xor, xor_block, xor_shr, xor_mod, xor_shifted, xor_self, xor_zero_l, xor_zero_r, xor_comm}
use Rattle.poly2.proofs.Digits.{two_pos, odd}

infixl 60 ◌⊕◌
abbrev pub ◌⊕◌ : ℕ → ℕ → ℕ
◌⊕◌ = bit_xor

by_digits : {a b : ℕ} → a / 2 ≡ b / 2 → a % 2 ≡ b % 2 → a ≡ b
by_digits {a} {b} p q = sym (div-add-mod' a 2) ∙ ap₂ (λ x y. x * 2 + y) p q ∙ div-add-mod' b 2

pub xor_half : (a b : ℕ) → (a ⊕ b) / 2 ≡ a / 2 ⊕ b / 2
xor_half a b = xor_shr a b 1

pub xor_odd : (a b : ℕ) → (a ⊕ b) % 2 ≡ a % 2 ⊕ b % 2
xor_odd a b = xor_mod a b 1

pub xor_assoc : (a b c : ℕ) → a ⊕ b ⊕ c ≡ a ⊕ (b ⊕ c)
xor_assoc =
    bin_ind (λ a. (b c : ℕ) → a ⊕ b ⊕ c ≡ a ⊕ (b ⊕ c)) (λ b c. refl)
    (λ a ih b c. by_digits (simp (xor_half, ih)) (simp xor_odd
    (odd (λ x. x ⊕ b % 2 ⊕ c % 2 ≡ x ⊕ (b % 2 ⊕ c % 2)) refl
    (odd (λ y. 1 ⊕ y ⊕ c % 2 ≡ 1 ⊕ (y ⊕ c % 2)) refl (odd (λ z. 1 ⊕ 1 ⊕ z ≡ 1 ⊕ (1 ⊕ z)) refl refl c) b) a)))

pub xor_left_comm : (a b c : ℕ) → a ⊕ (b ⊕ c) ≡ b ⊕ (a ⊕ c)
xor_left_comm a b c = rw (← xor_assoc a b c, xor_comm a b, xor_assoc b a c)

pub xor_self_left : (a b : ℕ) → a ⊕ (a ⊕ b) ≡ b
xor_self_left a b = rw (← xor_assoc a a b, xor_self, xor_zero_l)

pub ruleset xor = (xor_comm, xor_assoc, xor_left_comm, xor_self, xor_self_left, xor_zero_l, xor_zero_r)

pub xor-double : (a b : ℕ) → (a ⊕ b) * 2 ≡ a * 2 ⊕ b * 2
xor-double a b = sym (simp add-zero at (xor_block 1 a b 0 0 two_pos two_pos))

-- a number is its last digit beside the others
pub joined : (a : ℕ) → a / 2 * 2 ⊕ a % 2 ≡ a
joined a = xor_shifted (a / 2) 1 (a % 2) (mod-lt a two_pos) ∙ div-add-mod' a 2
