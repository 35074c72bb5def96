-- The product of polynomials: with the sum a commutative ring on all numbers.
-- Assumes nothing.
use mathlib.Core.Path.{◌≡◌, refl, sym, ap, ap₂, ◌∙◌}
use Prim.Native.Nat.{ℕ, zero, suc, ◌+◌, ◌*◌, ◌/◌, ◌%◌, ◌^◌}
use native.Mathlib.Nat.{zero-mul, one-mul, mul-one, mul_assoc, zero-add, suc-add, pow-suc, mul-div_cancel, mul-mod_left}
use lib.Arith.{bin_ind}
use lib.Bits.{bit_xor, xor_zero_l, xor_zero_r, xor_self, xor_comm}
use Rattle.poly2.specs.Poly2.{clmul}
use Rattle.poly2.specs.Laws.{ProductLaws}
use Rattle.poly2.proofs.Digits.{two_pos, odd, fold_step}
use Rattle.poly2.proofs.Sum.{◌⊕◌, xor, xor_half, xor_odd, xor-double, joined}

infixl 70 ◌⊗◌
abbrev pub ◌⊗◌ : ℕ → ℕ → ℕ
◌⊗◌ = clmul

pub zero-clmul : (b : ℕ) → 0 ⊗ b ≡ 0
unfolding clmul
zero-clmul b = refl

pub one-clmul : (b : ℕ) → 1 ⊗ b ≡ b
unfolding clmul
one-clmul b = ap (λ x. bit_xor x 0) (one-mul b) ∙ xor_zero_r b

pub clmul_step : (a b : ℕ) → a ⊗ b ≡ a % 2 * b ⊕ (a / 2 ⊗ b) * 2
unfolding clmul
clmul_step a b = fold_step (λ s d. bit_xor (d * b) (s * 2)) (ap (λ x. bit_xor x 0) (zero-mul b)) a

bit_times : (a b c : ℕ) → (a % 2 ⊕ b % 2) * c ≡ a % 2 * c ⊕ b % 2 * c
bit_times a b c =
    odd (λ x. (x ⊕ b % 2) * c ≡ x * c ⊕ b % 2 * c) (simp zero-mul)
    (odd (λ y. (1 ⊕ y) * c ≡ 1 * c ⊕ y * c) (simp (zero-mul, xor_zero_r)) (simp (zero-mul, xor_self)) b) a

times_xor : (a b c : ℕ) → a % 2 * (b ⊕ c) ≡ a % 2 * b ⊕ a % 2 * c
times_xor a b c = odd (λ x. x * (b ⊕ c) ≡ x * b ⊕ x * c) (simp zero-mul) (simp one-mul) a

swap : (a b c d : ℕ) → a ⊕ b ⊕ (c ⊕ d) ≡ a ⊕ c ⊕ (b ⊕ d)
swap a b c d = simp xor

pub xor-clmul : (a b c : ℕ) → (a ⊕ b) ⊗ c ≡ a ⊗ c ⊕ b ⊗ c
xor-clmul a b c =
    bin_ind (λ a. (b : ℕ) → (a ⊕ b) ⊗ c ≡ a ⊗ c ⊕ b ⊗ c) (λ b. simp (xor_zero_l, zero-clmul))
    (λ a ih b. clmul_step (a ⊕ b) c ∙ simp (xor_odd, xor_half, ih, bit_times, xor-double)
    (swap (a % 2 * c) (b % 2 * c) (a / 2 ⊗ c * 2) (b / 2 ⊗ c * 2) ∙ sym (ap₂ ◌⊕◌ (clmul_step a c) (clmul_step b c)))) a b

pub clmul-xor : (a b c : ℕ) → a ⊗ (b ⊕ c) ≡ a ⊗ b ⊕ a ⊗ c
clmul-xor a b c =
    bin_ind (λ a. a ⊗ (b ⊕ c) ≡ a ⊗ b ⊕ a ⊗ c) (simp (xor_zero_l, zero-clmul))
    (λ a ih. clmul_step a (b ⊕ c) ∙ simp (ih, times_xor, xor-double)
    (swap (a % 2 * b) (a % 2 * c) (a / 2 ⊗ b * 2) (a / 2 ⊗ c * 2) ∙ sym (ap₂ ◌⊕◌ (clmul_step a b) (clmul_step a c)))) a

pub double-clmul : (a b : ℕ) → a * 2 ⊗ b ≡ a ⊗ b * 2
double-clmul a b = clmul_step (a * 2) b ∙ simp (mul-div_cancel a two_pos, mul-mod_left, zero-mul, xor_zero_l)

pub clmul-double : (a b : ℕ) → a ⊗ (b * 2) ≡ a ⊗ b * 2
clmul-double a b =
    bin_ind (λ a. a ⊗ (b * 2) ≡ a ⊗ b * 2) (simp (zero-clmul, zero-mul))
    (λ a ih. clmul_step a (b * 2) ∙ rw (ih, ← mul_assoc (a % 2) b 2, ← xor-double (a % 2 * b) (a / 2 ⊗ b * 2), ← clmul_step a b)) a

pub clmul-zero : (a : ℕ) → a ⊗ 0 ≡ 0
clmul-zero = bin_ind (λ a. a ⊗ 0 ≡ 0) (zero-clmul 0) (λ a ih. clmul_step a 0 ∙ rw ih (odd (λ x. x * 0 ⊕ 0 ≡ 0) refl refl a))

clmul-one : (a : ℕ) → a ⊗ 1 ≡ a
clmul-one =
    bin_ind (λ a. a ⊗ 1 ≡ a) (zero-clmul 1)
    (λ a ih. clmul_step a 1 ∙ ap₂ (λ x y. x ⊕ y * 2) (mul-one (a % 2)) ih ∙ xor_comm (a % 2) (a / 2 * 2) ∙ joined a)

clmul_bit : (a b : ℕ) → b ⊗ (a % 2) ≡ a % 2 * b
clmul_bit a b = odd (λ x. b ⊗ x ≡ x * b) (clmul-zero b ∙ sym (zero-mul b)) (clmul-one b ∙ sym (one-mul b)) a

pub clmul_comm : (a b : ℕ) → a ⊗ b ≡ b ⊗ a
clmul_comm a b =
    bin_ind (λ a. a ⊗ b ≡ b ⊗ a) (zero-clmul b ∙ sym (clmul-zero b))
    (λ a ih. clmul_step a b ∙ rw (ih, ← clmul_bit a b, ← clmul-double b (a / 2), ← clmul-xor b (a % 2) (a / 2 * 2))
    (ap (b ⊗◌) (xor_comm (a % 2) (a / 2 * 2) ∙ joined a))) a

bit_clmul : (a b c : ℕ) → a % 2 * b ⊗ c ≡ a % 2 * (b ⊗ c)
bit_clmul a b c = odd (λ x. x * b ⊗ c ≡ x * (b ⊗ c)) (simp (zero-mul, zero-clmul)) (simp one-mul) a

pub clmul_assoc : (a b c : ℕ) → a ⊗ b ⊗ c ≡ a ⊗ (b ⊗ c)
clmul_assoc a b c =
    bin_ind (λ a. a ⊗ b ⊗ c ≡ a ⊗ (b ⊗ c)) (simp zero-clmul)
    (λ a ih. ap (◌⊗ c) (clmul_step a b) ∙ simp (xor-clmul, bit_clmul, double-clmul, ih) (sym (clmul_step a (b ⊗ c)))) a

pow-clmul : (i j : ℕ) → 2 ^ i ⊗ 2 ^ j ≡ 2 ^ (i + j)
pow-clmul zero j = one-clmul (2 ^ j) ∙ ap (2 ^◌) (sym (zero-add j))
pow-clmul (suc i) j =
    ap (◌⊗ 2 ^ j) (pow-suc 2 i) ∙ double-clmul (2 ^ i) (2 ^ j) ∙ ap (◌* 2) (pow-clmul i j)
    ∙ sym (pow-suc 2 (i + j)) ∙ ap (2 ^◌) (sym (suc-add i j))

pub product_laws : ProductLaws
product_laws = record {
  powers = pow-clmul;
  distributes = clmul-xor;
  commutes = clmul_comm;
  associates = clmul_assoc;
  unit = clmul-one;
}
