-- The remainder by a polynomial m: it keeps sums and, where m has degree w, products; and it is the only remainder.
-- Assumes nothing.
use mathlib.Core.Path.{◌≡◌, refl, sym, ap, ap₂, ◌∙◌, subst}
use Prim.Native.Nat.{ℕ, ◌+◌, ◌*◌, ◌/◌, ◌%◌, ◌^◌, ◌<◌}
use native.Mathlib.Nat.{le_refl, zero-lt-suc, zero-mul, one-mul, mul_comm, add-zero, zero-div, mod-lt, div-add-mod', div-le_self, div-eq_of_lt, div-lt_iff_lt-mul, mul-div_cancel, mul-mod_left, lt_of_le_of_lt}
use lib.Arith.{bin_ind, digits_lt}
use lib.Pow.{pow_pos}
use lib.Bits.{xor_shr, xor_shifted, xor_self, xor_zero_l}
use Rattle.poly2.specs.Poly2.{reduce, rem, mul_mod}
use Rattle.poly2.specs.Laws.{Monic, RemainderLaws, ModularLaws}
use Rattle.poly2.proofs.Digits.{two_pos, by_bit, odd, fold_step}
use Rattle.poly2.proofs.Sum.{◌⊕◌, xor, xor_half, xor_odd, xor-double, joined}
use Rattle.poly2.proofs.Product.{◌⊗◌, zero-clmul, one-clmul, clmul_step, xor-clmul, clmul-xor, double-clmul, clmul-double, clmul-zero, clmul_comm, clmul_assoc, product_laws}

module _ (w m : ℕ) where
  reduce-xor : (s t : ℕ) → reduce w m (s ⊕ t) ≡ reduce w m s ⊕ reduce w m t
  unfolding reduce
  reduce-xor s t = simp (xor_shr, xor-clmul, xor)

  reduce-small : (t : ℕ) → t < 2 ^ w → reduce w m t ≡ t
  unfolding reduce
  reduce-small t h = ap (λ q. q ⊗ m ⊕ t) (div-eq_of_lt h) ∙ simp (zero-clmul, xor_zero_l)

  rem-zero : rem w m 0 ≡ 0
  unfolding rem
  rem-zero = refl

  rem_at : (a : ℕ) → rem w m a ≡ reduce w m (rem w m (a / 2) * 2 + a % 2)
  unfolding rem
  rem_at = fold_step (λ s d. reduce w m (s * 2 + d)) (reduce-small 0 (pow_pos w))

  rem_step : (a : ℕ) → rem w m a ≡ reduce w m (rem w m (a / 2) * 2 ⊕ a % 2)
  rem_step a = rem_at a ∙ ap (reduce w m) (sym (xor_shifted (rem w m (a / 2)) 1 (a % 2) (mod-lt a two_pos)))

  pub rem-xor : (a b : ℕ) → rem w m (a ⊕ b) ≡ rem w m a ⊕ rem w m b
  rem-xor =
      bin_ind (λ a. (b : ℕ) → rem w m (a ⊕ b) ≡ rem w m a ⊕ rem w m b) (λ b. simp (rem-zero, xor_zero_l))
      (λ a ih b. rem_step (a ⊕ b) ∙ simp (xor_half, xor_odd, ih, xor-double, reduce-xor, xor)
      (sym (ap₂ ◌⊕◌ (rem_step a) (rem_step b) ∙ simp (reduce-xor, xor))))

  pub rem-small : (a : ℕ) → a < 2 ^ w → rem w m a ≡ a
  rem-small =
      bin_ind (λ a. a < 2 ^ w → rem w m a ≡ a) (λ h. rem-zero)
      (λ a ih h. rem_at a ∙ rw (ih (lt_of_le_of_lt (div-le_self a 2) h), div-add-mod' a 2) (reduce-small a h))

  rem-double : (a : ℕ) → rem w m (a * 2) ≡ reduce w m (rem w m a * 2)
  rem-double a = rem_at (a * 2) ∙ simp (mul-div_cancel a two_pos, mul-mod_left, add-zero)

  rem-clmul_step : (a b : ℕ) → rem w m (a ⊗ b) ≡ rem w m (a % 2 * b) ⊕ reduce w m (rem w m (a / 2 ⊗ b) * 2)
  rem-clmul_step a b =
      ap (rem w m) (clmul_step a b) ∙ rem-xor (a % 2 * b) (a / 2 ⊗ b * 2) ∙ ap (rem w m (a % 2 * b) ⊕◌) (rem-double (a / 2 ⊗ b))

  module _ (monic : Monic w m) where
    -- the multiple of m that a step takes away has its digit at place w
    top : (q : ℕ) → q < 2 → (q ⊗ m) / 2 ^ w ≡ q
    top =
        by_bit (λ q. (q ⊗ m) / 2 ^ w ≡ q) (ap (◌/ 2 ^ w) (zero-clmul m) ∙ zero-div (2 ^ w)) (ap (◌/ 2 ^ w) (one-clmul m) ∙ monic)

    reduce-lt : (t : ℕ) → t < 2 ^ w * 2 → reduce w m t < 2 ^ w
    unfolding reduce
    reduce-lt t h =
        let q : ℕ = t / 2 ^ w in
        let hq : q < 2 = (div-lt_iff_lt-mul (pow_pos w)).1 (rw mul_comm at h) in
        let e : (q ⊗ m ⊕ t) / 2 ^ w ≡ 0 = xor_shr (q ⊗ m) t w ∙ ap (◌⊕ q) (top q hq) ∙ xor_self q in
        rw one-mul at ((div-lt_iff_lt-mul {y = 1} (pow_pos w)).0 (subst (◌< 1) (sym e) (zero-lt-suc 0)))

    pub rem_lt : (a : ℕ) → rem w m a < 2 ^ w
    rem_lt =
        bin_ind (λ a. rem w m a < 2 ^ w) (rw rem-zero (pow_pos w))
        (λ a ih. subst (◌< 2 ^ w) (sym (rem_at a)) (reduce-lt (rem w m (a / 2) * 2 + a % 2) (digits_lt ih (mod-lt a two_pos))))

    rem-rem : (a : ℕ) → rem w m (rem w m a) ≡ rem w m a
    rem-rem a = rem-small (rem w m a) (rem_lt a)

    -- a factor may be reduced first
    rem-clmul : (a b : ℕ) → rem w m (a ⊗ rem w m b) ≡ rem w m (a ⊗ b)
    rem-clmul a b =
        bin_ind (λ a. rem w m (a ⊗ rem w m b) ≡ rem w m (a ⊗ b)) (simp zero-clmul)
        (λ a ih. rem-clmul_step a (rem w m b)
        ∙ ap₂ (λ x y. x ⊕ reduce w m (y * 2)) (odd (λ x. rem w m (x * rem w m b) ≡ rem w m (x * b)) (simp zero-mul) (simp one-mul (rem-rem b)) a) ih
        ∙ sym (rem-clmul_step a b)) a

    -- q is built beside the remainder: twice the one before, and what the step takes away
    divides : (a : ℕ) → (q : ℕ) × (a ≡ q ⊗ m ⊕ rem w m a)
    unfolding reduce
    divides =
        bin_ind (λ a. (q : ℕ) × (a ≡ q ⊗ m ⊕ rem w m a)) (0, sym (simp (zero-clmul, rem-zero)))
        (λ a ih. let r : ℕ = rem w m (a / 2) in
        let t : ℕ = r * 2 ⊕ a % 2 in (
          ih.0 * 2 ⊕ t / 2 ^ w,
          sym (joined a) ∙ ap (λ x. x * 2 ⊕ a % 2) ih.1
              ∙ sym (ap ((ih.0 * 2 ⊕ t / 2 ^ w) ⊗ m ⊕◌) (rem_step a) ∙ regroup ih.0 r (a % 2) (t / 2 ^ w)),
        ))
      where
        regroup : (q r d s : ℕ) → (q * 2 ⊕ s) ⊗ m ⊕ (s ⊗ m ⊕ (r * 2 ⊕ d)) ≡ (q ⊗ m ⊕ r) * 2 ⊕ d
        regroup q r d s = simp (xor-clmul, double-clmul, xor-double, xor)

    rem_self : rem w m m ≡ 0
    unfolding reduce
    rem_self =
        let low : m < 2 * 2 ^ w = (div-lt_iff_lt-mul (pow_pos w)).0 (subst (◌< 2) (sym monic) (le_refl 2)) in
        rem_at m
        ∙ rw (rem-small (m / 2) ((div-lt_iff_lt-mul two_pos).1 (rw mul_comm at low)), div-add-mod' m 2, monic, one-clmul m) (xor_self m)

    only : (q r : ℕ) → r < 2 ^ w → rem w m (q ⊗ m ⊕ r) ≡ r
    only q r h =
        let e : rem w m (q ⊗ m) ≡ 0 = sym (rem-clmul q m) ∙ rw (rem_self, clmul-zero q) rem-zero in
        rem-xor (q ⊗ m) r ∙ ap₂ ◌⊕◌ e (rem-small r h) ∙ xor_zero_l r

    pub remainder_laws : RemainderLaws w m monic
    remainder_laws = record { divides = divides; small = rem_lt; only = only }

    pub modular_laws : ModularLaws w m monic
    unfolding mul_mod
    modular_laws = record {
      small = λ a b. rem_lt (a ⊗ b);
      distributes = λ a b c. ap (rem w m) (clmul-xor a b c) ∙ rem-xor (a ⊗ b) (a ⊗ c);
      commutes = λ a b. ap (rem w m) (clmul_comm a b);
      associates = λ a b c.
          ap (rem w m) (clmul_comm (rem w m (a ⊗ b)) c) ∙ rem-clmul c (a ⊗ b)
          ∙ ap (rem w m) (clmul_comm c (a ⊗ b) ∙ clmul_assoc a b c) ∙ sym (rem-clmul a (b ⊗ c));
      unit = λ a h. ap (rem w m) (product_laws.unit a) ∙ rem-small a h;
    }

    -- the product from the last digit of its first factor: what a loop through the digits, lowest first, keeps
    pub mul_mod_last : (a b : ℕ) → b < 2 ^ w → mul_mod w m a b ≡ a % 2 * b ⊕ mul_mod w m (a / 2) (reduce w m (b * 2))
    unfolding mul_mod
    mul_mod_last a b h =
        rem-clmul_step a b
        ∙ ap₂ ◌⊕◌
        (odd (λ x. rem w m (x * b) ≡ x * b) (rw zero-mul rem-zero) (rw one-mul (rem-small b h)) a)
        (sym (rem-double (a / 2 ⊗ b)) ∙ ap (rem w m) (sym (clmul-double (a / 2) b)) ∙ sym (rem-clmul (a / 2) (b * 2))
        ∙ ap (λ x. rem w m (a / 2 ⊗ x)) (rem-double b ∙ ap (λ x. reduce w m (x * 2)) (rem-small b h)))
