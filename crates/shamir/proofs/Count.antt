-- Counting: what corresponds one to one, pairs, lists. Assumes nothing.
use mathlib.Core.Path.{◌≡◌, ◌∙◌, sym, ap, ap₂, refl, subst}
use mathlib.Core.List.{List, [], ◌∷◌}
use Prim.Native.Nat.{ℕ, zero, suc, ◌<◌, ◌+◌, ◌*◌, ◌^◌, ◌/◌, ◌%◌}
use native.Mathlib.Nat.{mod-lt, mod-add-div', mod-eq_of_lt, div-eq_of_lt, add-mul-mod_self_right, add-mul-div_right, div-lt_iff_lt-mul, pow-suc, pow-zero, zero-add, mul-le-mul_right}
use native.Mathlib.Omega.{arith}
use lib.ListN.{length, get_or, drop}
use lib.Seq.{take_all, drop-cons}
use Rattle.shamir.specs.Lists.{Below}
use Rattle.shamir.specs.Count.{Unique, Exactly}

module _ {A : Type 0} {P : A → Type 0} where
  pub unique : {n : ℕ} → n ≡ 1 → Exactly n P → Unique P
  unique {n} z e = record { the = e.nth 0; has = e.has 0 (omega arith); only = λ a h. sym (zeroth (e.all a h)) }
    where
      zeroth : {a : A} → (i : ℕ) × (i < n) × (e.nth i ≡ a) → e.nth 0 ≡ a
      zeroth {a} t = let z : 0 ≡ t.0 = omega arith in ap e.nth z ∙ t.2

  pub single : {n : ℕ} → n ≡ 1 → Unique P → Exactly n P
  single z u = record {
    nth = λ i. u.the;
    has = λ i h. u.has;
    once = λ i j hi hj e. omega arith;
    all = λ a h. (0, omega arith, sym (u.only a h));
  }

module _ {A B : Type 0} {P : A → Type 0} {Q : B → Type 0} where
  -- a property has as many as one that it corresponds to, one to one
  pub carry : {n : ℕ} → Exactly n P → (f : A → B) (g : B → A)
      → ((a : A) → P a → Q (f a)) → ((a : A) → P a → g (f a) ≡ a) → ((b : B) → Q b → P (g b)) → ((b : B) → Q b → f (g b) ≡ b) → Exactly n Q
  carry e f g pf gf pg fg = record {
    nth = λ i. f (e.nth i);
    has = λ i h. pf (e.nth i) (e.has i h);
    once = λ i j hi hj q. e.once i j hi hj (sym (gf (e.nth i) (e.has i hi)) ∙ ap g q ∙ gf (e.nth j) (e.has j hj));
    all = λ b h. let t = e.all (g b) (pg b h) in (t.0, t.1, ap f t.2 ∙ fg b h);
  }

  -- pairs: as many as the product; number i has the places i % n and i / n
  pub pairs : {m n : ℕ} → Exactly n P → Exactly m Q → Exactly (m * n) (λ (t : A × B). P t.0 × Q t.1)
  pairs {m} {n} e f = record {
    nth = λ i. (e.nth (i % n), f.nth (i / n));
    has = λ i h. (e.has (i % n) (low i h), f.has (i / n) (high i h));
    once = λ i j hi hj q.
        let a : i % n ≡ j % n = e.once _ _ (low i hi) (low j hj) (ap (λ t. t.0) q) in
        let b : i / n ≡ j / n = f.once _ _ (high i hi) (high j hj) (ap (λ t. t.1) q) in
        sym (mod-add-div' i n) ∙ ap₂ (λ u v. u + v * n) a b ∙ mod-add-div' j n;
    all = λ t h.
        let a = e.all t.0 h.0 in
        let b = f.all t.1 h.1 in
        let i = a.0 in
        let j = b.0 in (
          i + j * n,
          omega (arith, a.1, mul-le-mul_right n b.1),
          λ d. (
            (ap e.nth (add-mul-mod_self_right i j n ∙ mod-eq_of_lt a.1) ∙ a.2) d,
            (ap f.nth (add-mul-div_right i j (omega (arith, a.1)) ∙ ap (◌+ j) (div-eq_of_lt a.1) ∙ zero-add j) ∙ b.2) d,
          ),
        );
  }
    where
      positive : (k i : ℕ) → i < m * k → 0 < k
      positive zero i h = absurd (omega arith)
      positive (suc k) i h = omega arith

      low : (i : ℕ) → i < m * n → i % n < n
      low i h = mod-lt i (positive n i h)

      high : (i : ℕ) → i < m * n → i / n < m
      high i h = (div-lt_iff_lt-mul (positive n i h)).1 h

pub uncons : (b m : ℕ) (l : List ℕ) → (length l ≡ suc m) × Below b l → (get_or l 0 0 < b) × ((length (drop 1 l) ≡ m) × Below b (drop 1 l))
uncons b m [] h = absurd (omega arith)
uncons b m (c ∷ l) h = (h.1.0, (omega arith, h.1.1))

-- the lists of m numbers below b
pub lists : (b m : ℕ) → Exactly (b ^ m) (λ (l : List ℕ). (length l ≡ m) × Below b l)
lists b zero = single (pow-zero b) (record { the = []; has = (refl, tt); only = λ l h. sym (take_all 0 l (omega arith)) })
lists b (suc m) =
    let numbers : Exactly b (◌< b) = record { nth = λ i. i; has = λ i h. h; once = λ i j hi hj e. e; all = λ i h. (i, h, refl) } in
    subst (λ n. Exactly n (λ (l : List ℕ). (length l ≡ suc m) × Below b l)) (sym (pow-suc b m))
    (carry (pairs numbers (lists b m)) (λ t. t.0 ∷ t.1) (λ l. (get_or l 0 0, drop 1 l))
    (λ t h. (ap suc h.1.0, (h.0, h.1.1)))
    (λ t h. refl)
    (uncons b m)
    (λ l h. sym (drop-cons l 0 0 (omega arith))))
