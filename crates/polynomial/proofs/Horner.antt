-- Horner's rule on many polynomials at once, a degree at a time. Assumes nothing.
use mathlib.Core.Path.{◌≡◌, ◌∙◌, sym, ap, ap₂, refl}
use mathlib.Core.List.{List, ◌∷◌, ◌++◌}
use Prim.Native.Nat.{ℕ, suc, ◌+◌, ◌-◌, ◌*◌, ◌<◌, ◌≤◌}
use native.Mathlib.Omega.{arith}
use native.Mathlib.Nat.{suc-mul, mul-le-mul_right}
use lib.Bits.{bit_xor}
use lib.ListN.{length, take, drop, get_or, length-drop, drop_of_length-le}
use lib.Seq.{drop-cons, get_or-drop, get_or-take, length-take-le, take_at}
use Rattle.shamir.specs.Polynomial.{horner}
use Rattle.shamir.specs.Rows.{row}
use Rattle.shamir.proofs.Polynomial.{horner_is_value}
use Rattle.shamir.proofs.Rows.{length-row, row_at}
use Rattle.gf256.specs.Field256.{mul256, gf256}
use Rattle.gf256.proofs.Field256.{laws256, ring256, field256}
use Rattle.strides.specs.Strides.{strided}
use Rattle.strides.proofs.Strides.{length-strided, strided_at}
use Rattle.polynomial.specs.Steps.{each, horner_step, block_size}
use Rattle.polynomial.proofs.Each.{length-each, each_at, each_same, each_of}

-- run i of runs of k coefficients
abbrev run : ℕ → ℕ → List ℕ → List ℕ
run k i cs = take k (drop (i * k) cs)

strided-each : (k j n : ℕ) (cs : List ℕ) → strided k j n cs ≡ each n (λ i. get_or cs (i * k + j) 0)
strided-each k j n cs =
    each_of (strided k j n cs) (λ i. get_or cs (i * k + j) 0) (λ i h. sym (strided_at k j n cs i (i * k + j) (omega (arith, length-strided k j n cs)) refl))
    ∙ ap (λ m. each m (λ i. get_or cs (i * k + j) 0)) (length-strided k j n cs)

-- of each of n runs the value at x of its coefficients from place j on: what Horner's rule has after its steps down to j
abbrev pub partial : ℕ → ℕ → ℕ → ℕ → List ℕ → List ℕ
partial k x j n cs = each n (λ i. horner gf256 (drop j (run k i cs)) x)

module _ (k x j n : ℕ) (cs : List ℕ) (below : j < k) (enough : n * k ≤ length cs) where
  length_run : (i : ℕ) → i < n → length (run k i cs) ≡ k
  length_run i h = length-take-le k (drop (i * k) cs) (omega (arith, length-drop (i * k) cs, mul-le-mul_right k h, suc-mul i k))

  horner_next : (i : ℕ) → i < n → horner gf256 (drop j (run k i cs)) x ≡ bit_xor (get_or cs (i * k + j) 0) (mul256 x (horner gf256 (drop (suc j) (run k i cs)) x))
  horner_next i h =
      ap (λ l. horner gf256 l x) (drop-cons (run k i cs) j 0 (omega (arith, length_run i h)))
      ∙ ap (λ c. bit_xor c (mul256 x (horner gf256 (drop (suc j) (run k i cs)) x))) (get_or-take k (drop (i * k) cs) j 0 below ∙ get_or-drop (i * k) cs j 0)

  -- the top coefficients are the first values
  pub partial_top : suc j ≡ k → strided k j n cs ≡ partial k x j n cs
  partial_top e = strided-each k j n cs ∙ each_same n _ _ (λ i h.
      let z : mul256 x (horner gf256 (drop (suc j) (run k i cs)) x) ≡ 0 =
      ap (λ p. mul256 x (horner gf256 p x)) (drop_of_length-le (run k i cs) {i = suc j} (omega (arith, length_run i h))) ∙ ring256.mul_comm x 0 ∙ field256.zero_has_none x in
      sym (horner_next i h ∙ ap (bit_xor (get_or cs (i * k + j) 0)) z ∙ ring256.add-zero (get_or cs (i * k + j) 0)))

swap : (v x c : ℕ) → bit_xor (mul256 v x) c ≡ bit_xor c (mul256 x v)
swap v x c = ring256.add_comm (mul256 v x) c ∙ ap (bit_xor c) (ring256.mul_comm v x)

-- a step on values that are given number by number
step_each : (x n : ℕ) (f g : ℕ → ℕ) (cs : List ℕ) → ((i : ℕ) → i < n → bit_xor (get_or cs i 0) (mul256 x (f i)) ≡ g i) → horner_step x (each n f) cs ≡ each n g
step_each x n f g cs s =
    ap (λ m. each m (λ i. bit_xor (mul256 (get_or (each n f) i 0) x) (get_or cs i 0))) (length-each n f)
    ∙ each_same n _ g (λ i h. ap (λ v. bit_xor (mul256 v x) (get_or cs i 0)) (each_at n f i h) ∙ swap (f i) x (get_or cs i 0) ∙ s i h)

-- one degree lower
partial_step : (k x j n : ℕ) (cs : List ℕ) → j < k → n * k ≤ length cs → horner_step x (partial k x (suc j) n cs) (strided k j n cs) ≡ partial k x j n cs
partial_step k x j n cs below enough = step_each x n _ _ (strided k j n cs) (λ i h.
    ap (λ c. bit_xor c (mul256 x (horner gf256 (drop (suc j) (run k i cs)) x))) (sym (strided_at k j n cs i (i * k + j) h refl)) ∙ sym (horner_next k x j n cs below enough i h))

-- the secret last
pub partial_last : (k x : ℕ) (ss cs : List ℕ) → x < 256 → horner_step x (partial k x 0 (length ss) cs) ss ≡ row gf256 k x ss cs
partial_last k x ss cs small =
    step_each x (length ss) _ _ ss (λ i h. horner_is_value laws256 (get_or ss i 0 ∷ run k i cs) x small ∙ sym (row_at gf256 k x i ss cs h))
    ∙ ap (λ n. each n (λ i. get_or (row gf256 k x ss cs) i 0)) (sym (length-row gf256 k x ss cs))
    ∙ sym (each_of (row gf256 k x ss cs) _ (λ i h. refl))

-- the front of a column that w coefficients are gathered into
front : (w : ℕ) (column : List ℕ) → length column ≡ block_size → w ≤ block_size → length (take w column) ≡ w
front w column h n = length-take-le w column (omega arith)

-- a turn: the next degree is gathered, and a step is made with it
pub turn : (ss cs vs column g : List ℕ) (k x j : ℕ) → 0 < j → j < k → length ss * k ≤ length cs → length column ≡ block_size → length ss ≤ block_size
    → vs ≡ partial k x j (length ss) cs → g ≡ strided k (j - 1) (length (take (length ss) column)) cs
    → horner_step x vs (take (length ss) (g ++ drop (length ss) column)) ≡ partial k x (j - 1) (length ss) cs
turn ss cs vs column g k x j p h enough lc n ev eg =
    let e : j ≡ suc (j - 1) = omega arith in
    let eg' : g ≡ strided k (j - 1) (length ss) cs = eg ∙ ap (λ m. strided k (j - 1) m cs) (front (length ss) column lc n) in
    ap₂ (horner_step x) (ev ∙ ap (λ i. partial k x i (length ss) cs) e) (take_at g _ (length ss) (ap length eg' ∙ length-strided k (j - 1) (length ss) cs) ∙ eg')
    ∙ partial_step k x (j - 1) (length ss) cs (omega arith) enough
