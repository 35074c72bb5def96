-- Rows, element by element. Assumes nothing.
use mathlib.Core.Path.{◌≡◌, ◌∙◌, sym, ap, ap₂, refl}
use mathlib.Core.List.{List, [], ◌∷◌, map}
use Prim.Native.Nat.{ℕ, zero, suc, ◌<◌, ◌+◌, ◌*◌}
use native.Mathlib.Omega.{arith}
use native.Mathlib.Nat.{zero-mul}
use lib.ListN.{length, take, drop, get_or}
use lib.Seq.{drop-drop, drop-cons, take_all}
use Rattle.algebra.specs.Field.{Ops, Laws}
use Rattle.shamir.specs.Lists.{All, Below}
use Rattle.shamir.specs.Polynomial.{value}
use Rattle.shamir.specs.Rows.{row, column}
use Rattle.shamir.proofs.Polynomial.{value-zero}

module _ (F : Ops) (k x : ℕ) where
  pub length-row : (ss cs : List ℕ) → length (row F k x ss cs) ≡ length ss
  length-row [] cs = refl
  length-row (s ∷ ss) cs = ap suc (length-row ss (drop k cs))

  pub row_at : (i : ℕ) (ss cs : List ℕ) → i < length ss → get_or (row F k x ss cs) i 0 ≡ value F (get_or ss i 0 ∷ take k (drop (i * k) cs)) x
  row_at i [] cs h = absurd (omega arith)
  row_at zero (s ∷ ss) cs h = ap (λ n. value F (s ∷ take k (drop n cs)) x) (sym (zero-mul k))
  row_at (suc i) (s ∷ ss) cs h =
      let n : k + i * k ≡ suc i * k = omega arith in
      row_at i ss (drop k cs) (omega arith) ∙ ap (λ l. value F (get_or ss i 0 ∷ take k l) x) (drop-drop (i * k) k cs ∙ ap (λ n. drop n cs) n)

pub row_zero : {F : Ops} (L : Laws F) (k : ℕ) (ss cs : List ℕ) → row F k 0 ss cs ≡ ss
row_zero L k [] cs = refl
row_zero L k (s ∷ ss) cs = ap₂ ◌∷◌ (value-zero L s (take k cs)) (row_zero L k ss (drop k cs))

-- rows of l + 1 elements, from their first elements and the rest
module _ (f : ℕ → ℕ) (g : ℕ → List ℕ) (n l : ℕ) where
  pub rows-cons : (xs : List ℕ) (rows : List (List ℕ)) → All (λ r. (length r ≡ suc l) × Below n r) rows → map f xs ≡ column 0 rows → map g xs ≡ map (drop 1) rows
      → map (λ x. f x ∷ g x) xs ≡ rows
  rows-cons [] [] h p q = refl
  rows-cons [] (r ∷ rows) h p q = absurd (let z : ◌≡◌ {A = ℕ} 0 1 = cc in omega arith)
  rows-cons (x ∷ xs) [] h p q = absurd (let z : ◌≡◌ {A = ℕ} 0 1 = cc in omega arith)
  rows-cons (x ∷ xs) (r ∷ rows) h p q =
      let p₀ : f x ≡ get_or r 0 0 = cc in
      let q₀ : g x ≡ drop 1 r = cc in
      let p₁ : map f xs ≡ column 0 rows = cc in
      let q₁ : map g xs ≡ map (drop 1) rows = cc in
      ap₂ ◌∷◌ (ap₂ ◌∷◌ p₀ q₀ ∙ sym (drop-cons r 0 0 (omega (arith, h.0.0)))) (rows-cons xs rows h.1 p₁ q₁)

pub rows-nil : (n : ℕ) (xs : List ℕ) (rows : List (List ℕ)) → length rows ≡ length xs → All (λ r. (length r ≡ 0) × Below n r) rows → map (λ (x : ℕ). []) xs ≡ rows
rows-nil n [] [] l h = refl
rows-nil n [] (r ∷ rows) l h = absurd (omega arith)
rows-nil n (x ∷ xs) [] l h = absurd (omega arith)
rows-nil n (x ∷ xs) (r ∷ rows) l h = ap₂ ◌∷◌ (take_all 0 r (omega (arith, h.0.0))) (rows-nil n xs rows (omega arith) h.1)
