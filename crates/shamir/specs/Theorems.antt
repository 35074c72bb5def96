-- What proofs/Theorems.antt proves of Shamir's sharing over every field of characteristic 2: operations F, laws L. Assumes nothing.
use Rattle.std.specs.Prelude.{◌≡◌, List, ◌∷◌, map, ℕ, suc, ◌<◌, ◌≤◌, ◌+◌, ◌*◌, ◌^◌, length, take, drop, get_or}
use Rattle.algebra.specs.Field.{Ops, Laws}
use Rattle.shamir.specs.Lists.{All, Below, Fresh, Distinct}
use Rattle.shamir.specs.Polynomial.{value, horner, polynomial, interpolate, lagrange}
use Rattle.shamir.specs.Rows.{row, combined}
use Rattle.shamir.specs.Count.{Unique, Exactly}

module _ (F : Ops) where
  open F use {size}

  -- different x, in any order (Shamir's x_1, x_2, ..; document 01's identifiers)
  pub record Places (xs : List ℕ) : Type 0 where
    pub distinct : Distinct xs
    pub small : Below size xs

  -- a value at each of them
  pub record Points (xs ys : List ℕ) : Type 0 where
    pub places : Places xs
    pub same : length ys ≡ length xs
    pub small : Below size ys

  -- a row of l values at each of them
  pub record RowPoints (l : ℕ) (xs : List ℕ) (rows : List (List ℕ)) : Type 0 where
    pub places : Places xs
    pub same : length rows ≡ length xs
    pub small : All (λ r. (length r ≡ l) × Below size r) rows

  -- p has n coefficients and goes through the points; `s ∷ cs` for p: the secret s with the coefficients cs shows them
  pub record Through (n : ℕ) (xs ys p : List ℕ) : Type 0 where
    pub long : length p ≡ n
    pub small : Below size p
    pub fits : map (value F p) xs ≡ ys

  -- cs has k coefficients for each element of the secret ss, and they make its rows at xs these
  pub record Shows (k : ℕ) (ss xs : List ℕ) (rows : List (List ℕ)) (cs : List ℕ) : Type 0 where
    pub long : length cs ≡ length ss * k
    pub small : Below size cs
    pub fits : map (λ x. row F k x ss cs) xs ≡ rows

module _ {F : Ops} (L : Laws F) where
  open F use {size}

  abbrev pub HornerIsValue : Type 0
  HornerIsValue = (cs : List ℕ) (x : ℕ) → x < size → horner F cs x ≡ value F cs x

  abbrev pub LagrangeIsInterpolation : Type 0
  LagrangeIsInterpolation = (z : ℕ) (xs ys : List ℕ) → z < size → Points F xs ys → lagrange F z xs ys ≡ interpolate F z xs ys

  -- Shamir: k points have one polynomial of k coefficients through them, here `polynomial`; of m + k coefficients, size^m
  pub record Interpolation : Type 0 where
    pub through : (xs ys : List ℕ) → Points F xs ys → Through F (length xs) xs ys (polynomial F xs ys)
    pub one : (xs ys : List ℕ) → Points F xs ys → Unique (Through F (length xs) xs ys)
    pub count : (m n : ℕ) (xs ys : List ℕ) → m + length xs ≡ n → Points F xs ys → Exactly (size ^ m) (Through F n xs ys)

  -- Shamir's first demand: as many points as a polynomial has coefficients, or more, give its value anywhere, so the secret at 0
  pub record Recovery : Type 0 where
    pub anywhere : (z : ℕ) (p xs : List ℕ) → z < size → Below size p → length p ≤ length xs → Places F xs → interpolate F z xs (map (value F p) xs) ≡ value F p z
    pub secret : (s : ℕ) (cs xs : List ℕ) → s < size → Below size cs → length cs < length xs → Places F xs → interpolate F 0 xs (map (value F (s ∷ cs)) xs) ≡ s

  -- the same of rows; document 01: element i uses the coefficients i·k to (i + 1)·k - 1, where k = t - 1
  pub record RowRecovery : Type 0 where
    pub element : (k x i : ℕ) (ss cs : List ℕ) → i < length ss → get_or (row F k x ss cs) i 0 ≡ value F (get_or ss i 0 ∷ take k (drop (i * k) cs)) x
    pub anywhere : (k z : ℕ) (ss cs xs : List ℕ) → z < size → Below size ss → Below size cs → k < length xs → Places F xs
        → combined F z xs (map (λ x. row F k x ss cs) xs) (length ss) ≡ row F k z ss cs
    pub secret : (k : ℕ) (ss cs xs : List ℕ) → Below size ss → Below size cs → k < length xs → Places F xs
        → combined F 0 xs (map (λ x. row F k x ss cs) xs) (length ss) ≡ ss

  -- Shamir's second demand: n points away from 0 leave each secret one list of n coefficients that shows them; m points fewer, size^m
  pub record Hiding : Type 0 where
    pub one : (n s : ℕ) (xs ys : List ℕ) → length xs ≡ n → s < size → Fresh 0 xs → Points F xs ys → Unique (λ cs. Through F (suc n) xs ys (s ∷ cs))
    pub count : (m n s : ℕ) (xs ys : List ℕ) → m + length xs ≡ n → s < size → Fresh 0 xs → Points F xs ys → Exactly (size ^ m) (λ cs. Through F (suc n) xs ys (s ∷ cs))

  pub record RowHiding : Type 0 where
    pub one : (n : ℕ) (ss xs : List ℕ) (rows : List (List ℕ)) → length xs ≡ n → Below size ss → Fresh 0 xs → RowPoints F (length ss) xs rows → Unique (Shows F n ss xs rows)
    pub count : (m n : ℕ) (ss xs : List ℕ) (rows : List (List ℕ)) → m + length xs ≡ n → Below size ss → Fresh 0 xs
        → RowPoints F (length ss) xs rows → Exactly (size ^ (length ss * m)) (Shows F n ss xs rows)

  -- polynomials of equally many coefficients that agree at as many points, or more, are the same
  abbrev pub Agreement : Type 0
  Agreement = (p q xs : List ℕ) → length p ≡ length q → length p ≤ length xs → Below size p → Below size q → Places F xs
      → map (value F p) xs ≡ map (value F q) xs → p ≡ q

  -- so a changed value changes the polynomial: other values at the same points have another
  abbrev pub AnyChange : Type 0
  AnyChange = (xs ys ys' : List ℕ) → Points F xs ys → Points F xs ys' → polynomial F xs ys ≡ polynomial F xs ys' → ys ≡ ys'
