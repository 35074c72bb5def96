-- Polynomials over a field by their coefficients, lowest degree first. As a + a = 0, a difference is a sum. Assumes nothing.
use mathlib.Core.List.{List, [], ◌∷◌, zip_with}
use Rattle.std.specs.Prelude.{cond, ℕ, suc, eqb}
use Rattle.algebra.specs.Field.{Ops, power}

module _ (F : Ops) where
  infixl 60 ◌⊕◌
  infixl 70 ◌⊗◌
  open F use {add as ◌⊕◌, mul as ◌⊗◌, inv}

  -- the sum of the coefficients times x^k, x^(k+1), ..
  abbrev pub sum_from : ℕ → ℕ → List ℕ → ℕ
  sum_from k x [] = 0
  sum_from k x (c ∷ cs) = c ⊗ power ◌⊗◌ x k ⊕ sum_from (suc k) x cs

  -- Shamir's q(x) = a₀ + a₁x + a₂x² + ..; with the secret for a₀ it is document 01's value of a row
  abbrev pub value : List ℕ → ℕ → ℕ
  value [] x = 0
  value (c ∷ cs) x = c ⊕ sum_from 1 x cs

  -- the same by Horner's rule, which document 01 names for the code
  abbrev pub horner : List ℕ → ℕ → ℕ
  horner [] x = 0
  horner (c ∷ cs) x = c ⊕ x ⊗ horner cs x

  -- the coefficients of y + (X - a)·q: the value at a is y, whatever q is
  abbrev pub with_value : ℕ → ℕ → List ℕ → List ℕ
  with_value a y [] = y ∷ []
  with_value a y (c ∷ q) = (y ⊕ a ⊗ c) ∷ with_value a c q

  -- (b - y) / (x - a) for each point (x, b): the values of q that bring y + (X - a)·q to the points
  abbrev pub quotients : ℕ → ℕ → List ℕ → List ℕ → List ℕ
  quotients a y = zip_with (λ x b. (b ⊕ y) ⊗ inv (x ⊕ a))

  -- Shamir's q(x) from k of its points, by Newton's method: the k coefficients of the only one of degree below k
  abbrev pub polynomial : List ℕ → List ℕ → List ℕ
  polynomial [] ys = []
  polynomial (x ∷ xs) [] = []
  polynomial (x ∷ xs) (y ∷ ys) = with_value x y (polynomial xs (quotients x y xs ys))

  -- its value at z; at 0 it is what document 01 has combine answer
  abbrev pub interpolate : ℕ → List ℕ → List ℕ → ℕ
  interpolate z xs ys = value (polynomial xs ys) z

  -- the product of (z - a) over each a of xs but x
  abbrev pub others : ℕ → ℕ → List ℕ → ℕ
  others x z [] = 1
  others x z (a ∷ xs) = cond (eqb a x) (others x z xs) ((z ⊕ a) ⊗ others x z xs)

  -- Lagrange's coefficient of the point at x: the product of (z - x_j), divided by that of (x - x_j)
  abbrev pub weight : ℕ → List ℕ → ℕ → ℕ
  weight z xs x = others x z xs ⊗ inv (others x x xs)

  -- the sum of y times its coefficient over the points (xs, ys), which are some or all of those with their x in `all`
  abbrev pub weighted : ℕ → List ℕ → List ℕ → List ℕ → ℕ
  weighted z all [] ys = 0
  weighted z all (x ∷ xs) [] = 0
  weighted z all (x ∷ xs) (y ∷ ys) = y ⊗ weight z all x ⊕ weighted z all xs ys

  -- Lagrange's sum
  abbrev pub lagrange : ℕ → List ℕ → List ℕ → ℕ
  lagrange z xs ys = weighted z xs xs ys
