-- What holds of each element of a list, and no element twice. Assumes nothing.
use Rattle.std.specs.Prelude.{◌≡◌, List, [], ◌∷◌, ℕ, ◌<◌}

abbrev pub All : {A : Type 0} → (A → Type 0) → List A → Type 0
All P [] = Unit {0}
All P (x ∷ xs) = P x × All P xs

-- each of xs is below n; with n the size of a field: each is an element of it
abbrev pub Below : ℕ → List ℕ → Type 0
Below n xs = All (◌< n) xs

-- x is not among xs
abbrev pub Fresh : ℕ → List ℕ → Type 0
Fresh x xs = All (λ a. a ≡ x → ⊥) xs

-- no number stands in xs twice
abbrev pub Distinct : List ℕ → Type 0
Distinct [] = Unit {0}
Distinct (x ∷ xs) = Fresh x xs × Distinct xs
