-- How many have a property. Assumes nothing.
use Rattle.std.specs.Prelude.{◌≡◌, ℕ, ◌<◌}

-- exactly one: `the` has the property, and whatever has it is equal to `the`
pub record Unique {A : Type 0} (P : A → Type 0) : Type 0 where
  pub the : A
  pub has : P the
  pub only : (a : A) → P a → a ≡ the

-- exactly n: nth 0, .., nth (n - 1) have the property, no two of them are equal, and whatever has it is one of them
pub record Exactly {A : Type 0} (n : ℕ) (P : A → Type 0) : Type 0 where
  pub nth : ℕ → A
  pub has : (i : ℕ) → i < n → P (nth i)
  pub once : (i j : ℕ) → i < n → j < n → nth i ≡ nth j → i ≡ j
  pub all : (a : A) → P a → (i : ℕ) × (i < n) × (nth i ≡ a)
