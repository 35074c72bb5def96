-- A finite field of characteristic 2: its operations on numbers, and the laws that make them a field.
-- The elements are the numbers below `size`; 0 and 1 are the neutral elements. The ring laws are asked of all numbers, so that
-- equations need no bound on the side; only closure, 1 and inverses are asked of elements alone.
-- Assumes nothing.
use Rattle.std.specs.Prelude.{◌≡◌, ℕ, zero, suc, ◌<◌}

pub record Ops : Type 0 where
  pub size : ℕ
  pub add : ℕ → ℕ → ℕ
  pub mul : ℕ → ℕ → ℕ
  pub inv : ℕ → ℕ

-- A commutative ring in which a + a = 0, so that subtraction is addition.
pub record Ring (F : Ops) : Type 0 where
  pub one-lt : 1 < F.size
  pub add-lt : (a b : ℕ) → a < F.size → b < F.size → F.add a b < F.size
  pub mul-lt : (a b : ℕ) → a < F.size → b < F.size → F.mul a b < F.size
  pub add_comm : (a b : ℕ) → F.add a b ≡ F.add b a
  pub add_assoc : (a b c : ℕ) → F.add (F.add a b) c ≡ F.add a (F.add b c)
  pub add-zero : (a : ℕ) → F.add a 0 ≡ a
  pub add-self : (a : ℕ) → F.add a a ≡ 0
  pub mul_comm : (a b : ℕ) → F.mul a b ≡ F.mul b a
  pub mul_assoc : (a b c : ℕ) → F.mul (F.mul a b) c ≡ F.mul a (F.mul b c)
  pub mul-add : (a b c : ℕ) → F.mul a (F.add b c) ≡ F.add (F.mul a b) (F.mul a c)
  pub mul-one : (a : ℕ) → a < F.size → F.mul a 1 ≡ a

-- A field: a ring in which each element but 0 has an inverse. What `inv` gives at 0 is left open.
pub record Laws (F : Ops) : Type 0 where
  pub ring : Ring F
  pub inv-lt : (a : ℕ) → a < F.size → F.inv a < F.size
  pub mul-inv : (a : ℕ) → a < F.size → (a ≡ 0 → ⊥) → F.mul a (F.inv a) ≡ 1

-- a to the n, for any product
unfoldable pub power : (ℕ → ℕ → ℕ) → ℕ → ℕ → ℕ
power mul a zero = 1
power mul a (suc n) = mul a (power mul a n)
