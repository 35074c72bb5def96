-- What follows from the ring laws, with `ring` for `simp`, and from inverses.
-- Assumes nothing.
use mathlib.Core.Path.{◌≡◌, ◌∙◌, sym, ap}
use Prim.Native.Nat.{ℕ, ◌<◌}
use Rattle.algebra.specs.Field.{Ops, Ring, Laws}

module _ {F : Ops} (R : Ring F) where
  infixl 60 ◌⊕◌
  infixl 70 ◌⊗◌
  open F use {add as ◌⊕◌, mul as ◌⊗◌}

  pub add_comm : (a b : ℕ) → a ⊕ b ≡ b ⊕ a
  add_comm = R.add_comm

  pub add_assoc : (a b c : ℕ) → (a ⊕ b) ⊕ c ≡ a ⊕ (b ⊕ c)
  add_assoc = R.add_assoc

  pub add_left_comm : (a b c : ℕ) → a ⊕ (b ⊕ c) ≡ b ⊕ (a ⊕ c)
  add_left_comm a b c = rw (← add_assoc a b c, add_comm a b, add_assoc b a c)

  pub add-zero : (a : ℕ) → a ⊕ 0 ≡ a
  add-zero = R.add-zero

  pub zero-add : (a : ℕ) → 0 ⊕ a ≡ a
  zero-add a = add_comm 0 a ∙ add-zero a

  pub add-self : (a : ℕ) → a ⊕ a ≡ 0
  add-self = R.add-self

  pub add_self_left : (a b : ℕ) → a ⊕ (a ⊕ b) ≡ b
  add_self_left a b = rw (← add_assoc a a b, add-self, zero-add)

  pub mul_comm : (a b : ℕ) → a ⊗ b ≡ b ⊗ a
  mul_comm = R.mul_comm

  pub mul_assoc : (a b c : ℕ) → (a ⊗ b) ⊗ c ≡ a ⊗ (b ⊗ c)
  mul_assoc = R.mul_assoc

  pub mul_left_comm : (a b c : ℕ) → a ⊗ (b ⊗ c) ≡ b ⊗ (a ⊗ c)
  mul_left_comm a b c = rw (← mul_assoc a b c, mul_comm a b, mul_assoc b a c)

  pub mul-add : (a b c : ℕ) → a ⊗ (b ⊕ c) ≡ a ⊗ b ⊕ a ⊗ c
  mul-add = R.mul-add

  pub add-mul : (a b c : ℕ) → (a ⊕ b) ⊗ c ≡ a ⊗ c ⊕ b ⊗ c
  add-mul a b c = rw (mul_comm (a ⊕ b) c, mul-add, mul_comm c a, mul_comm c b)

  pub mul-zero : (a : ℕ) → a ⊗ 0 ≡ 0
  mul-zero a = ap (a ⊗◌) (sym (add-self 0)) ∙ mul-add a 0 0 ∙ add-self (a ⊗ 0)

  pub zero-mul : (a : ℕ) → 0 ⊗ a ≡ 0
  zero-mul a = mul_comm 0 a ∙ mul-zero a

  -- `simp ring` proves the equations of commutative rings of characteristic 2; outside this section it is `simp (ring, R)`
  pub ruleset ring = (
    add_comm,
    add_assoc,
    add_left_comm,
    add-zero,
    zero-add,
    add-self,
    add_self_left,
    mul_comm,
    mul_assoc,
    mul_left_comm,
    mul-add,
    add-mul,
    mul-zero,
    zero-mul,
  )

  pub eq_of_add : (a b : ℕ) → a ⊕ b ≡ 0 → a ≡ b
  eq_of_add a b h =
      let e : (a ⊕ b) ⊕ b ≡ a = simp ring in
      sym e ∙ ap (◌⊕ b) h ∙ zero-add b

-- division by a
module _ {F : Ops} (L : Laws F) (a : ℕ) (ha : a < F.size) (na : a ≡ 0 → ⊥) where
  infixl 70 ◌⊗◌
  open F use {size, mul as ◌⊗◌, inv}

  pub mul-div : (b : ℕ) → b < size → (a ⊗ b) ⊗ inv a ≡ b
  mul-div b hb =
      let e : (a ⊗ b) ⊗ inv a ≡ b ⊗ (a ⊗ inv a) = simp (ring, L.ring) in
      e ∙ ap (b ⊗◌) (L.mul-inv a ha na) ∙ L.ring.mul-one b hb

  pub div-mul : (b : ℕ) → b < size → a ⊗ (b ⊗ inv a) ≡ b
  div-mul b hb =
      let e : a ⊗ (b ⊗ inv a) ≡ (a ⊗ b) ⊗ inv a = simp (ring, L.ring) in
      e ∙ mul-div b hb

  pub cancel : (b c : ℕ) → b < size → c < size → a ⊗ b ≡ a ⊗ c → b ≡ c
  cancel b c hb hc h = sym (mul-div b hb) ∙ ap (◌⊗ inv a) h ∙ mul-div c hc

  pub mul_ne-zero : (b : ℕ) → b < size → (b ≡ 0 → ⊥) → a ⊗ b ≡ 0 → ⊥
  mul_ne-zero b hb nb h = nb (sym (mul-div b hb) ∙ ap (◌⊗ inv a) h ∙ zero-mul L.ring (inv a))

  -- no other element is an inverse
  pub inv-only : (b : ℕ) → b < size → a ⊗ b ≡ 1 → b ≡ inv a
  inv-only b hb e = cancel b (inv a) hb (L.inv-lt a ha) (e ∙ sym (L.mul-inv a ha na))
