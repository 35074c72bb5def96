-- The identifiers at different places of an accepted split are different bytes, none of them 0.
-- Assumes nothing.
use mathlib.Core.Path.{◌≡◌, refl, sym, ◌∙◌}
use mathlib.Core.List.{List, [], ◌∷◌, map}
use mathlib.Core.Logic.{◌⊎◌, inl, inr, ⊎_elim}
use Prim.Native.Nat.{ℕ, zero, suc, ◌<◌, ◌≤◌}
use native.Mathlib.Omega.{arith}
use lib.Dec.{lit<}
use lib.ListN.{length, take, get_or}
use lib.Seq.{get_or-take, length-take-le}
use Rattle.shamir.specs.Lists.{Below, Fresh, Distinct}
use Rattle.shamir.proofs.Lists.{all_at, all_in, all_map, all_both}

abbrev pub ids_at : List ℕ → List ℕ → List ℕ
ids_at ids places = map (λ p. get_or ids p 0) places

apart : (xs : List ℕ) (i j : ℕ) → i < j → j < length xs → Distinct xs → get_or xs i 0 ≡ get_or xs j 0 → ⊥
apart [] i j l h d e = absurd (omega arith)
apart (x ∷ xs) zero zero l h d e = absurd (omega arith)
apart (x ∷ xs) zero (suc j) l h d e = all_in (λ a. a ≡ x → ⊥) xs j (omega arith) d.0 (sym e)
apart (x ∷ xs) (suc i) zero l h d e = absurd (omega arith)
apart (x ∷ xs) (suc i) (suc j) l h d e = apart xs i j (omega arith) (omega arith) d.1 e

less_or_more : (i j : ℕ) → (i ≡ j → ⊥) → (i < j) ⊎ (j < i)
less_or_more zero zero ne = absurd (ne refl)
less_or_more zero (suc j) ne = inl (omega arith)
less_or_more (suc i) zero ne = inr (omega arith)
less_or_more (suc i) (suc j) ne =
    ⊎_elim (λ l. inl (omega arith)) (λ l. inr (omega arith)) (less_or_more i j (λ e. ne (omega arith)))

module _ (n : ℕ) (ids : List ℕ) (enough : n ≤ length ids) where
  used : (p : ℕ) → p < n → get_or (take n ids) p 0 ≡ get_or ids p 0
  used p h = get_or-take n ids p 0 h

  used_length : length (take n ids) ≡ n
  used_length = length-take-le n ids enough

  pub ids-bytes : Below 256 ids → (places : List ℕ) → Below n places → Below 256 (ids_at ids places)
  ids-bytes small = all_map (◌< n) (◌< 256) _ (λ p h. all_at (◌< 256) 0 (lit< tt) ids p small)

  pub ids-nonzero : Fresh 0 (take n ids) → (places : List ℕ) → Below n places → Fresh 0 (ids_at ids places)
  ids-nonzero fresh =
      all_map (◌< n) (λ a. a ≡ 0 → ⊥) _
      (λ p h e. all_in (λ a. a ≡ 0 → ⊥) (take n ids) p (omega (arith, used_length)) fresh (used p h ∙ e))

  differ : Distinct (take n ids) → (p q : ℕ) → p < n → q < n → (q ≡ p → ⊥) → get_or ids q 0 ≡ get_or ids p 0 → ⊥
  differ d p q hp hq ne e =
      let same : get_or (take n ids) q 0 ≡ get_or (take n ids) p 0 = used q hq ∙ e ∙ sym (used p hp) in
      ⊎_elim (λ l. apart (take n ids) q p l (omega (arith, used_length)) d same) (λ l. apart (take n ids) p q l (omega (arith, used_length)) d (sym same))
      (less_or_more q p ne)

  pub ids-distinct : Distinct (take n ids) → (places : List ℕ) → Below n places → Distinct places → Distinct (ids_at ids places)
  ids-distinct d [] b dp = tt
  ids-distinct d (p ∷ places) b dp = (
    all_map (λ q. (q < n) × (q ≡ p → ⊥)) (λ a. a ≡ get_or ids p 0 → ⊥) _ (λ q h. differ d p q b.0 h.0 h.1) places
        (all_both (◌< n) (λ q. q ≡ p → ⊥) (λ q. (q < n) × (q ≡ p → ⊥)) (λ q h k. (h, k)) places b.1 dp.0),
    ids-distinct d places b.1 dp.1,
  )
