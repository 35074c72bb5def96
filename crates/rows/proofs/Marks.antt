-- Marks of the bytes that were met, each at its own place.
-- Assumes nothing.
use mathlib.Core.Path.{◌≡◌, refl, sym, ap, ◌∙◌}
use mathlib.Core.Bool.{Bool, true, false}
use mathlib.Core.List.{List, [], ◌∷◌, ◌++◌}
use Prim.Native.Nat.{ℕ, ◌<◌}
use native.Mathlib.Omega.{arith}
use lib.Dec.{eqb}
use lib.ListN.{length, get_or, set, replicate, length-set, length-replicate, get_or-replicate}
use lib.Seq.{get_or-set_same, get_or-set_other}
use borrow.Author.Tests.{eqb-true, eqb-false}
use Rattle.shamir.specs.Lists.{Fresh}
use Rattle.shamir.proofs.Lists.{all_append, all_parts}

pub record Seen (seen : List Bool) (ids : List ℕ) : Type 0 where
  pub long : length seen ≡ 256
  pub unmarked : (x : ℕ) → x < 256 → get_or seen x false ≡ false → Fresh x ids
  pub marked : (x : ℕ) → x < 256 → Fresh x ids → get_or seen x false ≡ false

pub seen_none : Seen (replicate 256 false) []
seen_none = record { long = length-replicate {A = Bool} 256 false; unmarked = λ x h e. tt; marked = λ x h f. get_or-replicate 256 x false false h }

same_or_not : (y x : ℕ) {P : Type 0} → (y ≡ x → P) → ((y ≡ x → ⊥) → P) → P
same_or_not y x {P} f g = pick (eqb y x) (eqb-true y x) (eqb-false y x)
  where
    pick : (b : Bool) → (b ≡ true → y ≡ x) → (b ≡ false → y ≡ x → ⊥) → P
    pick true t e = f (t refl)
    pick false t e = g (e refl)

pub fresh_last : (x y : ℕ) (xs : List ℕ) → Fresh y (xs ++ (x ∷ [])) → Fresh y xs × (x ≡ y → ⊥)
fresh_last x y xs f = let r = all_parts (λ a. a ≡ y → ⊥) xs (x ∷ []) f in (r.0, r.1.0)

module _ {seen : List Bool} {ids : List ℕ} (s : Seen seen ids) (x : ℕ) (h : x < 256) where
  same_mark : get_or (set seen x true) x false ≡ true
  same_mark = get_or-set_same seen x true false (omega (arith, s.long))

  pub seen_more : Seen (set seen x true) (ids ++ (x ∷ []))
  seen_more = record {
    long = length-set seen x true ∙ s.long;
    unmarked = λ y k e. same_or_not y x
        (λ q. absurd (let two : true ≡ false = sym same_mark ∙ ap (λ z. get_or (set seen x true) z false) (sym q) ∙ e in cc))
        (λ q. all_append (λ a. a ≡ y → ⊥) ids (x ∷ []) (s.unmarked y k (sym (get_or-set_other seen x y true false q) ∙ e)) ((λ r. q (sym r)), tt));
    marked = λ y k f. let r = fresh_last x y ids f in get_or-set_other seen x y true false (λ q. r.1 (sym q)) ∙ s.marked y k r.0;
  }
