-- The text behind its first line, by the place of its first line feed.
-- Assumes nothing.
use Rattle.std.proofs.Common.{◌≡◌, refl, sym, ap, ◌∙◌, ℕ, suc, ◌+◌, ◌≤◌, Bool, true, false, cond, not, Some, None, List, [], ◌∷◌, length, drop, eqb, ltb, unwrap_or, arith, ltb-false, drop_of_length-le}
use Rattle.std.specs.List.{position, position_or_len}
use Rattle.sheets.specs.Text.{line_feed}
use Rattle.reading.specs.Unsheet.{after_line}

abbrev pub ends : ℕ → Bool
ends c = eqb c line_feed

after_feed : (text : List ℕ) → after_line text ≡ drop (position_or_len ends text + 1) text
after_feed [] = refl
after_feed (c ∷ text) =
    elim (eqb c line_feed) as (λ b. cond b text (after_line text) ≡ drop (cond (not b) (1 + position_or_len ends text) 0 + 1) (c ∷ text)) [
      | true ↦ refl
      | false ↦ after_feed text ∙ ap (λ k. drop k (c ∷ text)) (let e : suc (position_or_len ends text + 1) ≡ 1 + position_or_len ends text + 1 = omega arith in e)
    ]

found : (b : Bool) (n e : ℕ) → cond b (Some n) None ≡ Some e → n ≡ e
found true n e h = ap (λ o. unwrap_or o 0) h
found false n e h = absurd (let z : ◌≡◌ {A = Bool} true false = cc in cc)

not_found : (b : Bool) (n : ℕ) → cond b (Some n) None ≡ None → b ≡ false
not_found true n h = cc
not_found false n h = refl

pub behind : (text : List ℕ) (end : ℕ) → position ends text ≡ Some end → drop (end + 1) text ≡ after_line text
behind text end h = sym (after_feed text ∙ ap (λ n. drop (n + 1) text) (found (ltb (position_or_len ends text) (length text)) _ end h))

pub nothing_behind : (text : List ℕ) → position ends text ≡ None → [] ≡ after_line text
nothing_behind text h =
    let none = ltb-false _ _ (not_found (ltb (position_or_len ends text) (length text)) _ h) in
    sym (after_feed text ∙ drop_of_length-le text (omega (arith, none)))

-- it is all from a place on
pub from_a_place : (text : List ℕ) → (at : ℕ) × (at ≤ length text) × (drop at text ≡ after_line text)
from_a_place [] = (0, omega arith, refl)
from_a_place (c ∷ text) =
    elim (eqb c line_feed) as (λ b. (at : ℕ) × (at ≤ length (c ∷ text)) × (drop at (c ∷ text) ≡ cond b text (after_line text))) [
      | true ↦ (1, omega arith, refl)
      | false ↦ let p = from_a_place text in (suc p.0, omega (arith, p.1), p.2)
    ]
