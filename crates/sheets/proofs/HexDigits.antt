-- The digits of bytes in hex, as the code makes and counts them.
-- Assumes nothing.
use mathlib.Core.Path.{◌≡◌, refl, sym, ap, ap₂, ◌∙◌, subst}
use mathlib.Core.List.{List, [], ◌∷◌, ◌++◌, append_assoc}
use Prim.Native.Nat.{ℕ, ◌+◌, ◌/◌, ◌%◌, ◌<◌, ◌≤◌}
use native.Mathlib.Numerals.{add-one}
use lib.ListN.{length, take, get_or, set}
use lib.Seq.{take-suc}
use Rattle.sheets.specs.Text.{hex_digit, hex}
use Rattle.sheets.specs.Writing.{Puts}
use Rattle.sheets.proofs.Writing.{puts_two}

hex-append : (xs ys : List ℕ) → hex (xs ++ ys) ≡ hex xs ++ hex ys
hex-append [] ys = refl
hex-append (x ∷ xs) ys = ap (λ l. hex_digit (x / 16) ∷ hex_digit (x % 16) ∷ l) (hex-append xs ys)

-- one byte more
hex_more : (vs : List ℕ) (k : ℕ) → k < length vs
    → (hex (take k vs) ++ (hex_digit (get_or vs k 0 / 16) ∷ [])) ++ (hex_digit (get_or vs k 0 % 16) ∷ []) ≡ hex (take (k + 1) vs)
hex_more vs k h =
    append_assoc (hex (take k vs)) (hex_digit (get_or vs k 0 / 16) ∷ []) (hex_digit (get_or vs k 0 % 16) ∷ [])
    ∙ sym (hex-append (take k vs) (get_or vs k 0 ∷ []))
    ∙ ap hex (sym (take-suc vs k 0 h) ∙ ap (λ n. take n vs) (sym (add-one k)))

-- a turn of the loop that puts them
pub hex_step : (vs : List ℕ) (k at end : ℕ) (out₀ out : List ℕ) (h g : ℕ) → k < length vs → at ≤ length out₀ → end + 1 < length out
    → h ≡ hex_digit (get_or vs k 0 / 16) → g ≡ hex_digit (get_or vs k 0 % 16) → Puts (hex (take k vs)) at out₀ end out
    → Puts (hex (take (k + 1) vs)) at out₀ (end + 2) (set (set out end h) (end + 1) g)
hex_step vs k at end out₀ out h g lt inside room eh eg p =
    subst (λ t. Puts t at out₀ (end + 2) (set (set out end h) (end + 1) g))
    (ap₂ (λ x y. (hex (take k vs) ++ (x ∷ [])) ++ (y ∷ [])) eh eg ∙ hex_more vs k lt) (puts_two inside p h g room)
