-- What the test of a digit of hex says, and the tests of many together.
-- Assumes nothing.
use mathlib.Core.Path.{◌≡◌, refl, sym, ap₂, ◌∙◌}
use mathlib.Core.Bool.{Bool, true, false, ◌&&◌, ◌||◌}
use mathlib.Core.List.{List, [], ◌∷◌}
use mathlib.Core.Logic.{inl, inr, ⊎_elim}
use Prim.Native.Nat.{ℕ}
use lib.Dec.{leb}
use borrow.Author.Tests.{leb-true, le-leb}
use Rattle.shamir.specs.Lists.{All}
use Rattle.std.specs.Bool.{Decides}
use Rattle.std.specs.List.{fold}
use Rattle.sheets.specs.ReadAs.{IsHexDigit}
use Rattle.reader.specs.Taking.{is_hex_digit}
use Rattle.reading.proofs.LineTests.{both}
use Rattle.reader.proofs.DigitsRead.{yes-no, no-yes}

either : (a b : Bool) → (a ≡ true → (a || b) ≡ true) × (b ≡ true → (a || b) ≡ true)
either true b = ((λ e. refl), λ e. refl)
either false b = (no-yes, λ e. e)

from_either : (a b : Bool) {P : Type 0} → (a || b) ≡ true → (a ≡ true → P) → (b ≡ true → P) → P
from_either true b e f g = f refl
from_either false b e f g = g e

pub hex-yes : (c : ℕ) → is_hex_digit c ≡ true → IsHexDigit c
hex-yes c e =
    from_either (leb 48 c && leb c 57) (leb 97 c && leb c 102) e
    (λ d. let p = both (leb 48 c) (leb c 57) d in inl (leb-true 48 c p.0, leb-true c 57 p.1))
    (λ d. let p = both (leb 97 c) (leb c 102) d in inr (leb-true 97 c p.0, leb-true c 102 p.1))

hex_true : (c : ℕ) → IsHexDigit c → is_hex_digit c ≡ true
hex_true c h =
    let e = either (leb 48 c && leb c 57) (leb 97 c && leb c 102) in
    ⊎_elim (λ d. e.0 (ap₂ ◌&&◌ (le-leb 48 c d.0) (le-leb c 57 d.1))) (λ d. e.1 (ap₂ ◌&&◌ (le-leb 97 c d.0) (le-leb c 102 d.1))) h

pub hex-no : (c : ℕ) → is_hex_digit c ≡ false → IsHexDigit c → ⊥
hex-no c e h = yes-no (sym (hex_true c h) ∙ e)

-- ---- many together

all_true : (xs : List ℕ) → fold (λ all c. all && is_hex_digit c) false xs ≡ false
all_true [] = refl
all_true (x ∷ xs) = all_true xs

-- the test of all says whether all are digits
all-or-not : (b : Bool) (x : ℕ) (xs : List ℕ) → (b ≡ true → IsHexDigit x) → (b ≡ false → IsHexDigit x → ⊥) → Decides (fold (λ all c. all && is_hex_digit c) true xs) (All IsHexDigit xs)
    → Decides (fold (λ all c. all && is_hex_digit c) b xs) (IsHexDigit x × All IsHexDigit xs)
all-or-not true x xs is other d = ((λ e. (is refl, d.0 e)), λ h. d.1 h.1)
all-or-not false x xs is other d = ((λ e. yes-no (sym e ∙ all_true xs)), λ h. absurd (other refl h.0))

pub hex-all : (xs : List ℕ) → Decides (fold (λ all c. all && is_hex_digit c) true xs) (All IsHexDigit xs)
hex-all [] = ((λ e. tt), λ h. refl)
hex-all (x ∷ xs) = all-or-not (is_hex_digit x) x xs (hex-yes x) (hex-no x) (hex-all xs)
