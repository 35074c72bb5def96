-- The digits of a number, put one behind the other.
-- Assumes nothing.
use mathlib.Core.Path.{◌≡◌, sym, ap, ◌∙◌, subst}
use mathlib.Core.List.{List, [], ◌∷◌, ◌++◌}
use Prim.Native.Nat.{ℕ, ◌/◌, ◌%◌, ◌<◌, ◌≤◌}
use native.Mathlib.Omega.{arith}
use lib.ListN.{length}
use Rattle.sheets.specs.Text.{digit, decimal}
use Rattle.sheets.specs.Writing.{Puts}
use Rattle.sheets.proofs.Decimal.{decimal-small, decimal_more}
use Rattle.sheets.proofs.Writing.{puts_then}

-- one digit
pub small_put : (n b : ℕ) {at e : ℕ} {out left : List ℕ} → n < 10 → b ≡ digit n → Puts (b ∷ []) at out e left → Puts (decimal n) at out e left
small_put n b {at} {e} {out} {left} small is p =
    let d : b ∷ [] ≡ decimal n = ap (◌∷ []) (is ∙ ap digit (omega arith)) ∙ sym (decimal-small n small) in
    subst (λ t. Puts t at out e left) d p

-- the last of several
pub last_put : (n b : ℕ) {at end e : ℕ} {out mid left : List ℕ} → 10 ≤ n → at ≤ length out → b ≡ digit (n % 10)
    → Puts (decimal (n / 10)) at out end mid → Puts (b ∷ []) end mid e left → Puts (decimal n) at out e left
last_put n b {at} {end} {e} {out} {mid} {left} many inside is p q =
    let d : decimal (n / 10) ++ (b ∷ []) ≡ decimal n = ap (λ x. decimal (n / 10) ++ (x ∷ [])) is ∙ sym (decimal_more n many) in
    subst (λ t. Puts t at out e left) d (puts_then inside p q)
