-- A field, as it is read: the number that another field of the same text has, and what stands behind both.
-- Assumes nothing.
use mathlib.Core.Path.{◌≡◌, sym, ap, ◌∙◌}
use mathlib.Core.List.{List, ◌∷◌, ◌++◌}
use Prim.Native.Nat.{ℕ, ◌≤◌}
use native.Mathlib.Omega.{arith}
use Rattle.std.proofs.lemmas.List.{append_cancel_left}
use Rattle.sheets.specs.Text.{tab, decimal}
use Rattle.sheets.specs.ReadAs.{IsDigit}
use Rattle.reader.specs.Taking.{FieldRead}

-- a tab and a line feed end a number
pub tab-ends : IsDigit 9 → ⊥
tab-ends d = omega (arith, d.0)

pub feed_ends : IsDigit 10 → ⊥
feed_ends d = omega (arith, d.0)

pub field_told : {text rest : List ℕ} {least most n : ℕ} → FieldRead text least most n rest
    → (m c : ℕ) (others : List ℕ) → least ≤ m → m ≤ most → (IsDigit c → ⊥) → text ≡ tab ∷ (decimal m ++ c ∷ others) → (n ≡ m) × (rest ≡ c ∷ others)
field_told {text} {rest} {least} {most} {n} r m c others low high ends e =
    let same = r.only m c others low high ends e in (
      same,
      append_cancel_left (tab ∷ decimal n) rest (c ∷ others) (sym r.stands ∙ e ∙ ap (λ x. tab ∷ (decimal x ++ c ∷ others)) (sym same)),
    )
