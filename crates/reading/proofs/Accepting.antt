-- The reader accepts exactly the sheets.
-- Assumes nothing.
use mathlib.Core.Path.{◌≡◌, refl, ap, ◌∙◌, subst}
use mathlib.Core.Bool.{Bool, true, false}
use mathlib.Core.List.{List}
use mathlib.Core.Logic.{◌⊎◌, inl, inr, ⊎_elim}
use Prim.Native.Nat.{ℕ}
use native.Mathlib.Omega.{arith}
use lib.Dec.{ltb}
use lib.ListN.{length}
use Rattle.answer.specs.Outcome.{Outcome, done, refused, refuse}
use Rattle.rows.specs.Storage.{laid}
use Rattle.reading.specs.Reading.{IsSheet, RefusedAt}
use Rattle.reading.specs.Unsheet.{Read, sheet_of, not_at, unsheet}
use Rattle.reading.specs.Answer.{answer_to, read_answer}
use Rattle.reading.specs.Promises.{Accepts, AcceptsOnly}
use Rattle.reading.proofs.Unsheet.{finds, stored}
use Rattle.reading.proofs.Refusals.{unsheet-right, only-line}
use Rattle.reading.proofs.Answers.{no_sheet, short_head, short_room, room-enough}

not_found : (text : List ℕ) (k : ℕ) → RefusedAt text k → unsheet text ≡ not_at k
not_found text k r = pick (unsheet text) refl
  where
    pick : (f : Read) → unsheet text ≡ f → unsheet text ≡ not_at k
    pick (sheet_of t l rows) e = absurd (r.no_sheet (unsheet-right.accepts text t l rows e).is_sheet)
    pick (not_at j) e = e ∙ ap not_at (only-line text j k (unsheet-right.refuses text j e) r)

pub accepts_sheets : Accepts
accepts_sheets = record {
  sheet = λ text s headRoom room h k.
      room-enough text (finds text s) headRoom room h (omega (arith, ap length (stored text s))) ∙ ap (λ x. done (length x)) (stored text s);
  short = λ text s headRoom room.
      ⊎_elim (short_head text (finds text s) headRoom room) (λ h. short_room text (finds text s) headRoom room (omega (arith, ap length (stored text s))));
  other = λ text k headRoom room r. no_sheet text (not_found text k r) headRoom room;
}

-- what an answer says of the text
abbrev Says : List ℕ → Outcome → Type 0
Says text (done count) = IsSheet text
Says text (refused number i j) = (IsSheet text × (number ≡ 12)) ⊎ (RefusedAt text i × (number ≡ 14) × (j ≡ 0))

says : (text : List ℕ) (headRoom room : ℕ) {o : Outcome} → read_answer text headRoom room ≡ o → Says text o
unfolding read_answer
says text headRoom room a = subst (Says text) a (pick (unsheet text) refl)
  where
    of_sheet : (short shorter : Bool) (count : ℕ) → IsSheet text → Says text (refuse short (refused 12 0 0) (refuse shorter (refused 12 0 0) (done count)))
    of_sheet true shorter count s = inl (s, refl)
    of_sheet false true count s = inl (s, refl)
    of_sheet false false count s = s

    pick : (r : Read) → unsheet text ≡ r → Says text (answer_to r headRoom room)
    pick (sheet_of t l rows) e = of_sheet (ltb headRoom 12) (ltb room (length (laid rows))) _ (unsheet-right.accepts text t l rows e).is_sheet
    pick (not_at k) e = inr (unsheet-right.refuses text k e, refl, refl)

pub accepts-only : AcceptsOnly
accepts-only = record {
  sheet = λ text headRoom room count. says text headRoom room;
  short = λ text headRoom room i j a. ⊎_elim (λ p. p.0) (λ p. absurd (omega (arith, p.1))) (says text headRoom room a);
  other = λ text headRoom room k j a. ⊎_elim (λ p. absurd (omega (arith, p.1))) (λ p. (p.0, p.2)) (says text headRoom room a);
  numbers = λ text headRoom room number i j a. ⊎_elim (λ p. inl p.1) (λ p. inr p.1) (says text headRoom room a);
}
