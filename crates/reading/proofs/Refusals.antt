-- Any text in which no sheet is found is refused at the line that is found, and that is the only line.
-- Assumes nothing.
use mathlib.Core.Path.{◌≡◌, refl, sym, ap, ◌∙◌, subst}
use mathlib.Core.List.{List, [], ◌++◌, append_assoc}
use mathlib.Core.Logic.{◌⊎◌, inl, inr, ⊎_elim}
use Prim.Native.Nat.{ℕ, suc, ◌<◌, ◌≤◌}
use native.Mathlib.Decide.{dec_lt}
use native.Mathlib.Omega.{arith}
use lib.ListN.{length}
use Rattle.sheets.specs.Sheet.{head_line, row_lines}
use Rattle.reading.specs.Reading.{IsSheet, Continues, line_feeds, first_lines, RefusedAt}
use Rattle.reading.specs.Unsheet.{Read, sheet_of, not_at, unsheet, UnsheetRight, EveryText, OnlyLine}
use Rattle.reading.specs.Lines.{Head}
use Rattle.reading.proofs.TextLines.{first_again, fewer_lines, lines-first, line_counted}
use Rattle.reading.proofs.RightLines.{head_line_lem}
use Rattle.reading.proofs.Completed.{begins_continued, continued}
use Rattle.reading.proofs.Beginnings.{head-right, head-wrong, head_or_not}
use Rattle.reading.proofs.Stops.{unrows_stops}
use Rattle.reading.proofs.Unsheet.{no_rows, finds, stored, accepts}

no_sheet : {text : List ℕ} {k : ℕ} → unsheet text ≡ not_at k → IsSheet text → ⊥
no_sheet {text} e s = let f = finds text s in let z : ◌≡◌ {A = ℕ} 0 1 = cc in omega arith

-- a text that is refused at line k, whatever comes behind that line
refused : (text : List ℕ) (k : ℕ) → unsheet text ≡ not_at k → k ≤ line_feeds text → Continues (first_lines k text)
    → (k < line_feeds text → (rest : List ℕ) → unsheet (first_lines (suc k) text ++ rest) ≡ not_at k) → RefusedAt text k
refused text k e i c s = record { no_sheet = no_sheet e; inside = i; before = c; not_after = λ h d. no_sheet (s h d.rest) d.is_sheet }

refuses : (text : List ℕ) (k : ℕ) → unsheet text ≡ not_at k → RefusedAt text k
refuses text k e =
    ⊎_elim
    (λ b.
    let line = head_line b.t b.m b.l in
    let i = head_line_lem b.t b.m b.l in
    let r = head-right b.t b.m b.l b.head in
    let n = unrows_stops b.t b.l b.m 1 [] b.later k (no_rows b.l) (sym (ap unsheet b.parts ∙ r b.later) ∙ e) in
    let rows = n.more in
    let k-is : suc (length rows) ≡ k = omega (arith, n.place_is) in
    let feeds : line_feeds text ≡ suc (line_feeds b.later) = ap line_feeds b.parts ∙ line_counted i b.later in
    let firsts : (j : ℕ) → first_lines (suc j) text ≡ line ++ first_lines j b.later = λ j. ap (first_lines (suc j)) b.parts ∙ lines-first i b.later j in
    let before : first_lines k text ≡ line ++ row_lines rows = ap (λ j. first_lines j text) (sym k-is) ∙ firsts (length rows) ∙ ap (line ++◌) n.lines in
    refused text k e (omega (arith, n.inside))
    (subst Continues (sym before) (continued b.t b.m b.l rows b.head n.are_rows n.few))
    (λ h rest.
    ap (λ j. unsheet (first_lines (suc j) text ++ rest)) (sym k-is)
    ∙ ap (λ x. unsheet (x ++ rest)) (firsts (suc (length rows)))
    ∙ ap unsheet (append_assoc line (first_lines (suc (length rows)) b.later) rest)
    ∙ r (first_lines (suc (length rows)) b.later ++ rest)
    ∙ n.stays (omega arith) rest))
    (λ w.
    let f = head-wrong text w in
    let z : 0 ≡ k = cc in
    let some : Head 2 1 1 = omega arith in
    subst (RefusedAt text) z
    (refused text 0 f (omega arith) (begins_continued [] _ (continued 2 1 1 [] some (no_rows 1) (omega arith)))
    (λ h rest. head-wrong (first_lines 1 text ++ rest) (rw (first_again text rest h) w))))
    (head_or_not text)

pub unsheet-right : UnsheetRight
unsheet-right = record { accepts = accepts; finds = λ text s. (finds text s, stored text s); refuses = refuses }

-- ---- one line, and only one

pub every_text : EveryText
every_text text = pick (unsheet text) refl
  where
    pick : (r : Read) → unsheet text ≡ r → IsSheet text ⊎ ((k : ℕ) × RefusedAt text k)
    pick (sheet_of t l rows) e = inl (accepts text t l rows e).is_sheet
    pick (not_at k) e = inr (k, refuses text k e)

-- what can be continued up to line k can be continued up to any line before
not_before : (text : List ℕ) (j k : ℕ) → RefusedAt text j → RefusedAt text k → j < k → ⊥
not_before text j k p q h =
    let f = fewer_lines (suc j) k text h in
    p.not_after (omega (arith, q.inside)) (begins_continued (first_lines (suc j) text) f.0 (subst Continues f.1 q.before))

pub only-line : OnlyLine
only-line text j k p q = elim (dec_lt j k) [
  | yes h ↦ absurd (not_before text j k p q h)
  | no h ↦ elim (dec_lt k j) [ yes g ↦ absurd (not_before text k j q p g) | no g ↦ omega arith ]
]
