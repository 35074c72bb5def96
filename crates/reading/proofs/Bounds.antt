-- How large the reader's answers are: few rows, each with few values, and so few lines.
-- Assumes nothing.
use mathlib.Core.Path.{◌≡◌, refl, sym, ap, ◌∙◌}
use mathlib.Core.Bool.{Bool, true, false}
use mathlib.Core.List.{List, []}
use mathlib.Core.Logic.{⊎_elim}
use Prim.Native.Nat.{ℕ, ◌+◌, ◌*◌, ◌<◌, ◌≤◌}
use native.Mathlib.Nat.{mul-le-mul_right}
use native.Mathlib.Omega.{arith}
use lib.Dec.{ltb}
use lib.ListN.{length}
use Rattle.answer.specs.Outcome.{Outcome, done, refused, refuse}
use Rattle.rows.specs.Storage.{laid}
use Rattle.row_set.specs.Limits.{max_shares, max_secret}
use Rattle.reading.specs.Unsheet.{Read, sheet_of, not_at, unsheet}
use Rattle.reading.specs.Answer.{answer_to, read_answer}
use Rattle.reading.proofs.LaidRows.{length-laid}
use Rattle.reading.proofs.Beginnings.{head-right, head-wrong, head_or_not}
use Rattle.reading.proofs.Stops.{unrows_stops}
use Rattle.reading.proofs.Unsheet.{no_rows, found_rows}

-- the line of a refusal is at most the one behind all rows
pub line_most : (text : List ℕ) (k : ℕ) → unsheet text ≡ not_at k → k ≤ max_shares + 1
line_most text k e =
    ⊎_elim
    (λ b.
    let r = head-right b.t b.m b.l b.head b.later in
    let n = unrows_stops b.t b.l b.m 1 [] b.later k (no_rows b.l) (sym (ap unsheet b.parts ∙ r) ∙ e) in
    omega (arith, n.place_is, n.few, b.head.rows_most))
    (λ w. let f = head-wrong text w in let z : 0 ≡ k = cc in omega arith)
    (head_or_not text)

pub rows_most : (text : List ℕ) (t l : ℕ) (rows : List (List ℕ)) → unsheet text ≡ sheet_of t l rows → length (laid rows) ≤ max_shares * (max_secret + 1)
rows_most text t l rows e =
    let f = found_rows text t l rows e in
    omega (arith, length-laid l rows f.are_rows.each, mul-le-mul_right (l + 1) f.head.rows_most, f.head.values_most)

abbrev pub Bounded : Outcome → Type 0
Bounded (done count) = count ≤ max_shares * (max_secret + 1)
Bounded (refused number first second) = (0 < number) × (number < 256) × (first ≤ max_shares + 1) × (second ≡ 0)

refuse_bounded : (test : Bool) (later : Outcome) → Bounded later → Bounded (refuse test (refused 12 0 0) later)
refuse_bounded true later h = omega arith
refuse_bounded false later h = h

pub bounded : (text : List ℕ) (headRoom room : ℕ) → Bounded (read_answer text headRoom room)
unfolding read_answer
bounded text headRoom room = pick (unsheet text) refl
  where
    pick : (r : Read) → unsheet text ≡ r → Bounded (answer_to r headRoom room)
    pick (sheet_of t l rows) e = refuse_bounded (ltb headRoom 12) _ (refuse_bounded (ltb room (length (laid rows))) _ (rows_most text t l rows e))
    pick (not_at k) e = let h = line_most text k e in omega arith
