-- Where the reading of rows stops: behind right rows, and whatever comes behind the line at which it stops.
-- Assumes nothing.
use mathlib.Core.Path.{◌≡◌, refl, sym, ap, ◌∙◌, subst}
use mathlib.Core.List.{List, [], ◌∷◌, ◌++◌, append_assoc, append-nil}
use mathlib.Core.Logic.{⊎_elim}
use Prim.Native.Nat.{ℕ, zero, suc, ◌+◌, ◌<◌, ◌≤◌}
use native.Mathlib.Omega.{arith}
use lib.ListN.{length}
use lib.Seq.{append_snoc}
use Rattle.sheets.specs.Sheet.{row_line, row_lines}
use Rattle.reading.specs.Reading.{line_feeds, first_lines}
use Rattle.reading.specs.Unsheet.{not_at, unrows}
use Rattle.reading.specs.Lines.{Rows}
use Rattle.reading.proofs.TextLines.{first_again, lines-first, line_counted}
use Rattle.reading.proofs.RightLines.{row_line_lem}
use Rattle.reading.proofs.Completed.{rows_then}
use Rattle.reading.proofs.Beginnings.{row_or_not, row-right, row-wrong}

module _ (t l : ℕ) where
  -- a stop at line place, which is the line behind more rows
  pub record Stopped (left k : ℕ) (rows : List (List ℕ)) (text : List ℕ) (place : ℕ) : Type 0 where
    pub more : List (List ℕ)
    pub place_is : k + length more ≡ place
    pub few : length more ≤ left
    pub inside : length more ≤ line_feeds text
    pub are_rows : Rows l (rows ++ more)
    pub lines : first_lines (length more) text ≡ row_lines more
    pub stays : length more < line_feeds text → (rest : List ℕ) → unrows t l left k rows (first_lines (suc (length more)) text ++ rest) ≡ not_at place

  -- .. behind no more rows
  here : (left k : ℕ) (rows : List (List ℕ)) (text : List ℕ) (place : ℕ) → Rows l rows → k ≡ place
      → (0 < line_feeds text → (rest : List ℕ) → unrows t l left k rows (first_lines 1 text ++ rest) ≡ not_at k) → Stopped left k rows text place
  here left k rows text place r z s = record {
    more = [];
    place_is = omega arith;
    few = omega arith;
    inside = omega arith;
    are_rows = subst (Rows l) (sym (append-nil rows)) r;
    lines = refl;
    stays = λ h rest. s h rest ∙ ap not_at z;
  }

  pub unrows_stops : (left k : ℕ) (rows : List (List ℕ)) (text : List ℕ) (place : ℕ) → Rows l rows → unrows t l left k rows text ≡ not_at place
      → Stopped left k rows text place
  unrows_stops zero k rows [] place r e = absurd (let z : ◌≡◌ {A = ℕ} 0 1 = cc in omega arith)
  unrows_stops zero k rows (c ∷ text) place r e = here zero k rows (c ∷ text) place r (cc) (λ h rest. refl)
  unrows_stops (suc left) k rows text place r e =
      ⊎_elim
      (λ b.
      let line = row_line b.row in
      let i = row_line_lem b.good in
      let step = row-right l rows t left k b.good b.fresh in
      let reads = unrows t l (suc left) k rows in
      let n = unrows_stops left (suc k) (rows ++ (b.row ∷ [])) b.later place (rows_then r b.good b.fresh) (sym (ap reads b.parts ∙ step b.later) ∙ e) in
      let feeds : line_feeds text ≡ suc (line_feeds b.later) = ap line_feeds b.parts ∙ line_counted i b.later in
      let firsts : (j : ℕ) → first_lines (suc j) text ≡ line ++ first_lines j b.later = λ j. ap (first_lines (suc j)) b.parts ∙ lines-first i b.later j in
      let next = first_lines (suc (length n.more)) b.later in
      record {
        more = b.row ∷ n.more;
        place_is = omega (arith, n.place_is);
        few = omega (arith, n.few);
        inside = omega (arith, n.inside);
        are_rows = subst (Rows l) (append_snoc rows b.row n.more) n.are_rows;
        lines = firsts (length n.more) ∙ ap (line ++◌) n.lines;
        stays = λ h rest.
            ap (λ x. reads (x ++ rest)) (firsts (suc (length n.more))) ∙ ap reads (append_assoc line next rest) ∙ step (next ++ rest) ∙ n.stays (omega arith) rest;
      })
      (λ w.
      let f = row-wrong l rows t left k in
      let g = f text w in
      here (suc left) k rows text place r (cc)
      (λ h rest. f (first_lines 1 text ++ rest) (rw (first_again text rest h) w)))
      (row_or_not l rows text)
