-- The reading of rows, line by line, finds every list of rows and nothing else.
-- Assumes nothing.
use mathlib.Core.Path.{◌≡◌, refl, sym, ap, ◌∙◌, subst}
use mathlib.Core.List.{List, [], ◌∷◌, ◌++◌, append-nil}
use mathlib.Core.Logic.{⊎_elim}
use Prim.Native.Nat.{ℕ, zero, suc}
use native.Mathlib.Omega.{arith}
use lib.ListN.{length, get_or}
use lib.Seq.{append_snoc}
use Rattle.shamir.specs.Lists.{All, Distinct}
use Rattle.rows.specs.Storage.{identifiers}
use Rattle.sheets.specs.Sheet.{row_line, row_lines}
use Rattle.reading.specs.Unsheet.{sheet_of, unrows}
use Rattle.reading.specs.Lines.{Row, Rows}
use Rattle.reading.proofs.FreshNumbers.{distinct-before}
use Rattle.reading.proofs.Completed.{ids-append, rows_then}
use Rattle.reading.proofs.Beginnings.{row_or_not, row-right, row-wrong}

module _ (t l : ℕ) where
  pub unrows_finds : (more rows : List (List ℕ)) (k : ℕ) → All (Row l) more → Distinct (identifiers (rows ++ more))
      → unrows t l (length more) k rows (row_lines more) ≡ sheet_of t l (rows ++ more)
  unrows_finds [] rows k h d = ap (sheet_of t l) (sym (append-nil rows))
  unrows_finds (row ∷ more) rows k h d =
      let fresh = distinct-before (identifiers rows) (get_or row 0 0) (identifiers more) (subst Distinct (ids-append rows (row ∷ more)) d) in
      let together = append_snoc rows row more in
      row-right l rows t (length more) k h.0 fresh (row_lines more)
      ∙ unrows_finds more (rows ++ (row ∷ [])) (suc k) h.1 (subst (λ x. Distinct (identifiers x)) (sym together) d)
      ∙ ap (sheet_of t l) together

  -- the rows of a text, behind others
  pub record Taken (left : ℕ) (rows : List (List ℕ)) (text : List ℕ) (u v : ℕ) (found : List (List ℕ)) : Type 0 where
    pub threshold_is : t ≡ u
    pub values_are : l ≡ v
    pub more : List (List ℕ)
    pub found_is : rows ++ more ≡ found
    pub count : length more ≡ left
    pub are_rows : Rows l (rows ++ more)
    pub lines : text ≡ row_lines more

  pub unrows-takes : (left k : ℕ) (rows : List (List ℕ)) (text : List ℕ) (u v : ℕ) (found : List (List ℕ)) → Rows l rows
      → unrows t l left k rows text ≡ sheet_of u v found → Taken left rows text u v found
  unrows-takes zero k rows [] u v found r e = record {
    threshold_is = cc;
    values_are = cc;
    more = [];
    found_is = append-nil rows ∙ cc;
    count = refl;
    are_rows = subst (Rows l) (sym (append-nil rows)) r;
    lines = refl;
  }
  unrows-takes zero k rows (c ∷ text) u v found r e = absurd (let z : ◌≡◌ {A = ℕ} 0 1 = cc in omega arith)
  unrows-takes (suc left) k rows text u v found r e =
      ⊎_elim
      (λ b.
      let step = ap (unrows t l (suc left) k rows) b.parts ∙ row-right l rows t left k b.good b.fresh b.later in
      let n = unrows-takes left (suc k) (rows ++ (b.row ∷ [])) b.later u v found (rows_then r b.good b.fresh) (sym step ∙ e) in
      let together = append_snoc rows b.row n.more in
      record {
        threshold_is = n.threshold_is;
        values_are = n.values_are;
        more = b.row ∷ n.more;
        found_is = sym together ∙ n.found_is;
        count = ap suc n.count;
        are_rows = subst (Rows l) together n.are_rows;
        lines = b.parts ∙ ap (row_line b.row ++◌) n.lines;
      })
      (λ w. absurd (let f = row-wrong l rows t left k text w in let z : ◌≡◌ {A = ℕ} 0 1 = cc in omega arith))
      (row_or_not l rows text)
