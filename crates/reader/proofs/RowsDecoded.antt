-- Rows are decoded one behind the other.
-- Assumes nothing.
use mathlib.Core.Path.{◌≡◌, sym, ap, ◌∙◌, subst}
use mathlib.Core.List.{List, [], ◌∷◌, ◌++◌, append_assoc, append-nil}
use Prim.Native.Nat.{ℕ, zero, suc, ◌+◌, ◌-◌, ◌<◌}
use native.Mathlib.Numerals.{add-one}
use native.Mathlib.Omega.{arith}
use lib.ListN.{length, get_or, take, drop}
use lib.Seq.{drop-cons}
use borrow.Rule.Slice.PartMut.{put_mid}
use Rattle.shamir.specs.Lists.{All}
use Rattle.shamir.proofs.Lists.{all_drop}
use Rattle.rows.specs.Storage.{laid}
use Rattle.sheets.specs.Sheet.{row_line, row_lines}
use Rattle.sheets.specs.Writing.{Puts}
use Rattle.sheets.proofs.Writing.{puts_then}
use Rattle.reading.specs.Lines.{Row}
use Rattle.reader.specs.Taking.{SomeRow, TakesRow, RowsStand, SomeRows}
use Rattle.reader.proofs.Decoded.{puts_part}

-- of the rows of a text the first i are decoded, to p, and rest is the others' lines
pub record TakenTo (text : List ℕ) (m l i : ℕ) (rest : List ℕ) (p : ℕ) (out left : List ℕ) : Type 0 where
  pub others : (rows : List (List ℕ)) → RowsStand text m l rows → rest ≡ row_lines (drop i rows)
  pub puts : (rows : List (List ℕ)) → RowsStand text m l rows → Puts (laid (take i rows)) 0 out p left

laid_more : (rows : List (List ℕ)) (i : ℕ) → i < length rows → laid (take i rows) ++ get_or rows i [] ≡ laid (take (i + 1) rows)
laid_more [] i h = absurd (omega arith)
laid_more (row ∷ rows) zero h = sym (append-nil row)
laid_more (row ∷ rows) (suc i) h =
    let next : suc (i + 1) ≡ suc i + 1 = omega arith in
    append_assoc row (laid (take i rows)) (get_or rows i [])
    ∙ ap (row ++◌) (laid_more rows i (omega arith))
    ∙ ap (λ k. laid (take k (row ∷ rows))) next

module _ (text : List ℕ) (m l i p : ℕ) (rest out left : List ℕ) (t : TakenTo text m l i rest p out left) (more : i < m) where
  row_next : (rows : List (List ℕ)) → RowsStand text m l rows → Row l (get_or rows i []) × (rest ≡ row_line (get_or rows i []) ++ row_lines (drop (i + 1) rows))
  row_next rows st =
      let first : drop i rows ≡ get_or rows i [] ∷ drop (i + 1) rows = drop-cons rows i [] (omega (arith, st.count)) ∙ ap (λ n. get_or rows i [] ∷ drop n rows) (sym (add-one i)) in
      ((subst (All (Row l)) first (all_drop (Row l) i rows st.are_rows.each)).0, t.others rows st ∙ ap row_lines first)

  pub some-row : SomeRows text m l → SomeRow rest l
  some-row (rows, st) = let r = row_next rows st in (get_or rows i [], row_lines (drop (i + 1) rows), r.0, r.1)

  -- one row more, to k
  pub row_more : (q k : ℕ) (after new : List ℕ) → q ≡ p + (l + 1) → k ≡ p + (l + 1) → TakesRow rest l new after → TakenTo text m l (i + 1) after k out (put_mid p (q - p) left new)
  row_more q k after new end next one = record {
    others = λ rows st. let r = row_next rows st in (one.takes _ _ r.0 r.1).1;
    puts = λ rows st.
        let r = row_next rows st in
        let is : new ≡ get_or rows i [] = (one.takes _ _ r.0 r.1).0 in
        let there : q ≡ k = omega arith in
        subst (λ e. Puts (laid (take (i + 1) rows)) 0 out e (put_mid p (q - p) left new)) there
        (subst (λ x. Puts x 0 out q (put_mid p (q - p) left new)) (ap (laid (take i rows) ++◌) is ∙ laid_more rows i (omega (arith, st.count)))
        (puts_then (omega arith) (t.puts rows st) (puts_part p q left new (omega (arith, ap length is, r.0.long)))));
  }
