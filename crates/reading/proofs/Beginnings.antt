-- One line is read: a text begins with a right line, and is read on behind it, or its first line is wrong, and it is refused there.
-- Assumes nothing.
use mathlib.Core.Path.{◌≡◌, refl, sym, ap, ap₂, ◌∙◌}
use mathlib.Core.Bool.{Bool, true, false, cond}
use mathlib.Core.List.{List, [], ◌∷◌, ◌++◌, append-nil}
use mathlib.Core.Logic.{◌⊎◌, inl, inr}
use Prim.Native.Nat.{ℕ, suc}
use lib.ListN.{get_or}
use Rattle.shamir.specs.Lists.{Fresh}
use Rattle.rows.specs.Storage.{identifiers}
use Rattle.sheets.specs.Sheet.{head_line, row_line}
use Rattle.reading.specs.Reading.{first_lines}
use Rattle.sheets.specs.ReadAs.{value}
use Rattle.reading.specs.Unsheet.{field_at, after_line, right_head, row_of, right_row, Read, not_at, unrows, unsheet}
use Rattle.reading.specs.Lines.{Head, Row}
use Rattle.reading.proofs.TextLines.{IsLine, line_and_rest, lines-first, line_behind}
use Rattle.reading.proofs.RightLines.{head_true, true_head, head_line_lem, head_read, row_true, true_row, row_line_lem, row_read}

first_is : {x : List ℕ} → IsLine x → (v : List ℕ) → first_lines 1 (x ++ v) ≡ x
first_is {x} i v = lines-first i v 0 ∙ append-nil x

begins_with : {x : List ℕ} (text : List ℕ) → first_lines 1 text ≡ x → text ≡ x ++ after_line text
begins_with text e = sym (line_and_rest text) ∙ ap (◌++ after_line text) e

-- ---- the first line

pub record HeadBegins (text : List ℕ) : Type 0 where
  pub t : ℕ
  pub m : ℕ
  pub l : ℕ
  pub head : Head t m l
  pub later : List ℕ
  pub parts : text ≡ head_line t m l ++ later

abbrev number : ℕ → List ℕ → ℕ
number i line = value (field_at i line)

abbrev head_test : List ℕ → Bool
head_test line = right_head (number 1 line) (number 2 line) (number 3 line) line

-- what follows from a line that is read as these numbers, with such a text behind it
abbrev head_judged : List ℕ → ℕ → ℕ → ℕ → List ℕ → Read
head_judged line t m l later = cond (right_head t m l line) (unrows t l m 1 [] later) (not_at 0)

pub head-right : (t m l : ℕ) → Head t m l → (v : List ℕ) → unsheet (head_line t m l ++ v) ≡ unrows t l m 1 [] v
unfolding unsheet
head-right t m l h v =
    let line = head_line t m l in
    let n = head_read t m l in
    ap₂ (λ x y. head_judged x (number 1 x) (number 2 x) (number 3 x) y) (first_is (head_line_lem t m l) v) (line_behind (head_line_lem t m l) v)
    ∙ ap (λ x. head_judged line x (number 2 line) (number 3 line) v) n.0
    ∙ ap₂ (λ x y. head_judged line t x y v) n.1 n.2
    ∙ ap (λ b. cond b (unrows t l m 1 [] v) (not_at 0)) (true_head t m l h)

pub head-wrong : (text : List ℕ) → head_test (first_lines 1 text) ≡ false → unsheet text ≡ not_at 0
unfolding unsheet
head-wrong text e =
    let line = first_lines 1 text in
    ap (λ b. cond b (unrows (number 1 line) (number 3 line) (number 2 line) 1 [] (after_line text)) (not_at 0)) e

pub head_or_not : (text : List ℕ) → HeadBegins text ⊎ (head_test (first_lines 1 text) ≡ false)
head_or_not text = pick (head_test line) refl
  where
    line : List ℕ
    line = first_lines 1 text

    pick : (b : Bool) → head_test line ≡ b → HeadBegins text ⊎ (head_test line ≡ false)
    pick true e =
        let p = head_true (number 1 line) (number 2 line) (number 3 line) line e in
        inl (record { t = number 1 line; m = number 2 line; l = number 3 line; head = p.0; later = after_line text; parts = begins_with text p.1 })
    pick false e = inr e

-- ---- the line of a row, behind other rows

module _ (l : ℕ) (rows : List (List ℕ)) where
  pub record RowBegins (text : List ℕ) : Type 0 where
    pub row : List ℕ
    pub good : Row l row
    pub fresh : Fresh (get_or row 0 0) (identifiers rows)
    pub later : List ℕ
    pub parts : text ≡ row_line row ++ later

  abbrev row_test : List ℕ → Bool
  row_test line = right_row l (identifiers rows) (row_of line) line

  pub row_or_not : (text : List ℕ) → RowBegins text ⊎ (row_test (first_lines 1 text) ≡ false)
  row_or_not text = pick (row_test line) refl
    where
      line : List ℕ
      line = first_lines 1 text

      pick : (b : Bool) → row_test line ≡ b → RowBegins text ⊎ (row_test line ≡ false)
      pick true e =
          let p = row_true l (identifiers rows) (row_of line) line e in
          inl (record { row = row_of line; good = p.0; fresh = p.1; later = after_line text; parts = begins_with text p.2 })
      pick false e = inr e

  module _ (t left k : ℕ) where
    -- what follows from a line that is read as this row, with such a text behind it
    abbrev row_judged : List ℕ → List ℕ → List ℕ → Read
    row_judged line row later = cond (right_row l (identifiers rows) row line) (unrows t l left (suc k) (rows ++ (row ∷ [])) later) (not_at k)

    pub row-right : {row : List ℕ} → Row l row → Fresh (get_or row 0 0) (identifiers rows) → (v : List ℕ)
        → unrows t l (suc left) k rows (row_line row ++ v) ≡ unrows t l left (suc k) (rows ++ (row ∷ [])) v
    row-right {row} h f v =
        ap₂ (λ x y. row_judged x (row_of x) y) (first_is (row_line_lem h) v) (line_behind (row_line_lem h) v)
        ∙ ap (λ r. row_judged (row_line row) r v) (row_read h)
        ∙ ap (λ b. cond b (unrows t l left (suc k) (rows ++ (row ∷ [])) v) (not_at k)) (true_row h (identifiers rows) f)

    pub row-wrong : (text : List ℕ) → row_test (first_lines 1 text) ≡ false → unrows t l (suc left) k rows text ≡ not_at k
    row-wrong text e = ap (λ b. cond b (unrows t l left (suc k) (rows ++ (row_of (first_lines 1 text) ∷ [])) (after_line text)) (not_at k)) e
