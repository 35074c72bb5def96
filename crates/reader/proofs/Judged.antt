-- The rows that were read so far, and what the next line makes of them.
-- Assumes nothing.
use mathlib.Core.Path.{◌≡◌, refl, sym, ap, ap₂, ◌∙◌, subst}
use mathlib.Core.Bool.{Bool, true, false}
use mathlib.Core.List.{List, [], ◌∷◌, ◌++◌, append_assoc, append-nil}
use mathlib.Core.Logic.{⊎_elim}
use Prim.Native.Nat.{ℕ, suc, ◌+◌, ◌-◌, ◌<◌, ◌≤◌}
use native.Mathlib.Numerals.{add-one}
use native.Mathlib.Omega.{arith}
use lib.ListN.{length, get_or, set, replicate, length-append, drop_of_length-le}
use lib.Dec.{eqb}
use lib.Seq.{drop-cons}
use borrow.Author.Tests.{eqb-true, eqb-false}
use Rattle.shamir.specs.Lists.{Fresh}
use Rattle.shamir.proofs.Lists.{all_in}
use Rattle.rows.specs.Storage.{identifiers}
use Rattle.sheets.specs.Sheet.{row_line, row_lines}
use Rattle.sheets.proofs.Lines.{Writable, row_told}
use Rattle.reading.specs.Lines.{Row, Rows}
use Rattle.reading.specs.Unsheet.{not_at, unrows}
use Rattle.reading.proofs.Completed.{ids-append, rows_then, row_lines-append}
use Rattle.reading.proofs.Beginnings.{RowBegins, row_or_not, row-right, row-wrong}
use Rattle.reading.proofs.Unsheet.{no_rows}
use Rattle.reader.specs.Taking.{RowRead, NoRow, SomeRows}
use Rattle.rows.proofs.Marks.{Seen, seen_none, seen_more}

-- the lines before line, up to rest, are those of right rows, and the text is read on from there
pub record ReadTo (text : List ℕ) (m l : ℕ) (seen : List Bool) (line : ℕ) (rest : List ℕ) : Type 0 where
  pub rows : List (List ℕ)
  pub are_rows : Rows l rows
  pub few : length rows ≤ m
  pub line_is : line ≡ length rows + 1
  pub stood : text ≡ row_lines rows ++ rest
  pub reads : (t : ℕ) → unrows t l m 1 [] text ≡ unrows t l (m - length rows) line rows rest
  pub met : Seen seen (identifiers rows)

-- line k is the first wrong one
abbrev pub WrongAt : List ℕ → ℕ → ℕ → ℕ → Type 0
WrongAt text m l k = (t : ℕ) → unrows t l m 1 [] text ≡ not_at k

pub nothing_read : (text : List ℕ) (m l : ℕ) → ReadTo text m l (replicate 256 false) 1 text
nothing_read text m l = record {
  rows = [];
  are_rows = no_rows l;
  few = omega arith;
  line_is = refl;
  stood = refl;
  reads = λ t. let none : m ≡ m - 0 = omega arith in ap (λ n. unrows t l n 1 [] text) none;
  met = seen_none;
}

module _ {text : List ℕ} {m l : ℕ} {seen : List Bool} {line : ℕ} {rest : List ℕ} (p : ReadTo text m l seen line rest) where
  -- a line behind them at which no new row stands is the first wrong one, ..
  stops : line ≤ m → (RowBegins l p.rows rest → ⊥) → WrongAt text m l line
  stops more none t =
      let left : m - length p.rows ≡ suc (m - line) = omega (arith, p.line_is) in
      p.reads t
      ∙ ap (λ n. unrows t l n line p.rows rest) left
      ∙ ⊎_elim (λ b. absurd (none b)) (row-wrong l p.rows t (m - line) line rest) (row_or_not l p.rows rest)

  pub no_row : line ≤ m → NoRow rest l → WrongAt text m l line
  no_row more none = stops more (λ b. none b.row b.later b.good b.parts)

  module _ {id : ℕ} {behind : List ℕ} (r : RowRead rest l id behind) where
    abbrev row : List ℕ
    row = r.row

    pub id_byte : id < 256
    id_byte = omega (arith, r.identifier, all_in (◌< 256) row 0 (omega (arith, r.is_row.long)) r.is_row.bytes)

    writable : (x : List ℕ) → Row l x → Writable x
    writable x g = record { some = omega (arith, g.long); bytes = g.bytes }

    -- .. so is one whose identifier is marked, ..
    pub repeats : line ≤ m → get_or seen id false ≡ true → WrongAt text m l line
    repeats more taken = stops more (λ b.
        let same = (row_told row b.row _ b.later (writable row r.is_row) (writable b.row b.good) (sym r.stands ∙ b.parts)).0 in
        let two : true ≡ false = sym taken ∙ p.met.marked id id_byte (subst (λ x. Fresh x (identifiers p.rows)) (ap (λ x. get_or x 0 0) (sym same) ∙ r.identifier) b.fresh) in
        cc)

    -- .. and with a new row the text is read on behind it
    pub row_read : line ≤ m → get_or seen id false ≡ false → ReadTo text m l (set seen id true) (line + 1) behind
    row_read more free =
        let rows = p.rows in
        let rows' = rows ++ (row ∷ []) in
        let count : length rows' ≡ length rows + 1 = length-append rows (row ∷ []) in
        let fresh = subst (λ x. Fresh x (identifiers rows)) (sym r.identifier) (p.met.unmarked id id_byte free) in
        let left : m - length rows ≡ suc (m - length rows') = omega (arith, p.line_is) in
        record {
          rows = rows';
          are_rows = rows_then p.are_rows r.is_row fresh;
          few = omega (arith, p.line_is);
          line_is = omega (arith, p.line_is);
          stood = p.stood
              ∙ ap (row_lines rows ++◌) r.stands
              ∙ sym (append_assoc (row_lines rows) (row_line row) behind)
              ∙ ap (◌++ behind) (ap (row_lines rows ++◌) (sym (append-nil (row_line row))) ∙ sym (row_lines-append rows (row ∷ [])));
          reads = λ t. p.reads t
              ∙ ap₂ (λ n x. unrows t l n line rows x) left r.stands
              ∙ row-right l rows t (m - length rows') line r.is_row fresh behind
              ∙ ap (λ k. unrows t l (m - length rows') k rows' behind) (sym (add-one line));
          met = subst (Seen (set seen id true)) (ap (λ x. identifiers rows ++ (x ∷ [])) (sym r.identifier) ∙ sym (ids-append rows (row ∷ []))) (seen_more p.met id id_byte);
        }

  -- all lines are read when the next one would be too many
  pub all_read : m < line → ReadTo text m l seen (m + 1) rest
  all_read all = subst (λ k. ReadTo text m l seen k rest) (omega (arith, p.line_is, p.few)) p

module _ {text : List ℕ} {m l : ℕ} {seen : List Bool} {rest : List ℕ} (p : ReadTo text m l seen (m + 1) rest) where
  -- behind all rows nothing may follow
  pub more_follows : eqb (length rest) 0 ≡ false → WrongAt text m l (m + 1)
  more_follows more t =
      let none : m - length p.rows ≡ 0 = omega (arith, p.line_is) in
      let some : 0 < length rest = omega (arith, eqb-false (length rest) 0 more) in
      p.reads t ∙ ap₂ (λ n x. unrows t l n (m + 1) p.rows x) none (drop-cons rest 0 0 some)

  pub all_right : eqb (length rest) 0 ≡ true → SomeRows text m l
  all_right over = (
    p.rows,
    record {
      are_rows = p.are_rows;
      count = omega (arith, p.few, p.line_is);
      stand = p.stood ∙ ap (row_lines p.rows ++◌) (drop_of_length-le rest {i = 0} (omega (arith, eqb-true (length rest) 0 over))) ∙ append-nil (row_lines p.rows);
    },
  )
