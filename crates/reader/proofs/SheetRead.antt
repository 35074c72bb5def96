-- What was read of a text decides what the reader answers and leaves.
-- Assumes nothing.
use mathlib.Core.Path.{◌≡◌, sym, ap, ap₂, ◌∙◌}
use mathlib.Core.List.{List, [], ◌++◌}
use Prim.Native.Nat.{ℕ, ◌+◌, ◌*◌, ◌<◌, ◌≤◌}
use native.Mathlib.Omega.{arith}
use lib.ListN.{length, drop}
use mathlib.Core.Bool.{true}
use Rattle.std.proofs.Common.{Result, Ok, Err, MatchResult}
use Rattle.std.specs.Result.{is_ok}
use Rattle.answer.specs.Outcome.{done, refused}
use Rattle.rows.specs.Storage.{laid}
use Rattle.rows.specs.Lengths.{four_bytes}
use Rattle.reading.specs.Unsheet.{sheet_of, not_at, unrows, unsheet}
use Rattle.reading.specs.Answer.{ReadsSheet}
use Rattle.reading.proofs.LaidRows.{length-laid}
use Rattle.reading.proofs.Beginnings.{head-right}
use Rattle.reading.proofs.Unrows.{unrows_finds}
use Rattle.reading.proofs.Answers.{no_sheet, short_head, short_room, room-enough, refused-leaves, done-leaves}
use Rattle.reader.specs.Taking.{HeadRead, RowsStand, SomeRows, TakesRows}

-- ---- what is found

module _ {text rest : List ℕ} {t m l : ℕ} (h : HeadRead text t m l rest) where
  reads_on : unsheet text ≡ unrows t l m 1 [] rest
  reads_on = ap unsheet h.stands ∙ head-right t m l h.numbers rest

  pub wrong_there : {line : ℕ} → ((u : ℕ) → unrows u l m 1 [] rest ≡ not_at line) → unsheet text ≡ not_at line
  wrong_there r = reads_on ∙ r t

  pub found : {rows : List (List ℕ)} → RowsStand rest m l rows → unsheet text ≡ sheet_of t l rows
  found {rows} s =
      reads_on
      ∙ ap₂ (λ n x. unrows t l n 1 [] x) (sym s.count) s.stand
      ∙ unrows_finds t l rows [] 1 s.are_rows.each s.are_rows.distinct

pub rows_long : {text : List ℕ} {m l : ℕ} {rows : List (List ℕ)} → RowsStand text m l rows → length (laid rows) ≡ m * (l + 1)
rows_long {text} {m} {l} {rows} s = length-laid l rows s.are_rows.each ∙ ap (◌* (l + 1)) s.count

-- ---- what is answered

module _ (text head out : List ℕ) where
  pub refuses-text : (k : ℕ) → unsheet text ≡ not_at k → ReadsSheet text head out (refused 14 k 0) head out
  refuses-text k e = refused-leaves (no_sheet text e (length head) (length out))

  module _ {t m l : ℕ} {rest : List ℕ} (h : HeadRead text t m l rest) where
    pub refuses-line : (k : ℕ) → ((u : ℕ) → unrows u l m 1 [] rest ≡ not_at k) → ReadsSheet text head out (refused 14 k 0) head out
    refuses-line k w = refuses-text k (wrong_there h w)

    pub refuses-head : SomeRows rest m l → length head < 12 → ReadsSheet text head out (refused 12 0 0) head out
    refuses-head (rows, s) short = refused-leaves (short_head text (found h s) (length head) (length out) short)

    pub refuses-room : SomeRows rest m l → length out < m * (l + 1) → ReadsSheet text head out (refused 12 0 0) head out
    refuses-room (rows, s) short = refused-leaves (short_room text (found h s) (length head) (length out) (omega (arith, rows_long s)))

    pub reads_sheet : SomeRows rest m l → {left head-left : List ℕ} → 12 ≤ length head → m * (l + 1) ≤ length out
        → head-left ≡ four_bytes t ++ four_bytes m ++ four_bytes l ++ drop 12 head → TakesRows rest m l out left → ReadsSheet text head out (done (m * (l + 1))) head-left left
    reads_sheet (rows, s) room space e z =
        let count = rows_long s in
        let r = done-leaves (found h s) (room-enough text (found h s) (length head) (length out) room (omega arith)) in
        record {
          answers = ap done (sym count) ∙ r.answers;
          head_leaves = e ∙ ap (λ n. four_bytes t ++ four_bytes n ++ four_bytes l ++ drop 12 head) (sym s.count) ∙ r.head_leaves;
          leaves = z.takes rows s ∙ r.leaves;
        }

-- ---- the judgement

-- what is Ok says what it says of an Ok, ..
pub judged_ok : {T E S : Type 0} (Q : E → Type 0) (r : Result T E) → MatchResult r (λ _. S) Q → is_ok r ≡ true → S
judged_ok Q (Ok x) m e = m
judged_ok Q (Err x) m e = cc

-- .. and an error that a map made is what it makes of the one before
pub judged_err : {T E D : Type 0} (P : T → Type 0) (Q : E → Type 0) (f : E → D) (r : Result T E) (y : D) → MatchResult r P Q
    → MatchResult r (λ x. ◌≡◌ {A = Result T D} (Err y) (Ok x)) (λ x. y ≡ f x) → (x : E) × Q x × (y ≡ f x)
judged_err P Q f (Ok x) y m e = cc
judged_err P Q f (Err x) y m e = (x, m, e)
