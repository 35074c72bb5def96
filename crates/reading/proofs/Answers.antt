-- What the reader answers and leaves, by what is found in the text.
-- Assumes nothing.
use mathlib.Core.Path.{◌≡◌, refl, sym, ap, ap₂, ◌∙◌}
use mathlib.Core.Bool.{Bool, true, false}
use mathlib.Core.List.{List, ◌++◌}
use Prim.Native.Nat.{ℕ, ◌<◌, ◌≤◌}
use lib.Dec.{ltb}
use lib.ListN.{length, drop}
use borrow.Author.Tests.{lt-ltb, le-ltb}
use Rattle.answer.specs.Outcome.{Outcome, done, refused, refuse}
use Rattle.rows.specs.Storage.{laid}
use Rattle.rows.specs.Lengths.{four_bytes}
use Rattle.row_set.proofs.Chains.{passed}
use Rattle.reading.specs.Unsheet.{sheet_of, not_at, unsheet}
use Rattle.reading.specs.Answer.{head_of, rows_of, answer_to, left_in, read_answer, read_head, read_rows, ReadsSheet}

-- ---- the answer

pub no_sheet : (text : List ℕ) {k : ℕ} → unsheet text ≡ not_at k → (headRoom room : ℕ) → read_answer text headRoom room ≡ refused 14 k 0
unfolding read_answer
no_sheet text e headRoom room = ap (λ r. answer_to r headRoom room) e

either_way : (test : Bool) (o : Outcome) → refuse test o o ≡ o
either_way true o = refl
either_way false o = refl

module _ (text : List ℕ) {t l : ℕ} {rows : List (List ℕ)} (e : unsheet text ≡ sheet_of t l rows) (headRoom room : ℕ) where
  judged : {a b : Bool} → ltb headRoom 12 ≡ a → ltb room (length (laid rows)) ≡ b
      → read_answer text headRoom room ≡ refuse a (refused 12 0 0) (refuse b (refused 12 0 0) (done (length (laid rows))))
  unfolding read_answer
  judged p q = ap (λ r. answer_to r headRoom room) e ∙ ap₂ (λ x y. refuse x (refused 12 0 0) (refuse y (refused 12 0 0) (done (length (laid rows))))) p q

  pub short_head : headRoom < 12 → read_answer text headRoom room ≡ refused 12 0 0
  short_head h = judged (lt-ltb headRoom 12 h) refl

  pub short_room : room < length (laid rows) → read_answer text headRoom room ≡ refused 12 0 0
  short_room h = judged refl (lt-ltb room (length (laid rows)) h) ∙ either_way (ltb headRoom 12) (refused 12 0 0)

  pub room-enough : 12 ≤ headRoom → length (laid rows) ≤ room → read_answer text headRoom room ≡ done (length (laid rows))
  room-enough h k = judged (le-ltb headRoom 12 h) (le-ltb room (length (laid rows)) k)

  pub count_is : {count : ℕ} → read_answer text headRoom room ≡ done count → length (laid rows) ≡ count
  count_is {count} a =
      let p = passed (ltb headRoom 12) 12 0 0 _ count (sym (judged refl refl) ∙ a) in
      let q = passed (ltb room (length (laid rows))) 12 0 0 _ count p.1 in
      cc q.1

-- ---- what is left

module _ {text head out : List ℕ} where
  pub refused-leaves : {n i j : ℕ} → read_answer text (length head) (length out) ≡ refused n i j → ReadsSheet text head out (refused n i j) head out
  unfolding read_head read_rows
  refused-leaves a = record {
    answers = sym a;
    head_leaves = sym (ap (λ o. left_in o (head_of (unsheet text)) head) a);
    leaves = sym (ap (λ o. left_in o (rows_of (unsheet text)) out) a);
  }

  pub done-leaves : {t l : ℕ} {rows : List (List ℕ)} {count : ℕ} → unsheet text ≡ sheet_of t l rows → read_answer text (length head) (length out) ≡ done count
      → ReadsSheet text head out (done count) (four_bytes t ++ four_bytes (length rows) ++ four_bytes l ++ drop 12 head) (laid rows ++ drop (length (laid rows)) out)
  unfolding read_head read_rows
  done-leaves e a = record {
    answers = sym a;
    head_leaves = sym (ap₂ (λ o r. left_in o (head_of r) head) a e);
    leaves = sym (ap₂ (λ o r. left_in o (rows_of r) out) a e);
  }
