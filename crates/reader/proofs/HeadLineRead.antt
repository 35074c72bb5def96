-- The first line, as it is read: what stands where, if a text begins with a first line; and that nothing else passes.
-- Assumes nothing.
use mathlib.Core.Path.{◌≡◌, sym, ap, ◌∙◌}
use mathlib.Core.Logic.{⊎_elim}
use mathlib.Core.List.{List, [], ◌∷◌, ◌++◌, append_assoc}
use Prim.Native.Nat.{ℕ}
use Rattle.std.proofs.lemmas.List.{append_cancel_left}
use Rattle.row_set.specs.Limits.{max_shares, max_secret}
use Rattle.sheets.specs.Text.{decimal}
use Rattle.sheets.specs.Sheet.{seal_word, head_line}
use Rattle.reading.specs.Lines.{Head}
use Rattle.reading.specs.Unsheet.{not_at, unsheet}
use Rattle.reading.proofs.Beginnings.{head-wrong, head_or_not}
use Rattle.reader.specs.Taking.{FieldRead, NoField, HeadRead}
use Rattle.reader.proofs.FieldRead.{tab-ends, feed_ends, field_told}

pieces : (d e f rest : List ℕ) → (d ++ 9 ∷ (e ++ 9 ∷ (f ++ (10 ∷ [])))) ++ rest ≡ d ++ 9 ∷ (e ++ 9 ∷ (f ++ 10 ∷ rest))
pieces d e f rest =
    append_assoc d (9 ∷ (e ++ 9 ∷ (f ++ (10 ∷ [])))) rest
    ∙ ap (λ x. d ++ 9 ∷ x) (append_assoc e (9 ∷ (f ++ (10 ∷ []))) rest ∙ ap (λ x. e ++ 9 ∷ x) (append_assoc f (10 ∷ []) rest))

-- the fields behind the word
fields : ℕ → ℕ → ℕ → List ℕ → List ℕ
fields t m l rest = 9 ∷ (decimal t ++ 9 ∷ (decimal m ++ 9 ∷ (decimal l ++ 10 ∷ rest)))

head_is : (t m l : ℕ) (rest : List ℕ) → head_line t m l ++ rest ≡ seal_word ++ fields t m l rest
unfolding fields
head_is t m l rest = ap (λ x. seal_word ++ 9 ∷ x) (pieces (decimal t) (decimal m) (decimal l) rest)

-- a text that begins with no first line
no-head : (text : List ℕ) → ((t m l : ℕ) (rest : List ℕ) → Head t m l → text ≡ head_line t m l ++ rest → ⊥) → unsheet text ≡ not_at 0
no-head text n = ⊎_elim (λ b. absurd (n b.t b.m b.l b.later b.head b.parts)) (head-wrong text) (head_or_not text)

-- ---- one piece after another

-- without its word there is no first line, ..
pub no_word : (text : List ℕ) → ((rest : List ℕ) → text ≡ seal_word ++ rest → ⊥) → unsheet text ≡ not_at 0
no_word text n = no-head text (λ t m l rest h f. n _ f)

module _ (text : List ℕ) {text₁ : List ℕ} (word : text ≡ seal_word ++ text₁) where
  behind_word : (u n k : ℕ) (rest : List ℕ) → text ≡ head_line u n k ++ rest → text₁ ≡ 9 ∷ (decimal u ++ 9 ∷ (decimal n ++ 9 ∷ (decimal k ++ 10 ∷ rest)))
  unfolding fields
  behind_word u n k rest f = append_cancel_left seal_word text₁ _ (sym word ∙ f ∙ head_is u n k rest)

  -- .. nor without its threshold, ..
  pub no-threshold : NoField text₁ 2 max_shares → unsheet text ≡ not_at 0
  no-threshold none = no-head text (λ u n k rest h f. none u 9 _ h.threshold_least h.threshold_most tab-ends (behind_word u n k rest f))

  module _ {t : ℕ} {text₂ : List ℕ} (first : FieldRead text₁ 2 max_shares t text₂) where
    behind_threshold : (u n k : ℕ) (rest : List ℕ) → Head u n k → text ≡ head_line u n k ++ rest → text₂ ≡ 9 ∷ (decimal n ++ 9 ∷ (decimal k ++ 10 ∷ rest))
    behind_threshold u n k rest h f = (field_told first u 9 _ h.threshold_least h.threshold_most tab-ends (behind_word u n k rest f)).1

    -- .. its row count, ..
    pub no_rows : NoField text₂ 1 max_shares → unsheet text ≡ not_at 0
    no_rows none = no-head text (λ u n k rest h f. none n 9 _ h.some_rows h.rows_most tab-ends (behind_threshold u n k rest h f))

    module _ {m : ℕ} {text₃ : List ℕ} (second : FieldRead text₂ 1 max_shares m text₃) where
      behind_rows : (u n k : ℕ) (rest : List ℕ) → Head u n k → text ≡ head_line u n k ++ rest → text₃ ≡ 9 ∷ (decimal k ++ 10 ∷ rest)
      behind_rows u n k rest h f = (field_told second n 9 _ h.some_rows h.rows_most tab-ends (behind_threshold u n k rest h f)).1

      -- .. L, ..
      pub no-values : NoField text₃ 1 max_secret → unsheet text ≡ not_at 0
      no-values none = no-head text (λ u n k rest h f. none k 10 rest h.some_values h.values_most feed_ends (behind_rows u n k rest h f))

      module _ {l : ℕ} {text₄ : List ℕ} (third : FieldRead text₃ 1 max_secret l text₄) where
        -- .. and its line feed
        pub no_end : ((rest : List ℕ) → text₄ ≡ 10 ∷ rest → ⊥) → unsheet text ≡ not_at 0
        no_end none =
            no-head text (λ u n k rest h f. none rest (field_told third k 10 rest h.some_values h.values_most feed_ends (behind_rows u n k rest h f)).1)

        pub right_head : Head t m l
        right_head = record {
          threshold_least = first.low;
          threshold_most = first.high;
          some_rows = second.low;
          rows_most = second.high;
          some_values = third.low;
          values_most = third.high;
        }

        -- with all of them there is one
        pub head_passes : (rest : List ℕ) → text₄ ≡ 10 ∷ rest → HeadRead text t m l rest
        unfolding fields
        head_passes rest ended = record {
          numbers = right_head;
          stands = word
              ∙ ap (seal_word ++◌) (first.stands
              ∙ ap (λ x. 9 ∷ (decimal t ++ x)) (second.stands ∙ ap (λ x. 9 ∷ (decimal m ++ x)) (third.stands ∙ ap (λ x. 9 ∷ (decimal l ++ x)) ended)))
              ∙ sym (head_is t m l rest);
        }
