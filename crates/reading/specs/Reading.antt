-- The reader of sheets: document 02, §2. It accepts exactly the texts that the writer of §1 can produce.
-- Assumes nothing.
use Rattle.std.specs.Prelude.{◌≡◌, cond, List, [], ◌∷◌, ◌++◌, ℕ, zero, suc, ◌<◌, ◌≤◌, eqb}
use Rattle.answer.specs.Outcome.{done}
use Rattle.shamir.specs.Lists.{Below}
use Rattle.sheets.specs.Text.{line_feed}
use Rattle.sheets.specs.Sheet.{sheet_text, sheet_answer}

-- a text that the writer produces for some call on bytes
pub record IsSheet (text : List ℕ) : Type 0 where
  pub threshold : ℕ
  pub storage : List ℕ
  pub lengths : List ℕ
  pub room : ℕ
  pub count : ℕ
  pub storage_bytes : Below 256 storage
  pub length_bytes : Below 256 lengths
  pub accepted : sheet_answer threshold storage lengths room ≡ done count
  pub written : text ≡ sheet_text threshold storage lengths

-- a text that can be continued to a sheet, by nothing too
pub record Continues (text : List ℕ) : Type 0 where
  pub rest : List ℕ
  pub is_sheet : IsSheet (text ++ rest)

-- how many lines are complete
abbrev pub line_feeds : List ℕ → ℕ
line_feeds [] = 0
line_feeds (c ∷ text) = let others = line_feeds text in cond (eqb c line_feed) (suc others) others

-- the first k lines with their line feeds; all of the text where it has fewer
abbrev pub first_lines : ℕ → List ℕ → List ℕ
first_lines zero text = []
first_lines (suc k) [] = []
first_lines (suc k) (c ∷ text) =
    let others = first_lines k text in
    let longer = first_lines (suc k) text in
    c ∷ cond (eqb c line_feed) others longer

-- Refusal 14 at line k: the text is no sheet; its lines before k can be continued to one; and with line k, where that is complete,
-- they no longer can. A missing last line feed, or too few rows, so counts at the line after the last complete one.
pub record RefusedAt (text : List ℕ) (k : ℕ) : Type 0 where
  pub no_sheet : IsSheet text → ⊥
  pub inside : k ≤ line_feeds text
  pub before : Continues (first_lines k text)
  pub not_after : k < line_feeds text → Continues (first_lines (suc k) text) → ⊥
