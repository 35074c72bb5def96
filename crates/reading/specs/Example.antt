-- What is found in document 02's example, whole and damaged, and what the reader answers and leaves there.
-- Assumes nothing.
use Rattle.std.specs.Prelude.{◌≡◌, [], ◌∷◌, ◌++◌, take, drop, replicate}
use Rattle.answer.specs.Outcome.{done, refused}
use Rattle.rows.specs.Storage.{cut}
use Rattle.rows.specs.Lengths.{lengths_of}
use Rattle.sheets.specs.Promises.{rows_g, lengths_g, sheet_g}
use Rattle.reading.specs.Unsheet.{sheet_of, not_at, unsheet}
use Rattle.reading.specs.Answer.{read_answer, read_head, read_rows}

pub record ReadG : Type 0 where
  -- whole, without its last line feed, with one more, and with the first row twice
  pub found : unsheet sheet_g ≡ sheet_of 2 1 (cut (lengths_of lengths_g) rows_g)
  pub unended : unsheet (take 37 sheet_g) ≡ not_at 3
  pub longer : unsheet (sheet_g ++ (10 ∷ [])) ≡ not_at 4
  pub twice : unsheet (take 20 sheet_g ++ drop 11 sheet_g) ≡ not_at 2
  -- in just enough room; in a head of 13 bytes and an output of 8, of which the last stay as they were
  pub answer : read_answer sheet_g 12 6 ≡ done 6
  pub head : read_head sheet_g (replicate 13 7) (replicate 8 9) ≡ 2 ∷ 0 ∷ 0 ∷ 0 ∷ 3 ∷ 0 ∷ 0 ∷ 0 ∷ 1 ∷ 0 ∷ 0 ∷ 0 ∷ 7 ∷ []
  pub rows : read_rows sheet_g (replicate 13 7) (replicate 8 9) ≡ rows_g ++ (9 ∷ 9 ∷ [])
  -- either room short by one; no room at all for a damaged text: 14 comes before 12
  pub short_head : read_answer sheet_g 11 6 ≡ refused 12 0 0
  pub short_room : read_answer sheet_g 12 5 ≡ refused 12 0 0
  pub damaged : read_answer (take 37 sheet_g) 0 0 ≡ refused 14 3 0
