-- The lines of a sheet: how long they are, and that their pieces make them.
-- Assumes nothing.
use mathlib.Core.Path.{◌≡◌, ap, ◌∙◌, subst}
use mathlib.Core.List.{List, [], ◌∷◌, ◌++◌, append_assoc}
use Prim.Native.Nat.{ℕ, ◌+◌, ◌*◌, ◌-◌, ◌<◌, ◌≤◌}
use native.Mathlib.Omega.{arith}
use lib.ListN.{length, get_or, take, drop, length-append, length-drop}
use lib.Seq.{take_all}
use Rattle.sheets.specs.Text.{tab, line_feed, decimal, hex}
use Rattle.sheets.specs.Sheet.{seal_word, row_word, head_line, row_line}
use Rattle.sheets.specs.Writing.{Puts}
use Rattle.sheets.proofs.Hex.{length-hex}
use Rattle.sheets.proofs.TextLength.{length-row_line}
use Rattle.sheets.proofs.Writing.{puts_then, puts-length}

pub head-length : (t m l : ℕ) → length (head_line t m l) ≡ length (decimal t) + length (decimal m) + length (decimal l) + 8
head-length t m l =
    omega (
      arith,
      length-append (decimal t) (tab ∷ (decimal m ++ tab ∷ (decimal l ++ (line_feed ∷ [])))),
      length-append (decimal m) (tab ∷ (decimal l ++ (line_feed ∷ []))),
      length-append (decimal l) (line_feed ∷ []),
    )

pub row-length : (row : List ℕ) → 0 < length row → length (row_line row) ≡ length (decimal (get_or row 0 0)) + length row * 2 + 4
row-length row some = omega (arith, length-row_line row, length-drop 1 row)

row_pieces : (w d h : List ℕ) → (((w ++ d) ++ (tab ∷ [])) ++ h) ++ (line_feed ∷ []) ≡ w ++ (d ++ tab ∷ (h ++ (line_feed ∷ [])))
row_pieces w d h = simp append_assoc

-- what is put piece by piece is the row's line
pub row_put : (row : List ℕ) (at : ℕ) (out : List ℕ) {n₁ n₂ n₃ n₄ e : ℕ} {mid₁ mid₂ mid₃ mid₄ left values : List ℕ} → at ≤ length out → values ≡ drop 1 row
    → Puts row_word at out n₁ mid₁ → Puts (tab ∷ decimal (get_or row 0 0)) n₁ mid₁ n₂ mid₂ → Puts (tab ∷ []) n₂ mid₂ n₃ mid₃ → Puts (hex values) n₃ mid₃ n₄ mid₄
    → Puts (line_feed ∷ []) n₄ mid₄ e left → Puts (row_line row) at out e left
row_put row at out {e = e} {left = left} {values = values} inside are word number parted digits ended =
    subst (λ t. Puts t at out e left)
    (row_pieces row_word (tab ∷ decimal (get_or row 0 0)) (hex values) ∙ ap (λ v. row_line (get_or row 0 0 ∷ v)) are)
    (puts_then inside (puts_then inside (puts_then inside (puts_then inside word number) parted) digits) ended)

-- there is room for its values
pub row_room : (row : List ℕ) (at : ℕ) (out : List ℕ) {n₁ n₂ n₃ : ℕ} {mid₁ mid₂ mid₃ : List ℕ} → 0 < length row → at + length (row_line row) ≤ length out
    → Puts row_word at out n₁ mid₁ → Puts (tab ∷ decimal (get_or row 0 0)) n₁ mid₁ n₂ mid₂ → Puts (tab ∷ []) n₂ mid₂ n₃ mid₃
    → n₃ + length (hex (take (length row - 1) (drop 1 row))) ≤ length mid₃
row_room row at out some room word number parted =
    let start = row_word ++ tab ∷ decimal (get_or row 0 0) in
    let inside : at ≤ length out = omega arith in
    let all = puts_then inside (puts_then inside word number) parted in
    let long = row-length row some in
    let count : length (start ++ (tab ∷ [])) ≡ length (decimal (get_or row 0 0)) + 5 = omega (arith, length-append start (tab ∷ []), length-append row_word (tab ∷ decimal (get_or row 0 0))) in
    let fits : at + length (start ++ (tab ∷ [])) ≤ length out = omega (arith, long) in
    omega (arith, all.ends, puts-length fits all, count, long, length-hex (take (length row - 1) (drop 1 row)), length-drop 1 row, ap length (take_all (length row - 1) (drop 1 row) (omega (arith, length-drop 1 row))))

head_pieces : (w a b c : List ℕ) → (((w ++ a) ++ b) ++ c) ++ (line_feed ∷ []) ≡ w ++ (a ++ (b ++ (c ++ (line_feed ∷ []))))
head_pieces w a b c = simp append_assoc

-- what is put piece by piece is the first line
pub head_put : (t m l at : ℕ) (out : List ℕ) {n₁ n₂ n₃ n₄ e : ℕ} {mid₁ mid₂ mid₃ mid₄ left : List ℕ} → at ≤ length out
    → Puts seal_word at out n₁ mid₁ → Puts (tab ∷ decimal t) n₁ mid₁ n₂ mid₂ → Puts (tab ∷ decimal m) n₂ mid₂ n₃ mid₃ → Puts (tab ∷ decimal l) n₃ mid₃ n₄ mid₄
    → Puts (line_feed ∷ []) n₄ mid₄ e left → Puts (head_line t m l) at out e left
head_put t m l at out {e = e} {left = left} inside word first second third ended =
    subst (λ x. Puts x at out e left) (head_pieces seal_word (tab ∷ decimal t) (tab ∷ decimal m) (tab ∷ decimal l))
    (puts_then inside (puts_then inside (puts_then inside (puts_then inside word first) second) third) ended)
