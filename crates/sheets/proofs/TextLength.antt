-- The length of a sheet depends on the lengths and the identifiers of its rows, and on no value.
-- Assumes nothing.
use mathlib.Core.Path.{◌≡◌, refl, sym, ap₂, ◌∙◌}
use mathlib.Core.List.{List, [], ◌∷◌}
use Prim.Native.Nat.{ℕ, ◌+◌, ◌*◌}
use native.Mathlib.Omega.{arith}
use lib.ListN.{length, get_or, take, drop, length-append, length-take, length-drop}
use Rattle.rows.specs.Storage.{cut, identifiers}
use Rattle.rows.proofs.Storage.{length_cut}
use Rattle.sheets.specs.Text.{decimal}
use Rattle.sheets.specs.Sheet.{head_line, row_line, row_lines, sheet}
use Rattle.sheets.proofs.Hex.{length-hex}

pub length-row_line : (row : List ℕ) → length (row_line row) ≡ length (decimal (get_or row 0 0)) + 2 * length (drop 1 row) + 6
length-row_line row = simp (length-append, length-hex) (omega arith)

row_line-same : (row other : List ℕ) → length row ≡ length other → get_or row 0 0 ≡ get_or other 0 0 → length (row_line row) ≡ length (row_line other)
row_line-same row other e id =
    let values : length (drop 1 row) ≡ length (drop 1 other) = simp (length-drop, e) in
    length-row_line row ∙ ap₂ (λ i v. length (decimal i) + 2 * v + 6) id values ∙ sym (length-row_line other)

row_lines-same : (ns s z : List ℕ) → length s ≡ length z → identifiers (cut ns s) ≡ identifiers (cut ns z)
    → length (row_lines (cut ns s)) ≡ length (row_lines (cut ns z))
row_lines-same [] s z e ids = refl
row_lines-same (n ∷ ns) s z e ids =
    let first = row_line-same (take n s) (take n z) (simp (length-take, e)) (cc) in
    let rest = row_lines-same ns (drop n s) (drop n z) (simp (length-drop, e)) (cc) in
    length-append (row_line (take n s)) (row_lines (cut ns (drop n s)))
    ∙ ap₂ ◌+◌ first rest
    ∙ sym (length-append (row_line (take n z)) (row_lines (cut ns (drop n z))))

pub length-same : (t l : ℕ) (ns s z : List ℕ) → length s ≡ length z → identifiers (cut ns s) ≡ identifiers (cut ns z)
    → length (sheet t l (cut ns s)) ≡ length (sheet t l (cut ns z))
unfolding sheet
length-same t l ns s z e ids =
    let count : length (cut ns s) ≡ length (cut ns z) = length_cut ns s ∙ sym (length_cut ns z) in
    let rows = row_lines-same ns s z e ids in
    length-append (head_line t (length (cut ns s)) l) (row_lines (cut ns s))
    ∙ ap₂ (λ m r. length (head_line t m l) + r) count rows
    ∙ sym (length-append (head_line t (length (cut ns z)) l) (row_lines (cut ns z)))
