-- The lines of rows of one length, row by row.
-- Assumes nothing.
use mathlib.Core.Path.{◌≡◌, sym, ap, ◌∙◌, subst}
use mathlib.Core.List.{List, ◌++◌, append_assoc, append-nil}
use Prim.Native.Nat.{ℕ, zero, suc, ◌+◌, ◌*◌, ◌-◌, ◌^◌, ◌<◌, ◌≤◌}
use native.Mathlib.Nat.{mul-le-mul_right}
use native.Mathlib.Omega.{arith}
use lib.ListN.{length, get_or, take, drop, replicate, length-append, length-drop, length-replicate}
use lib.Seq.{drop-drop, length-take-le}
use Rattle.shamir.specs.Lists.{Below}
use Rattle.shamir.proofs.Lists.{all_take, all_drop, all_at}
use Rattle.rows.specs.Storage.{cut}
use Rattle.rows.proofs.Storage.{length_cut}
use Rattle.row_set.specs.Limits.{max_secret, max_shares, max_rows}
use Rattle.sheets.specs.Text.{decimal}
use Rattle.sheets.specs.Sheet.{head_line, row_line, row_lines, sheet}
use Rattle.sheets.specs.Writing.{Puts}
use Rattle.sheets.proofs.Decimal.{decimal-short}
use Rattle.sheets.proofs.PutLines.{head-length}
use Rattle.sheets.proofs.TextLength.{length-row_line}
use Rattle.sheets.proofs.Writing.{puts_then}

-- the lines of the first i rows of w elements
abbrev pub lines_to : ℕ → ℕ → List ℕ → List ℕ
lines_to i w s = row_lines (cut (replicate i w) s)

abbrev pub row_at : ℕ → ℕ → List ℕ → List ℕ
row_at i w s = take w (drop (i * w) s)

lines_more : (i w : ℕ) (s : List ℕ) → lines_to (i + 1) w s ≡ lines_to i w s ++ row_line (row_at i w s)
lines_more zero w s =
    append-nil (row_line (take w s)) ∙ ap (λ k. row_line (take w (drop k s))) none
  where
    none : 0 ≡ 0 * w
    none = omega arith
lines_more (suc i) w s =
    let at : w + i * w ≡ suc i * w = omega arith in
    let next : suc i + 1 ≡ suc (i + 1) = omega arith in
    ap (λ k. lines_to k w s) next
    ∙ ap (row_line (take w s) ++◌) (lines_more i w (drop w s))
    ∙ sym (append_assoc (row_line (take w s)) (lines_to i w (drop w s)) (row_line (row_at i w (drop w s))))
    ∙ ap (λ r. lines_to (suc i) w s ++ row_line (take w r)) (drop-drop (i * w) w s ∙ ap (λ k. drop k s) at)

-- fewer rows take less room
lines_grow : (i k w : ℕ) (s : List ℕ) → length (lines_to i w s) ≤ length (lines_to (i + k) w s)
lines_grow zero k w s = omega arith
lines_grow (suc i) k w s =
    let more : suc i + k ≡ suc (i + k) = omega arith in
    rw more (omega (arith, length-append (row_line (take w s)) (lines_to i w (drop w s)), length-append (row_line (take w s)) (lines_to (i + k) w (drop w s)), lines_grow i k w (drop w s)))

module _ (m w : ℕ) (s : List ℕ) (i : ℕ) (more : i < m) where
  -- the next row lies in the storage, ..
  pub row_inside : m * w ≤ length s → i * w + w ≤ length s
  row_inside h = omega (arith, mul-le-mul_right w more)

  -- .. its line in the output, ..
  pub row_fits : (at end : ℕ) (out : List ℕ) → at + length (lines_to m w s) ≤ length out → end ≡ at + length (lines_to i w s)
      → end + length (row_line (row_at i w s)) ≤ length out
  row_fits at end out room e =
      let rest : i + 1 + (m - (i + 1)) ≡ m = omega arith in
      let most : length (lines_to (i + 1) w s) ≤ length (lines_to m w s) =
      subst (λ k. length (lines_to (i + 1) w s) ≤ length (lines_to k w s)) rest (lines_grow (i + 1) (m - (i + 1)) w s) in
      omega (arith, ap length (lines_more i w s), length-append (lines_to i w s) (row_line (row_at i w s)))

  -- as long as the code counts, with l values a row
  pub line-length : (l : ℕ) → w ≡ l + 1 → m * w ≤ length s
      → length (lines_to (i + 1) w s) ≡ length (lines_to i w s) + (length (decimal (get_or (row_at i w s) 0 0)) + 2 * l + 6)
  line-length l wide h =
      let row = row_at i w s in
      let long : length row ≡ w = length-take-le w (drop (i * w) s) (omega (arith, length-drop (i * w) s, row_inside h)) in
      omega (
        arith,
        ap length (lines_more i w s),
        length-append (lines_to i w s) (row_line row),
        length-row_line row,
        length-drop 1 row,
      )

-- .. and it is put behind the lines before it
pub rows_step : (i w at end next : ℕ) (s out₀ out left : List ℕ) → at ≤ length out₀ → Puts (lines_to i w s) at out₀ end out → Puts (row_line (row_at i w s)) end out next left
    → Puts (lines_to (i + 1) w s) at out₀ next left
rows_step i w at end next s out₀ out left inside p q = subst (λ t. Puts t at out₀ next left) (sym (lines_more i w s)) (puts_then inside p q)

-- the whole sheet
pub sheet_is : (t l m w : ℕ) (s : List ℕ) → sheet t l (cut (replicate m w) s) ≡ head_line t m l ++ lines_to m w s
unfolding sheet
sheet_is t l m w s = ap (λ k. head_line t k l ++ lines_to m w s) (length_cut (replicate m w) s ∙ length-replicate m w)

pub sheet_length_is : (t l m w : ℕ) (s : List ℕ) → length (sheet t l (cut (replicate m w) s)) ≡ length (head_line t m l) + length (lines_to m w s)
sheet_length_is t l m w s = ap length (sheet_is t l m w s) ∙ length-append (head_line t m l) (lines_to m w s)

-- .. of rows of w elements, of which all but the first are values
pub rows_length_is : (t m w : ℕ) (s : List ℕ) → 0 < w
    → length (sheet t (w - 1) (cut (replicate m (w - 1 + 1)) s)) ≡ length (head_line t m (w - 1)) + length (lines_to m w s)
rows_length_is t m w s some =
    let wide : w - 1 + 1 ≡ w = omega arith in
    ap (λ k. length (sheet t (w - 1) (cut (replicate m k) s))) wide ∙ sheet_length_is t (w - 1) m w s

-- .. is not long where the numbers are small
lines-short : (m l : ℕ) (s : List ℕ) → l ≤ max_secret → m * (l + 1) ≤ length s → Below 256 s → length (lines_to m (l + 1) s) ≤ m * (2 * max_secret + 9)
lines-short zero l s h g b = omega arith
lines-short (suc m) l s h g b =
    let row = take (l + 1) s in
    let long : length row ≡ l + 1 = length-take-le (l + 1) s (omega arith) in
    let id : get_or row 0 0 < 256 = all_at (◌< 256) 0 (omega arith) row 0 (all_take (◌< 256) (l + 1) s b) in
    let rest = lines-short m l (drop (l + 1) s) h (omega (arith, length-drop (l + 1) s)) (all_drop (◌< 256) (l + 1) s b) in
    omega (
      arith,
      length-append (row_line row) (lines_to m (l + 1) (drop (l + 1) s)),
      length-row_line row,
      length-drop 1 row,
      decimal-short 2 (get_or row 0 0) (omega arith),
    )

pub sheet-short : (t l m : ℕ) (s : List ℕ) → t ≤ max_shares → m ≤ max_rows → l ≤ max_secret → m * (l + 1) ≤ length s → Below 256 s
    → length (sheet t l (cut (replicate m (l + 1)) s)) < 2 ^ 40
sheet-short t l m s ht hm hl g b =
    omega (
      arith,
      sheet_length_is t l m (l + 1) s,
      head-length t m l,
      lines-short m l s hl g b,
      decimal-short 4 t (omega arith),
      decimal-short 4 m (omega arith),
      decimal-short 4 l (omega arith),
    )
