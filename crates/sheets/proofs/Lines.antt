-- The lines of a sheet tell what was written: the first its three numbers, each other one its row.
-- Assumes nothing.
use mathlib.Core.Path.{◌≡◌, refl, sym, ap₂, ◌∙◌}
use mathlib.Core.List.{List, [], ◌∷◌, ◌++◌}
use mathlib.Core.Logic.{⊎_elim}
use Prim.Native.Nat.{ℕ, ◌<◌}
use native.Mathlib.Omega.{arith}
use lib.ListN.{length, get_or, drop}
use lib.Seq.{drop-cons}
use Rattle.shamir.specs.Lists.{All, Below}
use Rattle.shamir.proofs.Lists.{all_drop, all_both}
use Rattle.sheets.specs.Text.{decimal, hex}
use Rattle.sheets.specs.Sheet.{seal_word, row_word, head_line, row_line, row_lines}
use Rattle.sheets.specs.ReadAs.{IsDigit, IsHexDigit}
use Rattle.sheets.proofs.DecimalValue.{decimal-digits, decimal-told}
use Rattle.sheets.proofs.Hex.{hex-digits, hex-told}
use Rattle.sheets.proofs.Fields.{Plain, line-told}

-- ---- digits end no field

plain : (P : ℕ → Type 0) → ((c : ℕ) → P c → Plain c) → (xs : List ℕ) → All P xs → All Plain xs
plain P s xs h = all_both P P Plain (λ c p q. s c p) xs h h

pub decimal_plain : (n : ℕ) → All Plain (decimal n)
decimal_plain n = plain IsDigit (λ c h. omega arith) (decimal n) (decimal-digits n)

pub hex_plain : (bytes : List ℕ) → Below 256 bytes → All Plain (hex bytes)
hex_plain bytes h = plain IsHexDigit (λ c. ⊎_elim (λ k. omega arith) (λ k. omega arith)) (hex bytes) (hex-digits bytes h)

-- ---- the lines

-- the fields behind the first of a line
abbrev after_seal : ℕ → ℕ → ℕ → List (List ℕ)
after_seal t m l = decimal t ∷ decimal m ∷ decimal l ∷ []

abbrev after_row : List ℕ → List (List ℕ)
after_row row = decimal (get_or row 0 0) ∷ hex (drop 1 row) ∷ []

pub seal_plain : (t m l : ℕ) → All (All Plain) (seal_word ∷ after_seal t m l)
seal_plain t m l = (omega arith, (decimal_plain t, (decimal_plain m, (decimal_plain l, tt))))

pub head-told : (t m l u n k : ℕ) (v w : List ℕ) → head_line t m l ++ v ≡ head_line u n k ++ w → (t ≡ u) × (m ≡ n) × (l ≡ k) × (v ≡ w)
head-told t m l u n k v w e =
    let r = line-told seal_word seal_word (after_seal t m l) (after_seal u n k) v w (seal_plain t m l) (seal_plain u n k) e in
    (decimal-told t u (cc r.0), decimal-told m n (cc r.0), decimal-told l k (cc r.0), r.1)

-- a row that can be written: it has an identifier, and holds bytes
pub record Writable (row : List ℕ) : Type 0 where
  pub some : 0 < length row
  pub bytes : Below 256 row

pub row_plain : (row : List ℕ) → Writable row → All (All Plain) (row_word ∷ after_row row)
row_plain row h = (omega arith, (decimal_plain (get_or row 0 0), (hex_plain (drop 1 row) (all_drop (◌< 256) 1 row h.bytes), tt)))

pub row_told : (row other v w : List ℕ) → Writable row → Writable other → row_line row ++ v ≡ row_line other ++ w → (row ≡ other) × (v ≡ w)
row_told row other v w h k e =
    let r = line-told row_word row_word (after_row row) (after_row other) v w (row_plain row h) (row_plain other k) e in
    let id = decimal-told (get_or row 0 0) (get_or other 0 0) (cc r.0) in
    let values = hex-told (drop 1 row) (drop 1 other) (cc r.0) in
    (drop-cons row 0 0 h.some ∙ ap₂ ◌∷◌ id values ∙ sym (drop-cons other 0 0 k.some), r.1)

pub rows_told : (rows others : List (List ℕ)) → All Writable rows → All Writable others → row_lines rows ≡ row_lines others → rows ≡ others
rows_told [] [] h k e = refl
rows_told [] (other ∷ others) h k e = absurd (let z : ◌≡◌ {A = ℕ} 0 1 = cc in omega arith)
rows_told (row ∷ rows) [] h k e = absurd (let z : ◌≡◌ {A = ℕ} 0 1 = cc in omega arith)
rows_told (row ∷ rows) (other ∷ others) h k e =
    let r = row_told row other (row_lines rows) (row_lines others) h.0 k.0 e in
    ap₂ ◌∷◌ r.0 (rows_told rows others h.1 k.1 r.1)
