-- A row's line, as it is read: what stands where, if a row's line stands there; and that nothing else passes.
-- Assumes nothing.
use mathlib.Core.Path.{◌≡◌, refl, sym, ap, ap₂, ◌∙◌, subst}
use mathlib.Core.Logic.{⊎_elim}
use mathlib.Core.List.{List, [], ◌∷◌, ◌++◌, append_assoc}
use Prim.Native.Nat.{ℕ, zero, suc, ◌+◌, ◌*◌, ◌/◌, ◌%◌, ◌-◌, ◌<◌, ◌≤◌}
use native.Mathlib.Omega.{arith}
use lib.ListN.{length, get_or, take, drop, length-append, length-drop, take-append-drop}
use lib.Seq.{take_at, drop_at, length-take-le}
use borrow.Author.Tests.{lt-ltb, le-ltb}
use Rattle.std.proofs.lemmas.List.{append_cancel_left}
use Rattle.shamir.specs.Lists.{All, Below}
use Rattle.shamir.proofs.Lists.{all_in, all_drop}
use Rattle.row_set.specs.Limits.{max_shares}
use Rattle.sheets.specs.Text.{decimal, hex_digit, hex}
use Rattle.sheets.specs.Sheet.{row_word, row_line}
use Rattle.sheets.specs.ReadAs.{IsHexDigit, unhex_digit, unhex}
use Rattle.sheets.proofs.Hex.{length-hex, hex-digits}
use Rattle.reading.specs.Lines.{Row}
use Rattle.reader.specs.Taking.{FieldRead, row_start, StartRead, NoStart, RowRead, NoRow}
use Rattle.reader.proofs.FieldRead.{tab-ends, field_told}

pieces : (d h rest : List ℕ) → (d ++ 9 ∷ (h ++ (10 ∷ []))) ++ rest ≡ d ++ 9 ∷ (h ++ 10 ∷ rest)
pieces d h rest = append_assoc d (9 ∷ (h ++ (10 ∷ []))) rest ∙ ap (λ x. d ++ 9 ∷ x) (append_assoc h (10 ∷ []) rest)

pub start_is : (id : ℕ) (rest : List ℕ) → row_start id ++ rest ≡ row_word ++ 9 ∷ (decimal id ++ 9 ∷ rest)
start_is id rest = ap (λ x. row_word ++ 9 ∷ x) (append_assoc (decimal id) (9 ∷ []) rest)

-- a row's line is its start, its values and a line feed
pub line_is : (row rest : List ℕ) → row_line row ++ rest ≡ row_start (get_or row 0 0) ++ (hex (drop 1 row) ++ 10 ∷ rest)
line_is row rest = ap (λ x. row_word ++ 9 ∷ x) (pieces (decimal (get_or row 0 0)) (hex (drop 1 row)) rest) ∙ sym (start_is (get_or row 0 0) _)

pub id_small : (l : ℕ) (row : List ℕ) → Row l row → get_or row 0 0 < 256
id_small l row g = all_in (◌< 256) row 0 (omega (arith, g.long)) g.bytes

pub count : (l : ℕ) (row : List ℕ) → Row l row → length (hex (drop 1 row)) ≡ l * 2
count l row g = length-hex (drop 1 row) ∙ omega (arith, length-drop 1 row, g.long)

-- ---- its start

-- without the tab behind the identifier there is no start
pub no-tab : (text text₁ text₂ : List ℕ) {id : ℕ} → text ≡ row_word ++ text₁ → FieldRead text₁ 1 max_shares id text₂ → ((rest : List ℕ) → text₂ ≡ 9 ∷ rest → ⊥) → NoStart text
no-tab text text₁ text₂ word field none m others low high f =
    none others (field_told field m 9 others low high tab-ends (append_cancel_left row_word text₁ _ (sym word ∙ f ∙ start_is m others))).1

-- ---- its values

hex_of : (c : ℕ) → IsHexDigit c → (hex_digit (unhex_digit c) ≡ c) × (unhex_digit c < 16)
hex_of c h =
    ⊎_elim
    (λ d. rw (lt-ltb c 58 (omega (arith, d.1)), lt-ltb (c - 48) 10 (omega (arith, d.0, d.1))) (omega (arith, d.0), omega (arith, d.0, d.1)))
    (λ d. rw (le-ltb c 58 (omega (arith, d.0)), le-ltb (c - 87) 10 (omega (arith, d.0))) (omega (arith, d.0), omega (arith, d.0, d.1)))
    h

-- digits of hex, two a value, are those of the values that they are read as
pub hex-unhex : (l : ℕ) (cs : List ℕ) → length cs ≡ l * 2 → All IsHexDigit cs → (hex (unhex cs) ≡ cs) × Below 256 (unhex cs) × (length (unhex cs) ≡ l)
hex-unhex zero [] e h = (refl, tt, refl)
hex-unhex zero (c ∷ cs) e h = absurd (omega arith)
hex-unhex (suc l) [] e h = absurd (omega arith)
hex-unhex (suc l) (c ∷ []) e h = absurd (omega arith)
hex-unhex (suc l) (c ∷ d ∷ cs) e h =
    let r = hex-unhex l cs (omega arith) h.1.1 in
    let p = hex_of c h.0 in
    let q = hex_of d h.1.0 in
    let low = p.1 in
    let high = q.1 in
    let first : (unhex_digit c * 16 + unhex_digit d) / 16 ≡ unhex_digit c = omega arith in
    let second : (unhex_digit c * 16 + unhex_digit d) % 16 ≡ unhex_digit d = omega arith in (
      ap₂ (λ x y. hex_digit x ∷ hex_digit y ∷ hex (unhex cs)) first second ∙ ap₂ (λ x y. x ∷ y ∷ hex (unhex cs)) p.0 q.0 ∙ ap (λ x. c ∷ d ∷ x) r.0,
      (omega arith, r.1),
      omega (arith, r.2),
    )

-- ---- the line

-- without its start there is no row, ..
pub no-start : (text : List ℕ) (l : ℕ) → NoStart text → NoRow text l
no-start text l none row rest g f =
    none (get_or row 0 0) (hex (drop 1 row) ++ 10 ∷ rest) g.nonzero (omega (arith, id_small l row g)) (f ∙ line_is row rest)

module _ (text : List ℕ) (l : ℕ) {id : ℕ} {text₁ : List ℕ} (start : StartRead text id text₁) where
  -- what a row's line says of the identifier and of what stands behind it
  pub start_told : (row rest : List ℕ) → Row l row → text ≡ row_line row ++ rest → (id ≡ get_or row 0 0) × (text₁ ≡ hex (drop 1 row) ++ 10 ∷ rest)
  start_told row rest g f =
      let same = start.only (get_or row 0 0) (hex (drop 1 row) ++ 10 ∷ rest) g.nonzero (omega (arith, id_small l row g)) (f ∙ line_is row rest) in (
        same,
        append_cancel_left (row_start id) text₁ _ (sym start.stands ∙ f ∙ line_is row rest ∙ ap (λ x. row_start x ++ (hex (drop 1 row) ++ 10 ∷ rest)) (sym same)),
      )

  -- .. nor without room for its values, ..
  pub no_room : length text₁ < l * 2 → NoRow text l
  no_room short row rest g f =
      omega (arith, ap length (start_told row rest g f).1, length-append (hex (drop 1 row)) (10 ∷ rest), count l row g)

  pub values_told : (row rest : List ℕ) → Row l row → text ≡ row_line row ++ rest → (take (l * 2) text₁ ≡ hex (drop 1 row)) × (drop (l * 2) text₁ ≡ 10 ∷ rest)
  values_told row rest g f =
      let e = (start_told row rest g f).1 in
      let n = count l row g in
      (ap (take (l * 2)) e ∙ take_at (hex (drop 1 row)) (10 ∷ rest) (l * 2) n, ap (drop (l * 2)) e ∙ drop_at (hex (drop 1 row)) (10 ∷ rest) (l * 2) n)

  pub hex_told : (row rest : List ℕ) → Row l row → text ≡ row_line row ++ rest → All IsHexDigit (take (l * 2) text₁)
  hex_told row rest g f = subst (All IsHexDigit) (sym (values_told row rest g f).0) (hex-digits (drop 1 row) (all_drop (◌< 256) 1 row g.bytes))

  -- .. its values, ..
  pub no-values : (All IsHexDigit (take (l * 2) text₁) → ⊥) → NoRow text l
  no-values none row rest g f = none (hex_told row rest g f)

  -- .. and its line feed
  pub no_end : ((rest : List ℕ) → drop (l * 2) text₁ ≡ 10 ∷ rest → ⊥) → NoRow text l
  no_end none row rest g f = none rest (values_told row rest g f).1

  -- with all of them there is one
  pub row_passes : (rest : List ℕ) → l * 2 ≤ length text₁ → All IsHexDigit (take (l * 2) text₁) → drop (l * 2) text₁ ≡ 10 ∷ rest → RowRead text l id rest
  row_passes rest room digits ended =
      let values = unhex (take (l * 2) text₁) in
      let read = hex-unhex l (take (l * 2) text₁) (length-take-le (l * 2) text₁ room) digits in
      let all : text₁ ≡ hex values ++ 10 ∷ rest = sym (take-append-drop (l * 2) text₁) ∙ ap₂ ◌++◌ (sym read.0) ended in
      record {
        row = id ∷ values;
        is_row = record { long = omega (arith, read.2); bytes = (omega (arith, start.high), read.1); nonzero = start.low };
        identifier = refl;
        stands = start.stands ∙ ap (row_start id ++◌) all ∙ sym (line_is (id ∷ values) rest);
      }
