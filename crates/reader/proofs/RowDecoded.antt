-- A row is decoded from its line, where a text begins with that.
-- Assumes nothing.
use mathlib.Core.Path.{◌≡◌, sym, ap, ap₂, ◌∙◌}
use mathlib.Core.List.{List, [], ◌∷◌, ◌++◌, append-nil}
use Prim.Native.Nat.{ℕ, ◌+◌, ◌*◌, ◌-◌, ◌<◌}
use native.Mathlib.Omega.{arith}
use lib.ListN.{length, get_or, take, drop, set, length-append, length-set, drop_of_length-le}
use lib.Seq.{drop-cons}
use borrow.Rule.Slice.PartMut.{put_mid, mid_len}
use Rattle.std.proofs.lemmas.List.{append_cancel_left}
use Rattle.shamir.specs.Lists.{All}
use Rattle.sheets.specs.Text.{decimal, hex}
use Rattle.sheets.specs.ReadAs.{IsHexDigit, unhex}
use Rattle.sheets.proofs.Hex.{unhex-hex}
use Rattle.reader.specs.Taking.{NumberRead, row_start, StartRead, SomeRow, TakesRow}
use Rattle.reader.proofs.FieldRead.{tab-ends}
use Rattle.reader.proofs.RowLineRead.{start_is, line_is, id_small, count, start_told, values_told, hex_told}

-- a number that is read behind a row's word and a tab is, with the tab behind it, the row's start
module _ (text : List ℕ) (l : ℕ) {id : ℕ} {text₁ : List ℕ} (number : NumberRead (drop 4 text) id text₁) where
  number_told : (m : ℕ) (others : List ℕ) → m < 256 → text ≡ row_start m ++ others → (id ≡ m) × (text₁ ≡ 9 ∷ others)
  number_told m others small f =
      let there : drop 4 text ≡ decimal m ++ 9 ∷ others = ap (drop 4) (f ∙ start_is m others) in
      let same = number.only m 9 others (omega arith) tab-ends there in
      (same, append_cancel_left (decimal id) text₁ (9 ∷ others) (sym number.stands ∙ there ∙ ap (λ x. decimal x ++ 9 ∷ others) (sym same)))

  pub started : SomeRow text l → StartRead text id (drop 1 text₁)
  started (row, rest, g, f) =
      let told = number_told (get_or row 0 0) _ (id_small l row g) (f ∙ line_is row rest) in
      record {
        low = rw told.0 g.nonzero;
        high = omega (arith, told.0, id_small l row g);
        stands = f ∙ line_is row rest ∙ ap₂ (λ x y. row_start x ++ y) (sym told.0) (sym (ap (drop 1) told.1));
        only = λ m others low high e. (number_told m others (omega arith) e).0;
      }

module _ (text : List ℕ) (l : ℕ) {id : ℕ} {text₁ : List ℕ} (start : StartRead text id text₁) where
  -- behind the start there are a row's values and a line feed
  pub line-inside : SomeRow text l → l * 2 < length text₁
  line-inside (row, rest, g, f) =
      omega (arith, ap length (start_told text l start row rest g f).1, length-append (hex (drop 1 row)) (10 ∷ rest), count l row g)

  pub values_hex : SomeRow text l → All IsHexDigit (take (l * 2) text₁)
  values_hex (row, rest, g, f) = hex_told text l start row rest g f

  -- what is decoded there is the row
  pub row_taken : (new left rest : List ℕ) → new ≡ unhex (take (l * 2) text₁) → left ≡ id ∷ new → rest ≡ drop 1 (drop (l * 2) text₁) → TakesRow text l left rest
  row_taken new left rest en el er = record {
    takes = λ row others g f.
        let told = values_told text l start row others g f in (
          el
              ∙ ap₂ ◌∷◌ (start_told text l start row others g f).0 (en ∙ ap unhex told.0 ∙ unhex-hex (drop 1 row))
              ∙ sym (drop-cons row 0 0 (omega (arith, g.long))),
          er ∙ ap (drop 1) told.1,
        );
  }

-- the identifier is written first, and behind it the values come back
pub id_first : (id : ℕ) (out new : List ℕ) → 0 < length out → put_mid 1 (length (set out 0 id) - 1) (set out 0 id) new ≡ id ∷ new
id_first id [] new h = absurd (omega arith)
id_first id (o ∷ out) new h = ap (λ x. id ∷ (new ++ x)) (drop_of_length-le out {i = length (set (o ∷ out) 0 id) - 1} (omega arith)) ∙ ap (id ∷◌) (append-nil new)

-- so many are lent for the values
pub lent : (id : ℕ) (out : List ℕ) (l : ℕ) → length out ≡ l + 1 → length (take (length (set out 0 id) - 1) (drop 1 (set out 0 id))) ≡ l
lent id out l e = mid_len 1 (length (set out 0 id)) (set out 0 id) (omega arith) ∙ omega (arith, length-set out 0 id)
