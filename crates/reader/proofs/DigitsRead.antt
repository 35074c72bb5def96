-- Digits that are read one by one: their value, and when it is the number that stands there.
-- Assumes nothing.
use mathlib.Core.Path.{◌≡◌, refl, sym, ap, ap₂, ◌∙◌, subst}
use mathlib.Core.Bool.{true, false}
use mathlib.Core.List.{List, [], ◌∷◌, ◌++◌}
use Prim.Native.Nat.{ℕ, zero, suc, min, ◌+◌, ◌*◌, ◌-◌, ◌^◌, ◌<◌, ◌≤◌}
use native.Mathlib.Decide.{dec_lt}
use native.Mathlib.Nat.{pow-suc, pow-le-pow_right}
use native.Mathlib.Numerals.{add-one}
use native.Mathlib.Omega.{arith}
use lib.ListN.{length, get_or, take, drop, length-append, take-append-drop, get_or-append}
use lib.Seq.{take-suc, take_at, length-take-le, get_or-take}
use Rattle.shamir.specs.Lists.{All}
use Rattle.shamir.proofs.Lists.{all_append, all_in}
use Rattle.sheets.specs.Text.{decimal}
use Rattle.sheets.specs.ReadAs.{IsDigit}
use Rattle.reader.specs.Taking.{NumberRead, NoNumber}
use Rattle.sheets.specs.ReadAs.{value_from, value}
use Rattle.sheets.proofs.Decimal.{decimal-short}
use Rattle.sheets.proofs.DecimalValue.{decimal-digits, value-append, value-decimal}

-- the two answers of a test are apart
pub yes-no : {P : Type 0} → true ≡ false → P
yes-no e = cc

pub no-yes : {P : Type 0} → false ≡ true → P
no-yes e = cc

-- digits of one length tell their value, and the value of those before them
digits-told : (v w : ℕ) (xs ys : List ℕ) → All IsDigit xs → All IsDigit ys → length xs ≡ length ys → value_from v xs ≡ value_from w ys → (v ≡ w) × (xs ≡ ys)
digits-told v w [] [] hx hy l e = (e, refl)
digits-told v w [] (y ∷ ys) hx hy l e = absurd (omega arith)
digits-told v w (x ∷ xs) [] hx hy l e = absurd (omega arith)
digits-told v w (x ∷ xs) (y ∷ ys) hx hy l e =
    let r = digits-told (v * 10 + (x - 48)) (w * 10 + (y - 48)) xs ys hx.1 hy.1 (omega arith) e in
    let dx = hx.0 in
    let dy = hy.0 in
    let z = r.0 in
    let same : x ≡ y = omega arith in
    (omega arith, ap₂ ◌∷◌ same r.1)

-- digits as many as their value has are its decimal
digits_decimal : (ds : List ℕ) → All IsDigit ds → length ds ≡ length (decimal (value ds)) → ds ≡ decimal (value ds)
digits_decimal ds h l = (digits-told 0 0 ds (decimal (value ds)) h (decimal-digits (value ds)) l (sym (value-decimal (value ds)))).1

-- the first k of xs are digits, with this value
pub record Digits (xs : List ℕ) (k v : ℕ) : Type 0 where
  pub few : k ≤ 5
  pub inside : k ≤ length xs
  pub digits : All IsDigit (take k xs)
  pub valued : v ≡ value (take k xs)
  pub bound : v < 10 ^ k

small : {xs : List ℕ} {k v : ℕ} → Digits xs k v → v < 100000
small {xs} {k} {v} d =
    let p : 10 ^ k ≤ 10 ^ 5 = pow-le-pow_right (omega arith) d.few in
    omega (arith, d.bound)

one_more : {xs : List ℕ} {k v : ℕ} (c : ℕ) → Digits xs k v → k < 5 → k < length xs → c ≡ get_or xs k 0 → IsDigit c → Digits xs (k + 1) (v * 10 + (c - 48))
one_more {xs} {k} {v} c d few more is digit =
    let step : take (k + 1) xs ≡ take k xs ++ (c ∷ []) = ap (λ n. take n xs) (add-one k) ∙ take-suc xs k 0 more ∙ ap (λ x. take k xs ++ (x ∷ [])) (sym is) in
    let power : 10 ^ (k + 1) ≡ 10 ^ k * 10 = ap (10 ^◌) (add-one k) ∙ pow-suc 10 k in
    record {
      few = omega arith;
      inside = omega arith;
      digits = rw step (all_append IsDigit (take k xs) (c ∷ []) d.digits (digit, tt));
      valued = ap (λ x. x * 10 + (c - 48)) d.valued ∙ sym (ap value step ∙ value-append 0 (take k xs) (c ∷ []));
      bound = omega (arith, d.bound, power, digit.0, digit.1);
    }

-- digits do not go beyond a character that is none
no_further : (k : ℕ) (ds : List ℕ) (c : ℕ) (rest : List ℕ) → (IsDigit c → ⊥) → All IsDigit (take k (ds ++ c ∷ rest)) → k ≤ length ds
no_further zero ds c rest n h = omega arith
no_further (suc k) [] c rest n h = absurd (n h.0)
no_further (suc k) (d ∷ ds) c rest n h = omega (arith, no_further k ds c rest n h.1)

-- the first k of a text, of which at most five are looked at, are the digits that it begins with, with the value v
pub record Counted (text : List ℕ) (k v : ℕ) : Type 0 where
  pub digits : Digits text k v
  pub stop : k < 5 → k < length text → IsDigit (get_or text k 0) → ⊥

-- of these, n are looked at
module _ (text : List ℕ) (n : ℕ) (least : n ≡ min (length text) 5) {k v : ℕ} (d : Digits text k v) where
  long : length (take n text) ≡ n
  long = length-take-le n text (omega arith)

  pub counts : (i : ℕ) → k ≡ i → i < length (take n text) → IsDigit (get_or (take n text) i 0) → Digits text (k + 1) (v * 10 + (get_or (take n text) i 0 - 48))
  counts i is more digit = one_more _ d (omega (arith, long)) (omega (arith, long)) (get_or-take n text i 0 (omega (arith, long)) ∙ ap (λ j. get_or text j 0) (sym is)) digit

  pub counted : (i : ℕ) → k ≡ i → (i < length (take n text) → IsDigit (get_or (take n text) i 0) → ⊥) → Counted text k v
  counted i is stop = record {
    digits = d;
    stop = λ few more digit. stop (omega (arith, long)) (subst IsDigit (ap (λ j. get_or text j 0) is ∙ sym (get_or-take n text i 0 (omega arith))) digit);
  }

-- what is read once no further digit follows, or five were read
module _ (text : List ℕ) {k v : ℕ} (c : Counted text k v) where
  abbrev d : Digits text k v
  d = c.digits

  as_many : (n a : ℕ) (rest : List ℕ) → n < 100000 → (IsDigit a → ⊥) → text ≡ decimal n ++ a ∷ rest → k ≡ length (decimal n)
  as_many n a rest few ends e =
      let most : k ≤ length (decimal n) = no_further k (decimal n) a rest ends (subst (λ l. All IsDigit (take k l)) e d.digits) in
      let five : length (decimal n) ≤ 5 = decimal-short 4 n few in
      elim (dec_lt k (length (decimal n))) [
        | yes h ↦ absurd (c.stop (omega arith) (omega (arith, ap length e, length-append (decimal n) (a ∷ rest)))
            (subst IsDigit (sym (ap (λ l. get_or l k 0) e ∙ get_or-append (decimal n) (a ∷ rest) 0 k h)) (all_in IsDigit (decimal n) k h (decimal-digits n))))
        | no h ↦ omega arith
      ]

  -- its value is that number
  is_it : (n a : ℕ) (rest : List ℕ) → n < 100000 → (IsDigit a → ⊥) → text ≡ decimal n ++ a ∷ rest → (k ≡ length (decimal n)) × (v ≡ n)
  is_it n a rest few ends e =
      let count = as_many n a rest few ends e in
      (count, d.valued ∙ ap value (ap (take k) e ∙ take_at (decimal n) (a ∷ rest) k (sym count)) ∙ value-decimal n)

  -- digits as many as their value has are the number, ..
  pub number_read : length (decimal v) ≡ k → NumberRead text v (drop k text)
  number_read count =
      let value-is = d.valued in
      let long : length (take k text) ≡ length (decimal (value (take k text))) =
      length-take-le k text d.inside ∙ sym count ∙ ap (λ x. length (decimal x)) value-is in
      let ds : take k text ≡ decimal v = digits_decimal (take k text) d.digits long ∙ ap decimal (sym value-is) in
      record {
        small = small d;
        stands = sym (take-append-drop k text) ∙ ap (◌++ drop k text) ds;
        only = λ n a rest few ends f. (is_it n a rest few ends f).1;
      }

  -- .. and others are none
  pub no-number : (length (decimal v) ≡ k → ⊥) → NoNumber text
  no-number other n a rest few ends f = let p = is_it n a rest few ends f in other (ap (λ x. length (decimal x)) p.1 ∙ sym p.0)
