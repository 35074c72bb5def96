-- Storage that is cut into chunks of one size gives its rows.
-- Assumes nothing.
use mathlib.Core.Path.{◌≡◌, sym, ap, ◌∙◌}
use mathlib.Core.List.{List, [], ◌++◌, append_assoc}
use Prim.Native.Nat.{ℕ, ◌+◌, ◌*◌, ◌<◌, ◌≤◌}
use native.Mathlib.Nat.{mul-le-mul_right, zero-mul}
use native.Mathlib.Decide.{dec_lt}
use native.Mathlib.Omega.{arith}
use lib.ListN.{length, take, drop, length-append, take-append-drop}
use lib.Seq.{length-take-le, take_at, drop_at}
use Rattle.sheets.proofs.PutRows.{row_at}

-- the storage s begins with m rows of w elements; i of them are done, and rest is the others
pub record LeftOf (m w : ℕ) (s : List ℕ) (i : ℕ) (rest : List ℕ) : Type 0 where
  pub some : 0 < w
  pub done : List ℕ
  pub tail : List ℕ
  pub parts : s ≡ done ++ (rest ++ tail)
  pub count : length done ≡ i * w
  pub size : i * w + length rest ≡ m * w

pub all_left : (m w : ℕ) (s rest : List ℕ) → 0 < w → m * w ≤ length s → rest ≡ take (m * w) s → LeftOf m w s 0 rest
all_left m w s rest some inside is =
    let none : 0 ≡ 0 * w = sym (zero-mul w) in
    record {
      some = some;
      done = [];
      tail = drop (m * w) s;
      parts = sym (take-append-drop (m * w) s) ∙ ap (◌++ drop (m * w) s) (sym is);
      count = none;
      size = omega (arith, none, ap length is, length-take-le (m * w) s inside);
    }

module _ {m w : ℕ} {s : List ℕ} {i : ℕ} {rest : List ℕ} (p : LeftOf m w s i rest) where
  module _ (x later : List ℕ) (cut : rest ≡ x ++ later) (long : length x ≡ w) where
    -- a chunk is the next row, ..
    pub more : i < m
    more =
        let some : w ≤ length rest = omega (arith, ap length cut, length-append x later) in
        elim (dec_lt i m) [ yes h ↦ h | no h ↦ let least : m ≤ i = omega arith in absurd (omega (arith, mul-le-mul_right w least, p.size, p.some)) ]

    behind : rest ++ p.tail ≡ x ++ (later ++ p.tail)
    behind = ap (◌++ p.tail) cut ∙ append_assoc x later p.tail

    pub chunk_is : x ≡ row_at i w s
    chunk_is =
        sym (ap (λ l. take w (drop (i * w) l)) p.parts ∙ ap (take w) (drop_at p.done (rest ++ p.tail) (i * w) p.count ∙ behind) ∙ take_at x (later ++ p.tail) w long)

    pub fewer_left : LeftOf m w s (i + 1) later
    fewer_left =
        let next : (i + 1) * w ≡ i * w + w = omega arith in
        record {
          some = p.some;
          done = p.done ++ x;
          tail = p.tail;
          parts = p.parts ∙ ap (p.done ++◌) behind ∙ sym (append_assoc p.done x (later ++ p.tail));
          count = omega (arith, length-append p.done x, p.count);
          size = omega (arith, p.size, ap length cut, length-append x later);
        }

  -- .. and with less than a row left there were m
  pub all_taken : length rest < w → i ≡ m
  all_taken short =
      elim (dec_lt i m) [
        | yes h ↦ absurd (let next : i + 1 ≤ m = omega arith in omega (arith, mul-le-mul_right w next, p.size))
        | no h ↦ elim (dec_lt m i) [
          | yes g ↦ absurd (let next : m + 1 ≤ i = omega arith in omega (arith, mul-le-mul_right w next, p.size, p.some))
          | no g ↦ omega arith
        ]
      ]
