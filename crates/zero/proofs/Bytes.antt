-- Bytes joined one after another answer as all of them do.
-- Assumes nothing.
use mathlib.Core.Path.{◌≡◌, refl, sym, ap, ◌∙◌}
use mathlib.Core.List.{List, ◌∷◌}
use Prim.Native.Nat.{ℕ, zero, suc, ◌+◌, ◌<◌}
use native.Mathlib.Nat.{not-suc-le-zero}
use native.Mathlib.Numerals.{add-one}
use native.Mathlib.Omega.{arith}
use lib.Bits.{bit_or, or_add_and, and_le_r}
use lib.ListN.{length, drop, get_or}
use lib.Seq.{drop-cons}
use Rattle.zero.specs.Zero.{is_zero_bytes}

-- joining a byte to what stands before it keeps the answer
join_bytes : (t b : ℕ) (bs : List ℕ) → is_zero_bytes (bit_or t b ∷ bs) ≡ is_zero_bytes (t ∷ b ∷ bs)
join_bytes zero b bs = refl
join_bytes (suc t) b bs = more (bit_or (suc t) b) (omega (arith, or_add_and (suc t) b, and_le_r (suc t) b))
  where
    more : (n : ℕ) → 0 < n → is_zero_bytes (n ∷ bs) ≡ 0
    more zero h = absurd (not-suc-le-zero h)
    more (suc n) h = refl

-- the loop's turn: t is the join of the bytes below i
pub join_next : (s : List ℕ) (i t : ℕ) → i < length s → is_zero_bytes (t ∷ drop i s) ≡ is_zero_bytes s
    → is_zero_bytes (bit_or t (get_or s i 0) ∷ drop (i + 1) s) ≡ is_zero_bytes s
join_next s i t h e =
    join_bytes t (get_or s i 0) (drop (i + 1) s)
    ∙ ap (λ (l : List ℕ). is_zero_bytes (t ∷ l)) (ap (λ (k : ℕ). get_or s i 0 ∷ drop k s) (add-one i) ∙ sym (drop-cons s i 0 h)) ∙ e
