-- The rows of a split in flat storage: their length, and how they grow row by row.
-- Assumes nothing.
use mathlib.Core.Path.{◌≡◌, ◌∙◌, sym, ap, ap₂, refl}
use mathlib.Core.List.{List, [], ◌∷◌, ◌++◌, append_assoc, append-nil}
use Prim.Native.Nat.{ℕ, ◌+◌, ◌-◌, ◌<◌}
use native.Mathlib.Nat.{zero-mul, suc-mul, add-mul, one-mul}
use native.Mathlib.Numerals.{add-one}
use native.Mathlib.Omega.{arith}
use lib.ListN.{length, take, drop, get_or, set, length-append}
use lib.Seq.{append_snoc, take-suc, length-take-le}
use borrow.Rule.Slice.PartMut.{put_mid}
use Rattle.shamir.specs.Rows.{row}
use Rattle.shamir.proofs.Rows.{length-row}
use Rattle.gf256.specs.Field256.{gf256}
use Rattle.polynomial.proofs.Fill.{fill_one, fill_part}
use Rattle.sharing.specs.Split.{split_room, rows_of}

module _ (k : ℕ) (ss cs : List ℕ) where
  pub length-rows : (xs : List ℕ) → length (rows_of k ss cs xs) ≡ split_room (length xs) (length ss)
  length-rows [] = sym (zero-mul (length ss + 1))
  length-rows (x ∷ xs) =
      omega (arith, length-append (row gf256 k x ss cs) (rows_of k ss cs xs), length-row gf256 k x ss cs, length-rows xs, suc-mul (length xs) (length ss + 1))

  rows_append : (xs ys : List ℕ) → rows_of k ss cs (xs ++ ys) ≡ rows_of k ss cs xs ++ rows_of k ss cs ys
  rows_append [] ys = refl
  rows_append (x ∷ xs) ys =
      let r = x ∷ row gf256 k x ss cs in
      ap (r ++◌) (rows_append xs ys) ∙ sym (append_assoc r (rows_of k ss cs xs) (rows_of k ss cs ys))

  -- a turn: behind the rows before it the identifier at place j is written, and behind that its values, new, come back
  pub row_fills : (j at : ℕ) (ids out₀ out new : List ℕ) → j < length ids → at ≡ split_room j (length ss) → at < length out₀
      → out ≡ rows_of k ss cs (take j ids) ++ drop at out₀ → new ≡ row gf256 k (get_or ids j 0) ss cs
      → put_mid (at + 1) (at + (length ss + 1) - (at + 1)) (set out at (get_or ids j 0)) new ≡ rows_of k ss cs (take (j + 1) ids) ++ drop (split_room (j + 1) (length ss)) out₀
  row_fills j at ids out₀ out new h ea inside eo en =
      let x = get_or ids j 0 in
      let p = rows_of k ss cs (take j ids) in
      let w = at + (length ss + 1) - (at + 1) in
      let long : length p ≡ at = length-rows (take j ids) ∙ ap (λ n. split_room n (length ss)) (length-take-le j ids (omega arith)) ∙ sym ea in
      let end : at + 1 + w ≡ split_room (j + 1) (length ss) = omega (arith, add-mul j 1 (length ss + 1), one-mul (length ss + 1)) in
      let grown : (p ++ x ∷ []) ++ new ≡ rows_of k ss cs (take (j + 1) ids) =
      append_snoc p x new ∙ ap (p ++◌) (ap (x ∷◌) en ∙ sym (append-nil (x ∷ row gf256 k x ss cs))) ∙ sym (rows_append (take j ids) (x ∷ []))
      ∙ ap (rows_of k ss cs) (sym (take-suc ids j 0 h) ∙ ap (λ n. take n ids) (sym (add-one j))) in
      ap (λ l. put_mid (at + 1) w (set l at x) new) eo
      ∙ ap (λ l. put_mid (at + 1) w l new) (fill_one p out₀ at long x inside)
      ∙ fill_part (p ++ x ∷ []) out₀ (at + 1) (length-append p (x ∷ []) ∙ ap (◌+ 1) long) w new
      ∙ ap₂ (λ l n. l ++ drop n out₀) grown end
