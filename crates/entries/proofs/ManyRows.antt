-- More than 255 rows are refused: their identifiers and 0 would be 257 different bytes.
-- Assumes nothing.
use mathlib.Core.Path.{◌≡◌, refl, ap, ◌∙◌}
use mathlib.Core.Bool.{Bool, true, false}
use mathlib.Core.List.{List, [], ◌∷◌}
use mathlib.Core.Logic.{◌⊎◌, inl, inr}
use Prim.Native.Nat.{ℕ, ◌+◌, ◌*◌, ◌/◌, ◌<◌, ◌≤◌}
use native.Mathlib.Omega.{arith}
use lib.Dec.{ltb, lit<}
use lib.ListN.{length, get_or}
use borrow.Author.Tests.{eq-eqb, ltb-false}
use Rattle.answer.specs.Outcome.{Outcome, done, refused, refuse, number_of}
use Rattle.shamir.specs.Lists.{Below}
use Rattle.shamir.proofs.Lists.{all_at}
use Rattle.strides.specs.Strides.{strided}
use Rattle.strides.proofs.Strides.{length-strided}
use Rattle.rows.specs.Search.{sum, all_are, first_zero, first_repeated, first_repeating, within}
use Rattle.rows.specs.Lengths.{lengths_of}
use Rattle.rows.proofs.Lengths.{length-lengths}
use Rattle.rows.proofs.Storage.{equal_lengths}
use Rattle.rows.proofs.Ready.{ready_few}
use Rattle.row_set.specs.Limits.{max_secret}
use Rattle.row_set.specs.RowSet.{first_length, secret_length, judged_identifiers, unreadable}
use Rattle.row_set.proofs.Chains.{passed, through}
use Rattle.row_set.proofs.RowSet.{rows_chain, accepted-rows, after_lengths, fills, ids_are}
use Rattle.sharing.specs.Combine.{combine_outcome, combine_answer}
use Rattle.sharing.specs.ByteLengths.{byte_lengths_answer}
use Rattle.entries.specs.ManyRows.{ManyRows}

each_byte : (s : List ℕ) → Below 256 s → (i : ℕ) → get_or s i 0 < 256
each_byte s b i = all_at (◌< 256) 0 (lit< tt) s i b

never : (s ns : List ℕ) (room count : ℕ) → Below 256 s → 255 < length ns → combine_answer s ns room ≡ done count → ⊥
unfolding combine_outcome
never s ns room count b many e =
    let l = secret_length ns in
    let k = accepted-rows 2 s ns l (through (rows_chain 2 s ns) l (refuse (ltb room l) (refused 12 0 0) (done l)) count e).0 in
    omega (arith, ready_few (l + 1) (length ns) s k.ready (each_byte s b))

never_by_bytes : (s bytes : List ℕ) (room count : ℕ) → Below 256 s → 255 < length bytes / 4 → byte_lengths_answer s bytes room ≡ done count → ⊥
unfolding byte_lengths_answer
never_by_bytes s bytes room count b many e =
    never s (lengths_of bytes) room count b (omega (arith, length-lengths bytes)) (passed (unreadable bytes) 13 0 0 _ count e).1

first_is : (w : ℕ) (ns : List ℕ) → 0 < length ns → all_are w ns ≡ true → first_length ns ≡ w
first_is w [] h e = absurd (omega arith)
first_is w (n ∷ ns) h e = ap first_length (equal_lengths w (n ∷ ns) e)

module _ (s ns : List ℕ) (w : ℕ) (b : Below 256 s) (many : 255 < length ns) (long : 2 ≤ w) (equal : all_are w ns ≡ true) (sums : sum ns ≡ length s) where
  abbrev m : ℕ
  m = length ns

  abbrev ids : List ℕ
  ids = strided w 0 m s

  -- no zero and no repeat, and there are few
  not_neither : length ids ≤ first_zero ids → length ids ≤ first_repeated ids → ⊥
  not_neither z r =
      let count = length-strided w 0 m s in
      let full : m * w ≡ length s = fills ns w m equal refl (length s) (eq-eqb (sum ns) (length s) sums) in
      omega (arith, ready_few w m s (record { stored = omega arith; nonzero = omega arith; distinct = omega arith }) (each_byte s b))

  abbrev SixOrSeven : Outcome → Type 0
  SixOrSeven o = (number_of o ≡ 6) ⊎ (number_of o ≡ 7)

  by_identifiers : (l : ℕ) (later : Outcome) → SixOrSeven (judged_identifiers l ids later)
  by_identifiers l later = zero_first (within (first_zero ids) ids) (ltb-false (first_zero ids) (length ids))
    where
      after : Outcome
      after = refuse (ltb max_secret l) (refused 10 0 0) later

      then_repeat : (t : Bool) → (t ≡ false → length ids ≤ first_repeated ids) → length ids ≤ first_zero ids → SixOrSeven (refuse t (refused 7 (first_repeated ids) (first_repeating ids)) after)
      then_repeat true none z = inr refl
      then_repeat false none z = absurd (not_neither z (none refl))

      zero_first : (t : Bool) → (t ≡ false → length ids ≤ first_zero ids)
          → SixOrSeven (refuse t (refused 6 (first_zero ids) 0) (refuse (within (first_repeated ids) ids) (refused 7 (first_repeated ids) (first_repeating ids)) after))
      zero_first true none = inl refl
      zero_first false none = then_repeat (within (first_repeated ids) ids) (ltb-false (first_repeated ids) (length ids)) (none refl)

  zero_or_repeat : (room : ℕ) → SixOrSeven (combine_answer s ns room)
  unfolding combine_outcome
  zero_or_repeat room =
      let later = refuse (ltb room (secret_length ns)) (refused 12 0 0) (done (secret_length ns)) in
      let first = first_is w ns (omega arith) equal in
      rw (after_lengths 2 s ns later (eq-eqb (sum ns) (length s) sums) (omega arith) (omega (arith, first)) (ap (λ x. all_are x ns) first ∙ equal))
      (rw (ids_are ns w m equal refl s (omega arith)) (by_identifiers (secret_length ns) later))

zero_or_repeat_by_bytes : (s bytes : List ℕ) (room w : ℕ) → Below 256 s → 255 < length bytes / 4 → unreadable bytes ≡ false → 2 ≤ w
    → all_are w (lengths_of bytes) ≡ true → sum (lengths_of bytes) ≡ length s
    → (number_of (byte_lengths_answer s bytes room) ≡ 6) ⊎ (number_of (byte_lengths_answer s bytes room) ≡ 7)
unfolding byte_lengths_answer
zero_or_repeat_by_bytes s bytes room w b many read long equal sums =
    rw read (zero_or_repeat s (lengths_of bytes) w b (omega (arith, length-lengths bytes)) long equal sums room)

pub many_rows : ManyRows
many_rows = record {
  never = never;
  never_by_bytes = never_by_bytes;
  zero_or_repeat = λ s ns room w b many long equal sums. zero_or_repeat s ns w b many long equal sums room;
  zero_or_repeat_by_bytes = zero_or_repeat_by_bytes;
}
