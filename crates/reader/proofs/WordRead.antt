-- A word at the front of a text, as it is stripped off.
-- Assumes nothing.
use mathlib.Core.Path.{◌≡◌}
use mathlib.Core.Bool.{true, false}
use mathlib.Core.List.{List, ◌++◌}
use Prim.Native.Nat.{ℕ, ◌+◌, ◌-◌}
use native.Mathlib.Omega.{arith}
use denote.Ref.{Bor}
use lib.Dec.{eqb}
use lib.ListN.{length, take, drop, length-drop}
use lib.Seq.{take_all}
use Rattle.std.specs.Cmp.Lexicographic.{pointwise}
use Rattle.std.proofs.Common.{Some, None}
use Rattle.std.proofs.lemmas.Bool.Decides.{Decides-eqb}
use Rattle.std.proofs.lemmas.Slice.Eq.{strip_prefix_is}

pub stripped : (s p : List ℕ) (x : Bor (List ℕ)) → (pointwise eqb (take (length p) s) p ≡ true) × (x.now ≡ drop (length p) s) × (length x.now + length p ≡ length s) → s ≡ p ++ x.now
stripped s p x h = strip_prefix_is Decides-eqb s p (Some x) h

pub other_word : (s p : List ℕ) → pointwise eqb (take (length p) s) p ≡ false → (rest : List ℕ) → s ≡ p ++ rest → ⊥
other_word s p h = strip_prefix_is Decides-eqb s p None h

-- what stands behind the first k of a list
pub behind : (k : ℕ) (xs : List ℕ) → take (length xs - k) (drop k xs) ≡ drop k xs
behind k xs = take_all (length xs - k) (drop k xs) (omega (arith, length-drop k xs))
