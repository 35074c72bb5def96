-- Where the elements that lie a stride apart stand.
-- Assumes nothing.
use mathlib.Core.Path.{◌≡◌, refl, sym, ap, ◌∙◌}
use mathlib.Core.List.{List}
use Prim.Native.Nat.{ℕ, zero, suc, ◌+◌, ◌*◌, ◌<◌}
use native.Mathlib.Omega.{arith}
use lib.ListN.{length, get_or, drop}
use lib.Seq.{get_or-drop}
use Rattle.strides.specs.Strides.{strided}

pub length-strided : (w k m : ℕ) (s : List ℕ) → length (strided w k m s) ≡ m
length-strided w k zero s = refl
length-strided w k (suc m) s = ap suc (length-strided w k m (drop w s))

pub strided_at : (w k m : ℕ) (s : List ℕ) (i at : ℕ) → i < m → at ≡ i * w + k → get_or s at 0 ≡ get_or (strided w k m s) i 0
strided_at w k zero s i at h e = absurd (omega arith)
strided_at w k (suc m) s zero at h e = ap (λ n. get_or s n 0) (let z : at ≡ k = omega arith in z)
strided_at w k (suc m) s (suc i) at h e =
    ap (λ n. get_or s n 0) (let z : at ≡ w + (i * w + k) = omega arith in z) ∙ sym (get_or-drop w s (i * w + k) 0) ∙ strided_at w k m (drop w s) i (i * w + k) (omega arith) refl
