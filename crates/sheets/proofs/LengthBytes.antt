-- Row lengths written as bytes, four a row: from lengths that were read from whole fours of bytes they are those bytes.
-- Assumes nothing.
use mathlib.Core.Path.{◌≡◌, refl, sym, ap, ap₂, ◌∙◌}
use mathlib.Core.List.{List, [], ◌∷◌, ◌++◌}
use Prim.Native.Nat.{ℕ, zero, suc, ◌+◌, ◌*◌, ◌/◌, ◌%◌, ◌^◌, ◌<◌}
use native.Mathlib.Omega.{arith}
use lib.ListN.{length}
use Rattle.shamir.specs.Lists.{Below}
use Rattle.rows.specs.Lengths.{four, four_bytes, length_bytes, fours, lengths_of}

lowest : (n a q : ℕ) → a < 2 ^ 8 → n ≡ a + q * 2 ^ 8 → n % 2 ^ 8 ≡ a
lowest n a q h e = omega arith

four_bytes_lem : (a b c d : ℕ) → a < 256 → b < 256 → c < 256 → four_bytes (four a b c d) ≡ a ∷ b ∷ c ∷ d ∷ []
four_bytes_lem a b c d ha hb hc =
    let n = four a b c d in
    let ea : n % 2 ^ 8 ≡ a = omega arith in
    let eb = lowest (n / 2 ^ 8) b (c + d * 2 ^ 8) hb (omega arith) in
    let ec = lowest (n / 2 ^ 16) c d hc (omega arith) in
    let ed : n / 2 ^ 24 ≡ d = omega arith in
    ap₂ ◌∷◌ ea (ap₂ ◌∷◌ eb (ap₂ ◌∷◌ ec (ap (◌∷ []) ed)))

fours-bytes : (m : ℕ) (bytes : List ℕ) → length bytes ≡ m * 4 → Below 256 bytes → length_bytes (fours m bytes) ≡ bytes
fours-bytes zero [] e h = refl
fours-bytes zero (a ∷ bytes) e h = absurd (omega arith)
fours-bytes (suc m) [] e h = absurd (omega arith)
fours-bytes (suc m) (a ∷ []) e h = absurd (omega arith)
fours-bytes (suc m) (a ∷ b ∷ []) e h = absurd (omega arith)
fours-bytes (suc m) (a ∷ b ∷ c ∷ []) e h = absurd (omega arith)
fours-bytes (suc m) (a ∷ b ∷ c ∷ d ∷ bytes) e h =
    ap₂ ◌++◌ (four_bytes_lem a b c d h.0 h.1.0 h.1.1.0) (fours-bytes m bytes (omega arith) h.1.1.1.1)

pub bytes-lengths : (bytes : List ℕ) → length bytes % 4 ≡ 0 → Below 256 bytes → length_bytes (lengths_of bytes) ≡ bytes
unfolding lengths_of
bytes-lengths bytes e h = fours-bytes (length bytes / 4) bytes (omega arith) h

pub lengths-told : (xs ys : List ℕ) → length xs % 4 ≡ 0 → length ys % 4 ≡ 0 → Below 256 xs → Below 256 ys → lengths_of xs ≡ lengths_of ys → xs ≡ ys
lengths-told xs ys ex ey hx hy e = sym (bytes-lengths xs ex hx) ∙ ap length_bytes e ∙ bytes-lengths ys ey hy
