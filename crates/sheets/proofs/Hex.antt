-- Bytes in hex are hex digits, two a byte, and can be read back, so that the text tells the bytes.
-- Assumes nothing.
use mathlib.Core.Path.{◌≡◌, refl, sym, ap, ap₂, ◌∙◌}
use mathlib.Core.List.{List, [], ◌∷◌}
use mathlib.Core.Logic.{inl, inr, ⊎_elim}
use Prim.Native.Nat.{ℕ, ◌+◌, ◌*◌, ◌/◌, ◌%◌, ◌<◌}
use native.Mathlib.Omega.{arith}
use lib.ListN.{length}
use borrow.Author.Tests.{lt-ltb, le-ltb}
use Rattle.shamir.specs.Lists.{All, Below}
use Rattle.sheets.specs.Text.{hex_digit, hex}
use Rattle.sheets.specs.ReadAs.{unhex_digit, unhex}
use Rattle.sheets.specs.ReadAs.{IsHexDigit}
use Rattle.sheets.proofs.DecimalValue.{one_or_more}

-- ---- its characters

hex_digit_lem : (d : ℕ) → d < 16 → IsHexDigit (hex_digit d)
hex_digit_lem d h = ⊎_elim (λ l. rw (lt-ltb d 10 l) (inl (omega arith))) (λ l. rw (le-ltb d 10 l) (inr (omega arith))) (one_or_more d)

pub hex-digits : (bytes : List ℕ) → Below 256 bytes → All IsHexDigit (hex bytes)
hex-digits [] h = tt
hex-digits (b ∷ bytes) h = let l = h.0 in (hex_digit_lem (b / 16) (omega arith), (hex_digit_lem (b % 16) (omega arith), hex-digits bytes h.1))

pub length-hex : (bytes : List ℕ) → length (hex bytes) ≡ 2 * length bytes
length-hex [] = refl
length-hex (b ∷ bytes) = omega (arith, length-hex bytes)

-- ---- read back

unhex_digit_lem : (d : ℕ) → unhex_digit (hex_digit d) ≡ d
unhex_digit_lem d =
    ⊎_elim
    (λ l. rw (lt-ltb d 10 l, lt-ltb (48 + d) 58 (omega arith)) (omega arith))
    (λ l. rw (le-ltb d 10 l, le-ltb (87 + d) 58 (omega arith)) (omega arith))
    (one_or_more d)

pub unhex-hex : (bytes : List ℕ) → unhex (hex bytes) ≡ bytes
unhex-hex [] = refl
unhex-hex (b ∷ bytes) = ap₂ ◌∷◌ (ap₂ (λ h l. h * 16 + l) (unhex_digit_lem (b / 16)) (unhex_digit_lem (b % 16)) ∙ omega arith) (unhex-hex bytes)

pub hex-told : (xs ys : List ℕ) → hex xs ≡ hex ys → xs ≡ ys
hex-told xs ys e = sym (unhex-hex xs) ∙ ap unhex e ∙ unhex-hex ys
