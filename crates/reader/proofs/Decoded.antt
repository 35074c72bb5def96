-- Digits of hex are decoded two by two, and a part of the output that was lent comes back.
-- Assumes nothing.
use mathlib.Core.Path.{◌≡◌, refl, sym, ap, ap₂, ◌∙◌}
use mathlib.Core.List.{List, [], ◌∷◌, ◌++◌, append_assoc}
use Prim.Native.Nat.{ℕ, zero, suc, ◌+◌, ◌*◌, ◌-◌, ◌<◌}
use native.Mathlib.Numerals.{add-one}
use native.Mathlib.Omega.{arith}
use lib.ListN.{length, get_or, take, drop, set}
use lib.Seq.{drop-cons, drop-drop, take-add, length-take-le}
use borrow.Rule.Slice.PartMut.{put_mid}
use Rattle.std.proofs.lemmas.List.{set_at}
use Rattle.sheets.specs.ReadAs.{unhex_digit, unhex}
use Rattle.sheets.specs.Writing.{Puts}

unhex-append : (k : ℕ) (cs ds : List ℕ) → length cs ≡ k * 2 → unhex (cs ++ ds) ≡ unhex cs ++ unhex ds
unhex-append zero [] ds e = refl
unhex-append zero (c ∷ cs) ds e = absurd (omega arith)
unhex-append (suc k) [] ds e = absurd (omega arith)
unhex-append (suc k) (c ∷ []) ds e = absurd (omega arith)
unhex-append (suc k) (c ∷ d ∷ cs) ds e = ap ((unhex_digit c * 16 + unhex_digit d) ∷◌) (unhex-append k cs ds (omega arith))

-- one byte more
unhex_more : (ds : List ℕ) (k : ℕ) → k * 2 + 1 < length ds
    → unhex (take ((k + 1) * 2) ds) ≡ unhex (take (k * 2) ds) ++ ((unhex_digit (get_or ds (k * 2) 0) * 16 + unhex_digit (get_or ds (k * 2 + 1) 0)) ∷ [])
unhex_more ds k h =
    let two : (k + 1) * 2 ≡ k * 2 + 2 = omega arith in
    let next : suc (k * 2) ≡ k * 2 + 1 = omega arith in
    ap (λ n. unhex (take n ds)) two
    ∙ ap unhex (take-add (k * 2) 2 ds ∙ ap (λ x. take (k * 2) ds ++ take 2 x) (drop-cons ds (k * 2) 0 (omega arith) ∙ ap (λ n. get_or ds (k * 2) 0 ∷ drop n ds) next ∙ ap (get_or ds (k * 2) 0 ∷◌) (drop-cons ds (k * 2 + 1) 0 h)))
    ∙ unhex-append k (take (k * 2) ds) (get_or ds (k * 2) 0 ∷ get_or ds (k * 2 + 1) 0 ∷ []) (length-take-le (k * 2) ds (omega arith))

-- ---- a turn of the loop that decodes them

length-unhex : (k : ℕ) (cs : List ℕ) → length cs ≡ k * 2 → length (unhex cs) ≡ k
length-unhex zero [] e = refl
length-unhex zero (c ∷ cs) e = absurd (omega arith)
length-unhex (suc k) [] e = absurd (omega arith)
length-unhex (suc k) (c ∷ []) e = absurd (omega arith)
length-unhex (suc k) (c ∷ d ∷ cs) e = omega (arith, length-unhex k cs (omega arith))

pub hex_step : (digits out₀ out : List ℕ) (k h g : ℕ) → length digits ≡ length out₀ * 2 → k < length out₀
    → h ≡ unhex_digit (get_or digits (k * 2) 0) → g ≡ unhex_digit (get_or digits (k * 2 + 1) 0) → out ≡ unhex (take (k * 2) digits) ++ drop k out₀
    → set out k (h * 16 + g) ≡ unhex (take ((k + 1) * 2) digits) ++ drop (k + 1) out₀
hex_step digits out₀ out k h g e more eh eg is =
    let done = unhex (take (k * 2) digits) in
    let count : length done ≡ k = length-unhex k (take (k * 2) digits) (length-take-le (k * 2) digits (omega arith)) in
    let rest : drop k out₀ ≡ get_or out₀ k 0 ∷ drop (k + 1) out₀ = drop-cons out₀ k 0 more ∙ ap (λ n. get_or out₀ k 0 ∷ drop n out₀) (sym (add-one k)) in
    ap (λ x. set x k (h * 16 + g)) (is ∙ ap (done ++◌) rest)
    ∙ set_at done (get_or out₀ k 0) (drop (k + 1) out₀) (h * 16 + g) k count
    ∙ ap₂ (λ a b. done ++ (a * 16 + b) ∷ drop (k + 1) out₀) eh eg
    ∙ sym (append_assoc done (_ ∷ []) (drop (k + 1) out₀))
    ∙ ap (◌++ drop (k + 1) out₀) (sym (unhex_more digits k (omega arith)))

-- a part that was lent comes back
pub puts_part : (p q : ℕ) (out new : List ℕ) → q ≡ p + length new → Puts new p out q (put_mid p (q - p) out new)
puts_part p q out new e =
    let end : p + (q - p) ≡ p + length new = omega arith in
    record { ends = e; leaves = sym (append_assoc (take p out) new _) ∙ ap (take p out ++ new ++◌) (drop-drop (q - p) p out ∙ ap (λ k. drop k out) end) }
