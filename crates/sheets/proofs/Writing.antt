-- Texts that are put one behind the other are put as one.
-- Assumes nothing.
use mathlib.Core.Path.{◌≡◌, refl, sym, ap, ap₂, ◌∙◌, subst}
use mathlib.Core.List.{List, [], ◌∷◌, ◌++◌, append_assoc, append-nil}
use Prim.Native.Nat.{ℕ, ◌+◌, ◌<◌, ◌≤◌}
use native.Mathlib.Numerals.{add-one}
use native.Mathlib.Omega.{arith}
use lib.ListN.{length, take, drop, set, length-append, length-drop, length-set, take-append-drop}
use lib.Seq.{length-take-le, take_at, drop_at, drop-drop, set_split, append_snoc}
use Rattle.sheets.specs.Writing.{Puts}

pub puts_nothing : (at : ℕ) (out : List ℕ) → Puts [] at out at out
puts_nothing at out = record { ends = omega arith; leaves = sym (rw (nothing, append-nil) (take-append-drop at out)) }
  where
    nothing : at + 0 ≡ at
    nothing = omega arith

pub puts_byte : (b at : ℕ) (out : List ℕ) → at < length out → Puts (b ∷ []) at out (at + 1) (set out at b)
puts_byte b at out h = record {
  ends = refl;
  leaves = set_split out at b h ∙ ap (λ n. take at out ++ b ∷ drop n out) (sym (add-one at)) ∙ sym (append_snoc (take at out) b (drop (at + 1) out));
}

module _ {a : List ℕ} {at : ℕ} {out : List ℕ} {n : ℕ} {mid : List ℕ} (inside : at ≤ length out) (p : Puts a at out n mid) where
  front : length (take at out ++ a) ≡ n
  front = length-append (take at out) a ∙ ap (◌+ length a) (length-take-le at out inside) ∙ sym p.ends

  parted : mid ≡ take at out ++ a ++ drop n out
  parted = p.leaves ∙ ap (λ k. take at out ++ a ++ drop k out) (sym p.ends)

  -- a text behind it
  pub puts_then : {b left : List ℕ} {e : ℕ} → Puts b n mid e left → Puts (a ++ b) at out e left
  puts_then {b} {left} {e} q = record {
    ends = q.ends ∙ both;
    leaves = q.leaves
        ∙ ap₂ (λ x y. x ++ b ++ y) (ap (take n) parted ∙ take_at (take at out ++ a) (drop n out) n front) rest
        ∙ ap (◌++ drop (at + length (a ++ b)) out) (append_assoc (take at out) a b);
  }
    where
      both : n + length b ≡ at + length (a ++ b)
      both = omega (arith, p.ends, length-append a b)

      rest : drop (n + length b) mid ≡ drop (at + length (a ++ b)) out
      rest =
          sym (drop-drop (length b) n mid)
          ∙ ap (drop (length b)) (ap (drop n) parted ∙ drop_at (take at out ++ a) (drop n out) n front)
          ∙ drop-drop (length b) n out
          ∙ ap (λ k. drop k out) both

  -- a byte behind it
  pub puts_more : (b : ℕ) → n < length mid → Puts (a ++ (b ∷ [])) at out (n + 1) (set mid n b)
  puts_more b h = puts_then (puts_byte b n mid h)

-- two bytes behind it
pub puts_two : {a : List ℕ} {at : ℕ} {out : List ℕ} {n : ℕ} {mid : List ℕ} → at ≤ length out → Puts a at out n mid
    → (b c : ℕ) → n + 1 < length mid → Puts ((a ++ (b ∷ [])) ++ (c ∷ [])) at out (n + 2) (set (set mid n b) (n + 1) c)
puts_two {a} {at} {out} {n} {mid} inside p b c h =
    let two : n + 1 + 1 ≡ n + 2 = omega arith in
    subst (λ e. Puts ((a ++ (b ∷ [])) ++ (c ∷ [])) at out e (set (set mid n b) (n + 1) c)) two
    (puts_more inside (puts_more inside p b (omega arith)) c (omega (arith, length-set mid n b)))

-- an output keeps its length
pub puts-length : {t : List ℕ} {at : ℕ} {out : List ℕ} {e : ℕ} {left : List ℕ} → at + length t ≤ length out → Puts t at out e left → length left ≡ length out
puts-length {t} {at} {out} {e} {left} room p =
    omega (
      arith,
      ap length p.leaves,
      length-append (take at out ++ t) (drop (at + length t) out),
      length-append (take at out) t,
      length-take-le at out (omega arith),
      length-drop (at + length t) out,
    )
