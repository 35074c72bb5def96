-- The rows that are found in what an accepted split leaves.
-- Assumes nothing.
use mathlib.Core.Path.{◌≡◌, ◌∙◌, sym, ap, ap₂}
use mathlib.Core.List.{List, [], ◌∷◌, ◌++◌, append_assoc}
use Prim.Native.Nat.{ℕ, zero, suc, ◌+◌, ◌-◌, ◌*◌, ◌<◌}
use native.Mathlib.Nat.{zero-mul, suc-mul}
use native.Mathlib.Omega.{arith}
use lib.ListN.{length, take, drop, get_or}
use lib.Seq.{take_at, drop_at, drop-drop, get_or-take, length-take-le}
use Rattle.answer.specs.Outcome.{done}
use Rattle.shamir.specs.Rows.{row}
use Rattle.shamir.proofs.Rows.{length-row}
use Rattle.gf256.specs.Field256.{gf256}
use Rattle.row_set.specs.Limits.{at_exit}
use Rattle.sharing.specs.Split.{split_outcome, rows_of, split_bytes}
use Rattle.sharing.proofs.SplitAccepted.{accepted}
use Rattle.demands.specs.Demands.{row_at}

row_in : (k : ℕ) (ss cs xs rest : List ℕ) (p : ℕ) → p < length xs
    → row_at (length ss) (rows_of k ss cs xs ++ rest) p ≡ get_or xs p 0 ∷ row gf256 k (get_or xs p 0) ss cs
row_in k ss cs [] rest p h = absurd (omega arith)
row_in k ss cs (x ∷ xs) rest zero h =
    let r = x ∷ row gf256 k x ss cs in
    ap₂ (λ n l. take (length ss + 1) (drop n l)) (zero-mul (length ss + 1)) (append_assoc r (rows_of k ss cs xs) rest)
    ∙ take_at r (rows_of k ss cs xs ++ rest) (length ss + 1) (omega (arith, length-row gf256 k x ss cs))
row_in k ss cs (x ∷ xs) rest (suc p) h =
    let w = length ss + 1 in
    let r = x ∷ row gf256 k x ss cs in
    let n : suc p * w ≡ w + p * w = omega (arith, suc-mul p w) in
    ap (take w)
    (ap₂ drop n (append_assoc r (rows_of k ss cs xs) rest)
    ∙ sym (drop-drop (p * w) w (r ++ (rows_of k ss cs xs ++ rest)))
    ∙ ap (drop (p * w)) (drop_at r (rows_of k ss cs xs ++ rest) w (omega (arith, length-row gf256 k x ss cs))))
    ∙ row_in k ss cs xs rest p (omega arith)

-- row p of an accepted split: the identifier at place p, and then its values
pub row_of_split : (t n : ℕ) (ss ids cs out : List ℕ) (m : ℕ) → split_outcome t n (length ss) ids (length cs) (length out) ≡ done m
    → (p : ℕ) → p < n → row_at (length ss) (split_bytes t n ss ids cs out) p ≡ get_or ids p 0 ∷ row gf256 (t - 1) (get_or ids p 0) ss cs
unfolding split_bytes
row_of_split t n ss ids cs out m e p h =
    let a = accepted t n (length ss) ids (length cs) (length out) m e in
    ap (λ o. row_at (length ss) (at_exit o (rows_of (t - 1) ss cs (take n ids)) out) p) e
    ∙ row_in (t - 1) ss cs (take n ids) (drop m out) p (omega (arith, length-take-le n ids a.ids-enough))
    ∙ ap (λ x. x ∷ row gf256 (t - 1) x ss cs) (get_or-take n ids p 0 h)
