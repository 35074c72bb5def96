-- A row in blocks of the secret. Assumes nothing.
use mathlib.Core.Path.{◌≡◌, ◌∙◌, sym, ap, ap₂}
use mathlib.Core.List.{List, [], ◌∷◌, ◌++◌}
use Prim.Native.Nat.{ℕ, suc, ◌+◌, ◌-◌, ◌*◌, ◌≤◌}
use native.Mathlib.Omega.{arith}
use native.Mathlib.Nat.{zero-mul, suc-mul}
use lib.ListN.{length, take, drop}
use lib.Seq.{length-take-le, take-add, drop-drop}
use borrow.Rule.Slice.PartMut.{put_mid}
use Rattle.shamir.specs.Polynomial.{value}
use Rattle.shamir.specs.Rows.{row}
use Rattle.shamir.proofs.Rows.{length-row}
use Rattle.gf256.specs.Field256.{gf256}
use Rattle.polynomial.proofs.Fill.{fill_part}

-- the row of two parts of a secret
pub row-append : (k x : ℕ) (ss ts cs : List ℕ) → row gf256 k x (ss ++ ts) cs ≡ row gf256 k x ss cs ++ row gf256 k x ts (drop (length ss * k) cs)
row-append k x [] ts cs = ap (λ n. row gf256 k x ts (drop n cs)) (sym (zero-mul k))
row-append k x (s ∷ ss) ts cs =
    let n : k + length ss * k ≡ suc (length ss) * k = omega (arith, suc-mul (length ss) k) in
    ap (value gf256 (s ∷ take k cs) x ∷◌)
    (row-append k x ss ts (drop k cs) ∙ ap (λ l. row gf256 k x ss (drop k cs) ++ row gf256 k x ts l) (drop-drop (length ss * k) k cs ∙ ap (λ n. drop n cs) n))

-- a turn: the row grows by the values of the bytes from b to e
pub block_fills : (b e k x : ℕ) (ss cs vs₀ vs new : List ℕ) → b ≤ e → e ≤ length ss → vs ≡ row gf256 k x (take b ss) cs ++ drop b vs₀
    → new ≡ row gf256 k x (take (e - b) (drop b ss)) (drop (b * k) cs) → put_mid b (e - b) vs new ≡ row gf256 k x (take e ss) cs ++ drop e vs₀
block_fills b e k x ss cs vs₀ vs new more within ev en =
    let block = take (e - b) (drop b ss) in
    let done = row gf256 k x (take b ss) cs in
    let long : length (take b ss) ≡ b = length-take-le b ss (omega arith) in
    let end : b + (e - b) ≡ e = omega arith in
    let grown : done ++ new ≡ row gf256 k x (take e ss) cs =
    ap (done ++◌) (en ∙ ap (λ n. row gf256 k x block (drop (n * k) cs)) (sym long))
    ∙ sym (row-append k x (take b ss) block cs)
    ∙ ap (λ l. row gf256 k x l cs) (sym (take-add b (e - b) ss) ∙ ap (λ n. take n ss) end) in
    ap (λ l. put_mid b (e - b) l new) ev
    ∙ fill_part done vs₀ b (length-row gf256 k x (take b ss) cs ∙ long) (e - b) new
    ∙ ap₂ (λ l n. l ++ drop n vs₀) grown end
