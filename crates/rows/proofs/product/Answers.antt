-- `product` meets its contract: it may be made from either end.
use mathlib.Core.Path.{◌≡◌, refl, ap, ◌∙◌}
use mathlib.Core.List.{List, [], ◌∷◌, foldr}
use Prim.Native.Nat.{ℕ}
use Rattle.std.proofs.Common.{rules}
use Rattle.std.specs.List.{fold}
use Rattle.algebra.proofs.Ring.{mul_left_comm}
use Rattle.gf256.specs.Field256.{mul256}
use Rattle.gf256.proofs.Field256.{ring256}
use Rattle.rows.proofs.product.Goals as goal

out_first : (xs : List ℕ) (x p : ℕ) → foldr mul256 (mul256 x p) xs ≡ mul256 x (foldr mul256 p xs)
out_first [] x p = refl
out_first (y ∷ xs) x p = ap (mul256 y) (out_first xs x p) ∙ mul_left_comm ring256 y x (foldr mul256 p xs)

either_end : (xs : List ℕ) (p : ℕ) → fold (λ p x. mul256 x p) p xs ≡ foldr mul256 p xs
either_end [] p = refl
either_end (x ∷ xs) p = either_end xs (mul256 x p) ∙ out_first xs x p

pub returns : goal.returns
returns c =
    let e : c.fold.result ≡ fold (λ p x. mul256 x p) 1 c.args.xs.now = search rules in
    e ∙ either_end c.args.xs.now 1
