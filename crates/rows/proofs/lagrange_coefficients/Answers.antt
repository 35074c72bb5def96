-- `lagrange_coefficients` meets its contract: what its loops compute is Lagrange's coefficient of each identifier.
use mathlib.Core.Path.{subst}
use mathlib.Core.List.{List}
use Prim.Native.Nat.{ℕ, ◌<◌}
use lib.ListN.{length, get_or}
use Rattle.shamir.specs.Lists.{Below}
use Rattle.rows.proofs.Storage.{strided-one, strided-lt}
use Rattle.rows.proofs.Coefficients.{coefficients_are}
use Rattle.rows.proofs.lagrange_coefficients.Goals as goal

below_of : (n : ℕ) (xs : List ℕ) → ((i : ℕ) → get_or xs i 0 < n) → Below n xs
below_of n xs h = subst (Below n) (strided-one xs) (strided-lt n 1 0 (length xs) xs h)

pub returns : goal.returns
returns c =
    let ids = c.args.ids.now in
    coefficients_are ids _ _ _ _ (below_of 256 ids (λ i. (c.type_inv.ids i).fits)) c.requires.1 c.requires.2 c.copy_from_slice.ensures.after
    c.denominators.ensures c.product-p.ensures c.divide_into.ensures
