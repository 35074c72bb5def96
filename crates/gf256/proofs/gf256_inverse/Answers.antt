-- `gf256_inverse` meets its contract: each product adds the exponents of its factors.
use Prim.Native.Nat.{ℕ, ◌+◌, ◌<◌}
use mathlib.Core.Path.{◌≡◌, sym, ap₂, ◌∙◌}
use native.Mathlib.Omega.{arith}
use Rattle.algebra.specs.Field.{power}
use Rattle.algebra.proofs.Power.{power-one, power-add}
use Rattle.gf256.specs.Field256.{mul256, inv256}
use Rattle.gf256.proofs.Field256.{ring256}
use Rattle.gf256.proofs.gf256_inverse.Goals as goal

times : (a : ℕ) → a < 256 → (i j : ℕ) {r x y : ℕ} → r ≡ mul256 x y → x ≡ power mul256 a i → y ≡ power mul256 a j → r ≡ power mul256 a (i + j)
times a h i j er ex ey = er ∙ ap₂ mul256 ex ey ∙ sym (power-add ring256 a i j h)

pub returns : goal.returns
unfolding inv256
returns c =
    let a = c.args.a in
    let h : a < 256 = omega arith in
    let e1 = sym (power-one ring256 a h) in
    let e2 = times a h 1 1 c.gf256_square-a2.ensures e1 e1 in
    let e3 = times a h 1 2 c.gf256_mul-a3.ensures e1 e2 in
    let e6 = times a h 3 3 c.gf256_square-a6.ensures e3 e3 in
    let e12 = times a h 6 6 c.gf256_square-a12.ensures e6 e6 in
    let e15 = times a h 3 12 c.gf256_mul-a15.ensures e3 e12 in
    let e30 = times a h 15 15 c.gf256_square-a30.ensures e15 e15 in
    let e60 = times a h 30 30 c.gf256_square-a60.ensures e30 e30 in
    let e120 = times a h 60 60 c.gf256_square-a120.ensures e60 e60 in
    let e240 = times a h 120 120 c.gf256_square-a240.ensures e120 e120 in
    let e252 = times a h 12 240 c.gf256_mul-a252.ensures e12 e240 in
    times a h 2 252 c.gf256_mul.ensures e2 e252
