-- `write_hex` meets its contract: after k turns the digits of the first k bytes are put.
use mathlib.Core.Path.{subst}
use Prim.Native.Nat.{◌+◌, ◌*◌}
use native.Mathlib.Omega.{arith}
use lib.ListN.{set, take}
use Rattle.sheets.specs.Text.{hex}
use Rattle.sheets.specs.Writing.{Puts}
use Rattle.sheets.proofs.HexDigits.{hex_step}
use Rattle.sheets.proofs.put.write_hex.Goals as goal

pub loop-k-preserved : goal.loop-k-preserved
loop-k-preserved c =
    let l = c.loop-k in
    let h = c.hex_digit in
    let g = c.hex_digit-in-loop-k in
    subst (λ e. Puts (hex (take (l.k + 1) c.args.values.now)) 0 c.args.out.now e (set (set l.out (l.k * 2) h.result) (l.k * 2 + 1) g.result)) (omega arith)
    (hex_step c.args.values.now l.k 0 (l.k * 2) c.args.out.now l.out h.result g.result c.loop-k-test.true (omega arith) (omega (arith, l.auto.out, c.requires)) h.ensures g.ensures l.invariant)
