-- `take_hex` meets its contract: after k turns the first k bytes are decoded.
use Rattle.reader.proofs.Decoded.{hex_step}
use Rattle.reader.proofs.decode.take_hex.Goals as goal

pub loop-k-preserved : goal.loop-k-preserved
loop-k-preserved c =
    let a = c.args in
    let l = c.loop-k in
    let h = c.hex_value in
    let g = c.hex_value-in-loop-k in
    hex_step a.digits.now a.out.now l.out l.k h.result g.result c.requires.0 c.loop-k-test.true h.ensures.0 g.ensures.0 l.invariant
