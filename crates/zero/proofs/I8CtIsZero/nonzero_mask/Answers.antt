-- The join with the wrapped negative has its sign bit set exactly where the number is not 0: the law over the width, at 8 bits.
use Rattle.std.proofs.Common.{rules}
use mir.Syntax.{w8}
use mir.Val.{SFits}
use Rattle.zero.proofs.Mask.{mask, answered}
use Rattle.zero.proofs.I8CtIsZero.nonzero_mask.Goals as goal

pub returns : goal.returns
returns c =
    let a = c.args.self.now in
    let f : SFits w8 a = search rules in
    let m = answered a (mask w8 a f c.negated.ensures) in
    record { plus_one = m.plus_one; negated = m.negated }
