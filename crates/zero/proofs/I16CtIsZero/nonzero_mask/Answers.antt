-- The same at 16 bits, and what is left of it at 8.
use Rattle.std.proofs.Common.{rules}
use mir.Syntax.{w8, w16}
use mir.Val.{SFits}
use Rattle.zero.proofs.Mask.{mask, again, answered}
use Rattle.zero.proofs.I16CtIsZero.nonzero_mask.Goals as goal

pub returns : goal.returns
returns c =
    let a = c.args.self.now in
    let f : SFits w16 a = search rules in
    let m = answered a (again w8 a (mask w16 a f c.negated.ensures)) in
    record { plus_one = m.plus_one; negated = m.negated }
