-- `decimal` meets its contract; it calls itself for the tenth of the number.
use mathlib.Core.Path.{◌∙◌}
use native.Mathlib.Omega.{arith}
use Rattle.sheets.proofs.Decimal.{length-decimal-small, length-decimal_more}
use Rattle.sheets.proofs.PutDigits.{small_put, last_put}
use Rattle.sheets.proofs.Writing.{puts-length}
use Rattle.sheets.proofs.put.Page.+decimal.Goals as goal

pub byte-requires : goal.byte-requires
byte-requires t c = omega (arith, c.requires, length-decimal-small c.args.n c.if-n-lt10.true)

pub returns-then-n-lt10 : goal.returns-then-n-lt10
returns-then-n-lt10 t c = record { same = c.byte.ensures.same; puts = small_put c.args.n c.digit.result c.if-n-lt10.true c.digit.ensures c.byte.ensures.puts }

pub decimal-requires : goal.decimal-requires
decimal-requires t c = (omega (arith, c.decreases, c.if-n-lt10.false), omega (arith, c.requires, length-decimal_more c.args.n c.if-n-lt10.false))

pub byte-requires-2 : goal.byte-requires-2
byte-requires-2 t c =
    let more = length-decimal_more c.args.n c.if-n-lt10.false in
    let p = c.decimal.ensures.puts in
    omega (arith, more, c.requires, p.ends, puts-length (omega (arith, more, c.requires)) p)

pub returns : goal.returns
returns t c = record {
  same = c.byte-2.ensures.same ∙ c.decimal.ensures.same;
  puts = last_put c.args.n c.digit-2.result c.if-n-lt10.false (omega (arith, c.requires)) c.digit-2.ensures c.decimal.ensures.puts c.byte-2.ensures.puts;
}
