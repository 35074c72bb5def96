-- `decimal_length` meets its contract: between two powers of ten there is one count of digits.
use mathlib.Core.Path.{sym}
use native.Mathlib.Omega.{arith}
use Rattle.sheets.proofs.Decimal.{length-decimal-small, digits}
use Rattle.sheets.proofs.length.decimal_length.Goals as goal

pub returns-in-0-to-9 : goal.returns-in-0-to-9
returns-in-0-to-9 c = (sym (length-decimal-small c.args.n (omega arith)), omega arith)

pub returns-in-10-to-99 : goal.returns-in-10-to-99
returns-in-10-to-99 c = (sym (digits 1 c.args.n (omega arith) (omega arith)), omega arith)

pub returns-in-100-to-999 : goal.returns-in-100-to-999
returns-in-100-to-999 c = (sym (digits 2 c.args.n (omega arith) (omega arith)), omega arith)

pub returns-in-1000-to-9999 : goal.returns-in-1000-to-9999
returns-in-1000-to-9999 c = (sym (digits 3 c.args.n (omega arith) (omega arith)), omega arith)

pub returns-in_default : goal.returns-in_default
returns-in_default c = (sym (digits 4 c.args.n (omega arith) c.requires), omega arith)
