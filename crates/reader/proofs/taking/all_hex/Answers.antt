-- `all_hex` meets its contract.
use Rattle.std.proofs.Common.{arith, ◌≡◌, Bool, true, ◌&&◌, ℕ}
use Rattle.std.proofs.lemmas.Grind.{common_steps}
use Rattle.std.specs.List.{fold}
use Rattle.reader.specs.Taking.{is_hex_digit}
use Rattle.reader.proofs.HexTests.{hex-all}
use Rattle.reader.proofs.taking.all_hex.Goals as goal

pub returns : goal.returns
returns c =
    let e : c.fold.result ≡ fold (λ (a : Bool) (x : ℕ). a && is_hex_digit x) true c.args.digits.now = grind (arith, common_steps) in
    rw e (hex-all c.args.digits.now)
