-- `row` meets its contract: its pieces make the row's line.
use mathlib.Core.Path.{◌∙◌}
use Prim.Native.Nat.{◌-◌}
use native.Mathlib.Omega.{arith}
use lib.ListN.{length, drop, length-drop}
use lib.Seq.{take_all}
use Rattle.sheets.proofs.PutLines.{row_put, row_room}
use Rattle.sheets.proofs.put.Page.row.Goals as goal

pub hex-requires : goal.hex-requires
hex-requires c =
    let a = c.args in
    row_room a.row.now a.self.now.end a.self.now.out.now c.requires.0 c.requires.1 c.word.ensures.puts c.number.ensures.puts c.byte.ensures.puts

pub returns : goal.returns
returns c =
    let a = c.args in
    let row = a.row.now in
    record {
      same = c.byte-2.ensures.same ∙ c.hex.ensures.same ∙ c.byte.ensures.same ∙ c.number.ensures.same ∙ c.word.ensures.same;
      puts = row_put row a.self.now.end a.self.now.out.now (omega (arith, c.requires.1)) (take_all (length row - 1) (drop 1 row) (omega (arith, length-drop 1 row)))
          c.word.ensures.puts c.number.ensures.puts c.byte.ensures.puts c.hex.ensures.puts c.byte-2.ensures.puts;
    }
