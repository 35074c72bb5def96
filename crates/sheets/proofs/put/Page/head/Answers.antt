-- `head` meets its contract: its pieces make the first line.
use mathlib.Core.Path.{◌∙◌}
use native.Mathlib.Omega.{arith}
use Rattle.sheets.proofs.PutLines.{head_put}
use Rattle.sheets.proofs.put.Page.head.Goals as goal

pub returns : goal.returns
returns c =
    let a = c.args in
    let h = a.head.now in
    record {
      same = c.byte.ensures.same ∙ c.number-3.ensures.same ∙ c.number-2.ensures.same ∙ c.number.ensures.same ∙ c.word.ensures.same;
      puts = head_put h.threshold h.rows h.values a.self.now.end a.self.now.out.now (omega (arith, c.requires))
          c.word.ensures.puts c.number.ensures.puts c.number-2.ensures.puts c.number-3.ensures.puts c.byte.ensures.puts;
    }
