-- `judge_lines` meets its contract: the lines before the next one are those of right rows, and their identifiers are marked.
use Rattle.reader.proofs.Judged.{ReadTo}
use Rattle.reader.proofs.judge.judge_lines.Given as goal

abbrev pub invariant-loop-line : goal.invariant-loop-line
invariant-loop-line l = ReadTo l.text l.head.rows l.head.values l.seen l.line l.rest
