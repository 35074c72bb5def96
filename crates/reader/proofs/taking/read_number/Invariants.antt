-- `read_number` meets its contract: after k turns the first k characters are digits, with the value n.
use mathlib.Core.Path.{◌≡◌}
use Rattle.reader.proofs.DigitsRead.{Digits}
use Rattle.reader.proofs.taking.read_number.Given as goal

abbrev pub invariant-loop-c : goal.invariant-loop-c
invariant-loop-c l = (l.k ≡ l.c-index) × Digits l.text l.k l.n
