-- `write_rows` meets its contract: after j turns the first j rows stand at the front of the output, and behind them what stood there.
use mathlib.Core.Path.{◌≡◌}
use mathlib.Core.List.{◌++◌}
use lib.ListN.{length, take, drop}
use Rattle.sharing.specs.Split.{split_room, rows_of}
use Rattle.sharing.proofs.split.write_rows.Given as goal

abbrev pub invariant-loop-j : goal.invariant-loop-j
invariant-loop-j l =
    let p = l.polynomials in
    l.out ≡ rows_of p.k p.secret.now p.coefficients.now (take l.j l.ids) ++ drop (split_room l.j (length p.secret.now)) l.initial.out
