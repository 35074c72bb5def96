-- `evaluate_in_place` meets its contract: each turn of the loop takes Horner's rule one degree down.
use mathlib.Core.Path.{◌≡◌}
use lib.ListN.{length}
use Rattle.polynomial.specs.Steps.{block_size}
use Rattle.polynomial.proofs.Horner.{partial}
use Rattle.polynomial.proofs.Polynomials.evaluate_in_place.Given as goal

abbrev pub invariant-loop-degree : goal.invariant-loop-degree
invariant-loop-degree l =
    (length l.column ≡ block_size) × (l.vs ≡ partial l.self.k l.x l.degree (length l.self.secret.now) l.self.coefficients.now)
