-- The promises of split and combine determine their outcomes, which depend on nothing secret, and shut the wrong programs out.
-- Assumes nothing.
use mathlib.Core.Path.{◌≡◌, sym, ap, ◌∙◌}
use mathlib.Core.List.{List, zip_with}
use Prim.Native.Nat.{ℕ}
use native.Mathlib.Omega.{arith}
use lib.ListN.{get_or}
use Rattle.poly2.specs.Poly2.{mul_mod, rem, reduce, clmul}
use Rattle.algebra.specs.Field.{power}
use Rattle.answer.proofs.Meaning.{told}
use Rattle.gf256.specs.Field256.{mul256, inv256}
use Rattle.row_set.specs.RowSet.{judged}
use Rattle.sharing.specs.Split.{split_outcome, split_bytes}
use Rattle.sharing.specs.Combine.{combine_outcome, combine_bytes}
use Rattle.sharing.specs.ByteLengths.{byte_lengths_answer}
use Rattle.demands.specs.Promises.{Determined, Independent, ShutOut}

pub determined : Determined
determined = record {
  split = λ t n secret ids coefficients out a b left right p q.
      (told a b (p.answers ∙ sym q.answers), p.leaves ∙ sym q.leaves);
  combine = λ s lengths out a b left right p q. (told a b (p.answers ∙ sym q.answers), p.leaves ∙ sym q.leaves);
  by_byte_lengths = λ s bytes out a b left right p q. (told a b (p.answers ∙ sym q.answers), p.leaves ∙ sym q.leaves);
}

pub independent : Independent
unfolding byte_lengths_answer
independent = record {
  split = λ t n ids secret secret' coefficients coefficients' out out' left left' a a' es ec eo p q.
      p.answers ∙ rw (es, ec, eo) (sym q.answers);
  combine = λ s s' lengths out out' left left' a a' es ei eo p q. p.answers ∙ rw (es, ei, eo) (sym q.answers);
  by_byte_lengths = λ s s' bytes out out' left left' a a' es ei eo p q. p.answers ∙ rw (es, ei, eo) (sym q.answers);
}

-- two lists of numbers that differ at a place
differ : (i : ℕ) {xs ys : List ℕ} → (get_or xs i 0 ≡ get_or ys i 0 → ⊥) → xs ≡ ys → ⊥
differ i apart e = apart (ap (λ l. get_or l i 0) e)

pub shut_out : ShutOut
unfolding split_outcome split_bytes judged combine_outcome combine_bytes zip_with mul256 inv256 power mul_mod rem reduce clmul
shut_out = record {
  refuses_all = λ number first second left p. let e = p.answers in let z : ◌≡◌ {A = ℕ} 0 1 = cc in omega arith;
  fixed_key = λ a b key p q. differ 0 (λ e. omega arith) (sym p.leaves ∙ q.leaves);
  copies_secret = λ a p. differ 1 (λ e. omega arith) p.leaves;
  only_identifiers = λ a p. differ 1 (λ e. omega arith) p.leaves;
  nothing_written = λ p. differ 0 (λ e. omega arith) p.leaves;
  nothing_combined = λ p. differ 0 (λ e. omega arith) p.leaves;
}
