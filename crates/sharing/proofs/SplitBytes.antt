-- The bytes that split leaves, by its answer.
-- Assumes nothing.
use mathlib.Core.Path.{◌≡◌, ◌∙◌, sym, ap}
use mathlib.Core.List.{List, ◌++◌}
use Prim.Native.Nat.{ℕ, ◌-◌}
use lib.ListN.{length, take, drop}
use Rattle.answer.specs.Outcome.{Outcome, done}
use Rattle.answer.specs.Answers.{reason_of}
use Rattle.answer.specs.declared.Reason.{Reason}
use Rattle.answer.proofs.Meaning.{refusal}
use Rattle.row_set.specs.Limits.{at_exit}
use Rattle.sharing.specs.Split.{split_room, split_outcome, rows_of, split_bytes, Splits}
use Rattle.sharing.proofs.SplitAccepted.{Accepted, accepted}

-- a refusal leaves what stood there
refused_keeps : (reason : Reason) (bytes out : List ℕ) → at_exit (reason_of reason) bytes out ≡ out
refused_keeps reason bytes out = ap (λ o. at_exit o bytes out) (refusal reason)

-- an answer keeps the promise where it is given with these bytes
module _ (t n : ℕ) (ss ids cs out : List ℕ) where
  abbrev outcome : Outcome
  outcome = split_outcome t n (length ss) ids (length cs) (length out)

  pub done-accepted : (m : ℕ) → done m ≡ outcome → Accepted t n (length ss) ids (length cs) (length out) m
  done-accepted m e = accepted t n (length ss) ids (length cs) (length out) m (sym e)

  pub splits_done : (m : ℕ) → done m ≡ outcome → (left : List ℕ) → left ≡ rows_of (t - 1) ss cs (take n ids) ++ drop (split_room n (length ss)) out
      → Splits t n ss ids cs out (done m) left
  unfolding split_bytes
  splits_done m e left written = record {
    answers = e;
    leaves =
        written
        ∙ ap (λ m. rows_of (t - 1) ss cs (take n ids) ++ drop m out) (sym (done-accepted m e).count_is)
        ∙ ap (λ o. at_exit o (rows_of (t - 1) ss cs (take n ids)) out) e;
  }

  pub splits_refused : (reason : Reason) → reason_of reason ≡ outcome → Splits t n ss ids cs out (reason_of reason) out
  unfolding split_bytes
  splits_refused reason e = record {
    answers = e;
    leaves =
        sym (refused_keeps reason (rows_of (t - 1) ss cs (take n ids)) out)
        ∙ ap (λ o. at_exit o (rows_of (t - 1) ss cs (take n ids)) out) e;
  }
