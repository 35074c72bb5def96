-- `vsss_split_bytes` meets its contract: the word of what split answers.
use mathlib.Core.Path.{sym, ap, ◌∙◌, subst}
use Prim.Native.Nat.{◌^◌, ◌<◌}
use lib.ListN.{length}
use Rattle.answer.specs.Outcome.{word_of}
use Rattle.vsss.proofs.Words.{split_word}
use Rattle.vsss.proofs.vsss_split_bytes.Goals as goal

pub word-requires : goal.word-requires
word-requires c =
    let s = c.args in
    subst (λ o. word_of o < 2 ^ 64) (sym c.split_bytes_with_participant_ids_iter.ensures.answers)
    (split_word s.threshold s.limit (length s.secret.now) s.ids.now (length s.coefficients.now) (length s.out.now))

pub returns : goal.returns
returns c =
    let p = c.split_bytes_with_participant_ids_iter.ensures in
    record { answers = c.word.ensures ∙ ap word_of p.answers; leaves = p.leaves }
