-- `vsss_combine_bytes` meets its contract: the word of what combine answers.
use mathlib.Core.Path.{sym, ap, ◌∙◌, subst}
use Prim.Native.Nat.{◌^◌, ◌<◌}
use lib.ListN.{length}
use Rattle.answer.specs.Outcome.{word_of}
use Rattle.vsss.proofs.Words.{combine_word}
use Rattle.vsss.proofs.vsss_combine_bytes.Goals as goal

pub word-requires : goal.word-requires
word-requires c =
    let s = c.args in
    subst (λ o. word_of o < 2 ^ 64) (sym c.combine_bytes_by_byte_lengths.ensures.answers)
    (combine_word s.rows.now s.lengths.now (length s.out.now))

pub returns : goal.returns
returns c =
    let p = c.combine_bytes_by_byte_lengths.ensures in
    record { answers = c.word.ensures ∙ ap word_of p.answers; leaves = p.leaves }
