-- `vsss_read_sheet` meets its contract: the word of what the reader answers.
use mathlib.Core.Path.{sym, ap, ◌∙◌, subst}
use Prim.Native.Nat.{◌^◌, ◌<◌}
use lib.ListN.{length}
use Rattle.answer.specs.Outcome.{word_of}
use Rattle.vsss.proofs.Words.{read_word}
use Rattle.vsss.proofs.vsss_read_sheet.Goals as goal

pub word-requires : goal.word-requires
word-requires c =
    let a = c.args in
    subst (λ o. word_of o < 2 ^ 64) (sym c.read_sheet.ensures.answers)
    (read_word a.text.now (length a.head.now) (length a.out.now))

pub returns : goal.returns
returns c =
    let p = c.read_sheet.ensures in
    record { gives = record { answers = c.word.ensures ∙ ap word_of p.answers; leaves = p.leaves }; head_after = p.head_leaves }
