-- `vsss_write_sheet` meets its contract: the word of what the writer answers.
use mathlib.Core.Path.{sym, ap, ◌∙◌, subst}
use Prim.Native.Nat.{◌^◌, ◌<◌}
use lib.ListN.{length}
use Rattle.answer.specs.Outcome.{word_of}
use Rattle.vsss.proofs.Words.{sheet_word}
use Rattle.vsss.proofs.vsss_write_sheet.Goals as goal

pub word-requires : goal.word-requires
word-requires c =
    let s = c.args in
    subst (λ o. word_of o < 2 ^ 64) (sym c.write_sheet.ensures.answers)
    (sheet_word s.threshold s.rows.now s.lengths.now (length s.out.now) (λ i. (c.type_inv.rows i).fits))

pub returns : goal.returns
returns c =
    let p = c.write_sheet.ensures in
    record { answers = c.word.ensures ∙ ap word_of p.answers; leaves = p.leaves }
