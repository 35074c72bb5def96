-- `find` meets its contract: another identifier stands at each place before the one that is found.
use mathlib.Core.Path.{◌≡◌}
use lib.ListN.{get_or}
use borrow.Author.Tests.{tests}
use Rattle.std.proofs.Common.{rules}
use Rattle.std.proofs.lemmas.Iterator.{first_from_Range}
use Rattle.rows.specs.Identifiers.{row_ids}
use Rattle.rows.proofs.Storage.{as_many}
use Rattle.rows.proofs.Search.{search_told}
use Rattle.rows.proofs.Rows.find.Goals as goal

pub returns : goal.returns
returns c =
    let r = c.args.self.now in
    let x = c.args.x in
    search_told c.find.result x c.args.from r.count (row_ids r) (as_many r) c.requires
    (first_from_Range _ _ _ c.find.result (λ i. get_or (row_ids r) i 0 ≡ x) (λ i. get_or (row_ids r) i 0 ≡ x → ⊥) c.find.ensures.ran
    (λ i q k. search (rules, tests)) (λ i q k. search (rules, tests)))
