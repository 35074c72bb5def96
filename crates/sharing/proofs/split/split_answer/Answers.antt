-- `split_answer` meets its contract: its tests are those of `split_outcome`, in the same order; a search stands for those of the identifiers.
use mathlib.Core.Path.{◌≡◌, sym, ◌∙◌}
use native.Mathlib.Omega.{arith}
use borrow.Author.Tests.{tests, lt-ltb, le-ltb, eq-eqb, ne_eqb}
use Rattle.std.proofs.Common.{rules}
use Rattle.std.proofs.lemmas.Iterator.{YieldsList-from_slice, YieldsList-from_take, IsFirst-from_position}
use Rattle.sharing.specs.Split.{split_outcome, in_turn}
use Rattle.sharing.proofs.SplitRules.{after_ids, before_ids, Sought, found_zero, found_few, found_all}
use Rattle.sharing.proofs.split.split_answer.Goals as goal
use Rattle.sharing.proofs.split.split_answer.Goals.{After-position, Else-ids-limit}

sought : (c : After-position) → Sought c.args.limit c.args.ids.now c.position.result
sought c =
    IsFirst-from_position _ _ c.position.result (λ x. x ≡ 0) (λ x. x ≡ 0 → ⊥) c.position.ensures.ran
    (YieldsList-from_take c.args.limit (YieldsList-from_slice c.args.ids.now (search rules)) (search rules))
    (λ x q k. search (rules, tests)) (λ x q k. search (rules, tests))

before : (c : After-position) → split_outcome c.args.threshold c.args.limit c.args.length c.args.ids.now c.args.count c.args.room
    ≡ in_turn 0 c.args.limit c.args.ids.now (after_ids c.args.threshold c.args.limit c.args.length c.args.count c.args.room)
before c = let a = c.args in before_ids a.threshold a.limit a.length a.ids.now a.count a.room (omega arith) c.if-length-eq0.false (omega arith) (omega arith)

settled : (c : Else-ids-limit) → split_outcome c.args.threshold c.args.limit c.args.length c.args.ids.now c.args.count c.args.room ≡ after_ids c.args.threshold c.args.limit c.args.length c.args.count c.args.room
settled c =
    let a = c.args in
    before (goal.at.Else-ids-limit c).After-position ∙ found_all _ a.limit a.ids.now c.position.result (sought (goal.at.Else-ids-limit c).After-position) c.in_default.is c.if-ids-limit.false

pub returns-in-Some : goal.returns-in-Some
returns-in-Some c =
    let a = c.args in
    let p = (goal.at.returns-in-Some c).After-position in
    sym (before p ∙ found_zero _ a.limit a.ids.now c.position.result (sought p) c.in-Some.i c.in-Some.is)

pub returns-then-ids-limit : goal.returns-then-ids-limit
returns-then-ids-limit c =
    let a = c.args in
    let p = (goal.at.returns-then-ids-limit c).After-position in
    sym (before p ∙ found_few _ a.limit a.ids.now c.position.result (sought p) c.in_default.is c.if-ids-limit.true)

pub returns-then-length-gt-MAX_SECRET : goal.returns-then-length-gt-MAX_SECRET
returns-then-length-gt-MAX_SECRET c =
    sym (settled (goal.at.returns-then-length-gt-MAX_SECRET c).Else-ids-limit ∙ simp (lt-ltb _ _ c.if-length-gt-MAX_SECRET.true))

pub returns-then-count-length : goal.returns-then-count-length
returns-then-count-length c =
    sym (settled (goal.at.returns-then-count-length c).Else-ids-limit ∙ simp (le-ltb _ _ c.if-length-gt-MAX_SECRET.false, ne_eqb _ _ c.if-count-length.true))

pub returns-then-room-bytes : goal.returns-then-room-bytes
returns-then-room-bytes c =
    sym (settled (goal.at.returns-then-room-bytes c).Else-ids-limit ∙ simp (le-ltb _ _ c.if-length-gt-MAX_SECRET.false, eq-eqb _ _ c.if-count-length.false, lt-ltb _ _ c.if-room-bytes.true))

pub returns : goal.returns
returns c =
    sym (settled (goal.at.returns c).Else-ids-limit ∙ simp (le-ltb _ _ c.if-length-gt-MAX_SECRET.false, eq-eqb _ _ c.if-count-length.false, le-ltb _ _ c.if-room-bytes.false))
