-- `take_row` meets its contract.
use mathlib.Core.Path.{sym, ap, ◌∙◌}
use Prim.Native.Nat.{◌*◌}
use native.Mathlib.Omega.{arith}
use lib.ListN.{length, take, drop}
use Rattle.std.proofs.lemmas.Option.{MatchOption-at_some}
use Rattle.sheets.specs.ReadAs.{unhex}
use Rattle.reader.specs.Taking.{NumberRead, StartRead}
use Rattle.reader.proofs.WordRead.{behind}
use Rattle.reader.proofs.RowDecoded.{started, line-inside, values_hex, row_taken, id_first, lent}
use Rattle.reader.proofs.decode.take_row.Goals as goal
use Rattle.reader.proofs.decode.take_row.Goals.{After-unwrap-id}

number : (c : After-unwrap-id) → NumberRead (drop 4 c.args.text.now) c.unwrap-id.result.0 c.unwrap-id.result.1.now
number c = rw (sym (behind 4 c.args.text.now)) (MatchOption-at_some _ _ c.unwrap-id.result c.unwrap-id.ensures c.read_number.ensures)

start : (c : After-unwrap-id) → StartRead c.args.text.now c.unwrap-id.result.0 (drop 1 c.unwrap-id.result.1.now)
start c = started c.args.text.now c.args.l (number c) c.requires.0

pub split_at-requires : goal.split_at-requires
split_at-requires c =
    rw (behind 1 c.unwrap-id.result.1.now)
    (omega (arith, line-inside c.args.text.now c.args.l (start (goal.at.split_at-requires c).After-unwrap-id) c.requires.0))

pub take_hex-requires : goal.take_hex-requires
take_hex-requires c = (
  c.split_at.ensures.front_len ∙ ap (◌* 2) (sym (lent c.unwrap-id.result.0 c.args.out.now c.args.l c.requires.1)),
  rw (c.split_at.ensures.front, behind 1 c.unwrap-id.result.1.now)
      (values_hex c.args.text.now c.args.l (start (goal.at.take_hex-requires c).After-unwrap-id) c.requires.0),
)

pub slice_bounds-result-count : goal.slice_bounds-result-count
slice_bounds-result-count c =
    omega (arith, line-inside c.args.text.now c.args.l (start (goal.at.slice_bounds-result-count c).After-unwrap-id) c.requires.0, c.split_at.ensures.back_len, ap length (behind 1 c.unwrap-id.result.1.now))

pub slice_bounds-result-start : goal.slice_bounds-result-start
slice_bounds-result-start c =
    omega (arith, line-inside c.args.text.now c.args.l (start (goal.at.slice_bounds-result-start c).After-unwrap-id) c.requires.0, c.split_at.ensures.back_len, ap length (behind 1 c.unwrap-id.result.1.now))

pub returns : goal.returns
returns c =
    let a = c.args in
    let s = c.split_at in
    let text = ap (take (a.l * 2)) (behind 1 c.unwrap-id.result.1.now) in
    row_taken a.text.now a.l (start (goal.at.returns c).After-unwrap-id) c.take_hex.new.out _ _ (c.take_hex.ensures ∙ ap unhex (s.ensures.front ∙ text))
    (id_first c.unwrap-id.result.0 a.out.now c.take_hex.new.out (omega (arith, c.requires.1)))
    (behind 1 s.result.1.now ∙ ap (drop 1) (s.ensures.back ∙ ap (drop (a.l * 2)) (behind 1 c.unwrap-id.result.1.now)))
