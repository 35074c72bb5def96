-- `sheet_length` meets its contract: after i turns the first line and those of the first i rows are counted.
use mathlib.Core.Path.{◌≡◌, refl, sym, ap, ◌∙◌}
use mathlib.Core.List.{[], ◌∷◌}
use Prim.Native.Nat.{◌+◌, ◌<◌}
use native.Mathlib.Omega.{arith}
use lib.ListN.{length, get_or, length-append}
use Rattle.std.specs.Slice.Iter.{chunks_exact_rest, chunks_exact_size}
use Rattle.sheets.specs.Text.{decimal}
use Rattle.sheets.specs.Sheet.{head_line}
use Rattle.sheets.proofs.PutRows.{lines_to, row_at, line-length, sheet_length_is}
use Rattle.sheets.proofs.RowChunks.{all_left, more, chunk_is, fewer_left, all_taken}
use Rattle.sheets.proofs.length.sheet_length.Goals as goal
use Rattle.sheets.proofs.length.sheet_length.Goals.{In-Some}

-- the row that comes next is whole, and is the storage's
long : (c : In-Some) → length c.in-Some.row.now ≡ c.args.head.now.values + 1
long c = c.in-Some.ensures.steps.1.1 ∙ c.loop-row.invariant.0

is : (c : In-Some) → c.in-Some.row.now ≡ row_at (length c.loop-row.yielded) (c.args.head.now.values + 1) c.args.rows.now
is c = chunk_is c.loop-row.invariant.1 c.in-Some.row.now _ c.in-Some.ensures.steps.1.0 (long c)

inside : (c : In-Some) → length c.loop-row.yielded < c.args.head.now.rows
inside c = more c.loop-row.invariant.1 c.in-Some.row.now _ c.in-Some.ensures.steps.1.0 (long c)

pub loop-row-init : goal.loop-row-init
loop-row-init c =
    let h = c.args.head.now in
    let items = c.chunks_exact-row-items.ensures in
    let same = c.into_iter-row-iterator.ensures.into_iter_gives in
    let head = c.head_length-n.ensures in (
      ap chunks_exact_size same ∙ items.size,
      all_left h.rows (h.values + 1) c.args.rows.now _ (omega arith) c.requires (ap chunks_exact_rest same ∙ items.rest),
      omega (arith, head.0),
      omega (arith, head.1),
    )

pub bounds-row-0 : goal.bounds-row-0
bounds-row-0 c = omega (arith, long (goal.at.bounds-row-0 c).In-Some)

pub overflow_add-n : goal.overflow_add-n
overflow_add-n c =
    let at = (goal.at.overflow_add-n c).In-Some in
    omega (arith, inside at, c.loop-row.invariant.3, c.row_length-n.ensures.1)

pub loop-row-preserved : goal.loop-row-preserved
loop-row-preserved c =
    let h = c.args.head.now in
    let l = c.loop-row in
    let at = (goal.at.loop-row-preserved c).In-Some in
    let row = c.row_length-n.ensures in
    let first = ap (λ r. length (decimal (get_or r 0 0))) (is at) in
    rw (length-append l.yielded (c.in-Some.row ∷ [])) (
      c.in-Some.ensures.steps.0 ∙ l.invariant.0,
      fewer_left l.invariant.1 c.in-Some.row.now _ c.in-Some.ensures.steps.1.0 (long at),
      omega (arith, l.invariant.2, row.0, first, line-length h.rows (h.values + 1) c.args.rows.now (length l.yielded) (inside at) h.values refl c.requires),
      omega (arith, l.invariant.3, row.1),
    )

pub returns : goal.returns
returns c =
    let h = c.args.head.now in
    let l = c.loop-row in
    let all = all_taken l.invariant.1 (omega (arith, c.in-None.ensures.steps.1.0, l.invariant.0)) in
    l.invariant.2
    ∙ ap (λ k. length (head_line h.threshold h.rows h.values) + length (lines_to k (h.values + 1) c.args.rows.now)) all
    ∙ sym (sheet_length_is h.threshold h.values h.rows (h.values + 1) c.args.rows.now)
