-- `rows` meets its contract: after i turns the lines of the first i rows are put.
use mathlib.Core.Path.{◌≡◌, refl, ◌∙◌, sym, ap, subst}
use mathlib.Core.List.{[], ◌∷◌}
use Prim.Native.Nat.{◌+◌, ◌≤◌}
use native.Mathlib.Omega.{arith}
use lib.ListN.{length, length-append}
use Rattle.std.specs.Slice.Iter.{chunks_exact_rest, chunks_exact_size}
use Rattle.sheets.specs.Sheet.{row_line}
use Rattle.sheets.specs.Writing.{Puts}
use Rattle.sheets.proofs.Writing.{puts_nothing, puts-length}
use Rattle.sheets.proofs.PutRows.{lines_to, row_at, row_fits, rows_step}
use Rattle.sheets.proofs.RowChunks.{all_left, more, chunk_is, fewer_left, all_taken}
use Rattle.sheets.proofs.put.Page.rows.Goals as goal
use Rattle.sheets.proofs.put.Page.rows.Goals.{In-Some}

-- the row that comes next is whole, is the storage's, and has room for its line
long : (c : In-Some) → length c.in-Some.row.now ≡ c.args.rows.now.width
long c = c.in-Some.ensures.steps.1.1 ∙ c.loop-row.invariant.2

is : (c : In-Some) → c.in-Some.row.now ≡ row_at (length c.loop-row.yielded) c.args.rows.now.width c.args.rows.now.bytes.now
is c = chunk_is c.loop-row.invariant.3 c.in-Some.row.now _ c.in-Some.ensures.steps.1.0 (long c)

room : (c : In-Some) → c.loop-row.self.end + length (row_line c.in-Some.row.now) ≤ length c.loop-row.self.out.now
room c =
    let a = c.args in
    let l = c.loop-row in
    let inside = more l.invariant.3 c.in-Some.row.now _ c.in-Some.ensures.steps.1.0 (long c) in
    subst (λ r. l.self.end + length (row_line r) ≤ length l.self.out.now) (sym (is c))
    (row_fits a.rows.now.count a.rows.now.width a.rows.now.bytes.now (length l.yielded) inside a.self.now.end l.self.end l.self.out.now (omega (arith, c.requires, l.invariant.1)) l.invariant.4.ends)

pub loop-row-init : goal.loop-row-init
loop-row-init c =
    let a = c.args in
    let items = c.chunks_exact-row-items.ensures in
    let same = c.into_iter-row-iterator.ensures.into_iter_gives in (
      refl,
      refl,
      ap chunks_exact_size same ∙ items.size,
      all_left a.rows.now.count a.rows.now.width a.rows.now.bytes.now _ a.rows.now.some a.rows.now.stored (ap chunks_exact_rest same ∙ items.rest),
      puts_nothing a.self.now.end a.self.now.out.now,
    )

pub row-requires : goal.row-requires
row-requires c = let at = (goal.at.row-requires c).In-Some in (omega (arith, long at), room at)

pub loop-row-preserved : goal.loop-row-preserved
loop-row-preserved c =
    let a = c.args in
    let l = c.loop-row in
    let r = c.row in
    let at = (goal.at.loop-row-preserved c).In-Some in
    let line : Puts (row_line (row_at (length l.yielded) a.rows.now.width a.rows.now.bytes.now)) l.self.end l.self.out.now r.new.self.end r.new.self.out.now =
    subst (λ x. Puts (row_line x) l.self.end l.self.out.now r.new.self.end r.new.self.out.now) (is at) r.ensures.puts in
    rw (length-append l.yielded (c.in-Some.row ∷ [])) (
      r.ensures.same ∙ l.invariant.0,
      puts-length (room at) r.ensures.puts ∙ l.invariant.1,
      c.in-Some.ensures.steps.0 ∙ l.invariant.2,
      fewer_left l.invariant.3 c.in-Some.row.now _ c.in-Some.ensures.steps.1.0 (long at),
      rows_step (length l.yielded) a.rows.now.width a.self.now.end l.self.end r.new.self.end a.rows.now.bytes.now a.self.now.out.now l.self.out.now r.new.self.out.now (omega (arith, c.requires)) l.invariant.4 line,
    )

pub returns : goal.returns
returns c =
    let a = c.args in
    let l = c.loop-row in
    let all = all_taken l.invariant.3 (omega (arith, c.in-None.ensures.steps.1.0, l.invariant.2)) in
    record {
      same = l.invariant.0;
      puts = subst (λ k. Puts (lines_to k a.rows.now.width a.rows.now.bytes.now) a.self.now.end a.self.now.out.now l.self.end l.self.out.now) all l.invariant.4;
    }
