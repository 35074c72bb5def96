-- `combine_rows` meets its contract: the identifiers are at most 255, so that the local arrays hold them, and the sums are the values at 0
-- of the polynomials through the points.
use mathlib.Core.Path.{◌≡◌, sym, ap, ap₂, ◌∙◌, subst}
use mathlib.Core.List.{List}
use Prim.Native.Nat.{ℕ, ◌+◌, ◌<◌, ◌≤◌}
use lib.ListN.{take, length, get_or, replicate, length-map}
use lib.Seq.{length-take-le}
use Rattle.std.proofs.Common.{rules}
use Rattle.gf256.specs.Field256.{gf256}
use Rattle.shamir.specs.Lists.{Distinct, Fresh}
use Rattle.shamir.specs.Polynomial.{weight}
use Rattle.strides.specs.Strides.{strided}
use Rattle.rows.specs.declared.Rows.{Rows}
use Rattle.rows.specs.Combining.{Ready}
use Rattle.rows.specs.Identifiers.{row_ids}
use Rattle.rows.proofs.Storage.{as_many}
use Rattle.rows.proofs.Sums.{combined_is}
use Rattle.rows.proofs.Ready.{ready_few, ready_nonzero, ready_distinct}
use Rattle.rows.proofs.Rows.combine_rows.Goals as goal
use Rattle.rows.proofs.Rows.combine_rows.Goals.{After-storage-bytes}

module _ (r : Rows) (ready : Ready r.width r.count r.bytes.now) (s : List ℕ) (same : s ≡ r.bytes.now) (bytes : (i : ℕ) → get_or s i 0 < 256) where
  all_bytes : (i : ℕ) → get_or r.bytes.now i 0 < 256
  all_bytes i = subst (λ l. get_or l i 0 < 256) same (bytes i)

  few : r.count ≤ 255
  few = ready_few r.width r.count r.bytes.now ready all_bytes

  -- the part of a local array that is lent is as long as there are rows
  lent : length {A = ℕ} (take r.count (replicate 255 0)) ≡ r.count
  lent = length-take-le r.count (replicate 255 0) few

  gathered : (g : List ℕ) → g ≡ strided r.width 0 (length {A = ℕ} (take r.count (replicate 255 0))) s → g ≡ row_ids r
  gathered g e = e ∙ ap₂ (strided r.width 0) lent same

known : (c : After-storage-bytes) → (i : ℕ) → get_or c.storage-bytes.result.now i 0 < 256
known c i = (c.type_inv.bytes i).fits

few-rows : (c : After-storage-bytes) → c.args.self.now.count ≤ 255
few-rows c = few c.args.self.now c.requires.1 _ c.storage-bytes.ensures (known c)

as_lent : (c : After-storage-bytes) → c.args.self.now.count ≡ length {A = ℕ} (take c.args.self.now.count (replicate 255 0))
as_lent c = sym (lent c.args.self.now c.requires.1 _ c.storage-bytes.ensures (known c))

pub slice_bounds-ids-end : goal.slice_bounds-ids-end
slice_bounds-ids-end c = few-rows (goal.at.slice_bounds-ids-end c).After-storage-bytes

pub slice_bounds-ids-end-2 : goal.slice_bounds-ids-end-2
slice_bounds-ids-end-2 c = as_lent (goal.at.slice_bounds-ids-end-2 c).After-storage-bytes

pub slice_bounds-coefficients-end : goal.slice_bounds-coefficients-end
slice_bounds-coefficients-end c = few-rows (goal.at.slice_bounds-coefficients-end c).After-storage-bytes

pub slice_bounds-coefficients-end-2 : goal.slice_bounds-coefficients-end-2
slice_bounds-coefficients-end-2 c = as_lent (goal.at.slice_bounds-coefficients-end-2 c).After-storage-bytes

pub lagrange_coefficients-requires : goal.lagrange_coefficients-requires
lagrange_coefficients-requires c =
    let r = c.args.self.now in
    let b = known (goal.at.lagrange_coefficients-requires c).After-storage-bytes in
    let e = gathered r c.requires.1 _ c.storage-bytes.ensures b c.gather.new.out c.gather.ensures in (
      lent r c.requires.1 _ c.storage-bytes.ensures b ∙ sym (ap length e ∙ as_many r),
      subst Distinct (sym e) (ready_distinct r.width r.count r.bytes.now c.requires.1),
      subst (Fresh 0) (sym e) (ready_nonzero r.width r.count r.bytes.now c.requires.1),
    )

pub add_rows-requires : goal.add_rows-requires
add_rows-requires c =
    let r = c.args.self.now in
    let b = known (goal.at.add_rows-requires c).After-storage-bytes in
    let e = gathered r c.requires.1 _ c.storage-bytes.ensures b c.gather.new.out c.gather.ensures in
    let n = ap length c.lagrange_coefficients.ensures ∙ length-map c.gather.new.out (weight gf256 0 c.gather.new.out) ∙ ap length e ∙ as_many r in
    (n, c.requires.0 ∙ ap (◌+ 1) (sym c.fill.ensures.len))

pub returns : goal.returns
returns c =
    let r = c.args.self.now in
    let b = known (goal.at.returns c).After-storage-bytes in
    let e = gathered r c.requires.1 _ c.storage-bytes.ensures b c.gather.new.out c.gather.ensures in
    let cleared : c.fill.new.self ≡ replicate (length c.args.out.now) 0 = search rules in
    combined_is r.bytes.now _ _ _ _ r.width (length c.args.out.now) r.count (all_bytes r c.requires.1 _ c.storage-bytes.ensures b) c.requires.0 c.requires.1
    e c.lagrange_coefficients.ensures cleared c.add_rows.ensures
