-- `combine_bytes_by_byte_lengths` meets its contract: bytes that make no lengths are refused, and others are combined by those that
-- they make.
use Rattle.std.proofs.lemmas.Result.{err_from_is_err_and}
use Rattle.sharing.proofs.CombineAccepted.{refuses-bytes, combines_bytes}
use Rattle.sharing.proofs.combine.combine_bytes_by_byte_lengths.Goals as goal

pub returns-in_err-readable_lengths : goal.returns-in_err-readable_lengths
returns-in_err-readable_lengths c =
    let a = c.args in
    let p = err_from_is_err_and c.from_residual.result c.from_residual.ensures.1 in
    rw (p.1, p.2) (refuses-bytes a.rows.now a.lengths.now a.out.now c.in_err-readable_lengths.ensures.0 c.in_err-readable_lengths.ensures.1)

pub returns : goal.returns
returns c =
    let a = c.args in
    let read = c.in_ok-readable_lengths.ensures in
    combines_bytes a.rows.now a.lengths.now a.out.now read.0 read.1 c.combine_bytes.ensures
