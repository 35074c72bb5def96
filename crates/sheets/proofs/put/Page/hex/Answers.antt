-- `hex` meets its contract: there is room for two digits a byte.
use Rattle.std.proofs.Common.{rules}
use Rattle.sheets.proofs.Hex.{length-hex}
use Rattle.sheets.proofs.put.Page.hex.Goals as goal

pub overflow_add-next : goal.overflow_add-next
overflow_add-next c = let long = length-hex c.args.values.now in search rules

pub slice_bounds-write_hex-end : goal.slice_bounds-write_hex-end
slice_bounds-write_hex-end c = let long = length-hex c.args.values.now in search rules
