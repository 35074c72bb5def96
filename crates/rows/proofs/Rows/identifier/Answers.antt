-- `identifier` meets its contract: it stands first in its row.
use mathlib.Core.Path.{refl}
use Prim.Native.Nat.{◌*◌}
use Rattle.rows.proofs.Storage.{strided-first}
use Rattle.rows.proofs.Rows.identifier.Goals as goal

pub returns : goal.returns
returns c =
    let r = c.args.self.now in
    strided-first r.width r.count r.bytes.now c.args.i (c.args.i * r.width) c.requires refl
