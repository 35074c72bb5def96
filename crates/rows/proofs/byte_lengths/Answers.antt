-- `byte_lengths` meets its contract: each four that is whole is a length.
use mathlib.Core.Path.{ap, ◌∙◌}
use mathlib.Core.List.{map}
use Rattle.rows.specs.Lengths.{four_of}
use Rattle.rows.proofs.Lengths.{chunks_are}
use Rattle.rows.proofs.byte_lengths.Goals as goal

pub returns-clause-lengths : goal.returns-clause-lengths
returns-clause-lengths c = ap (map four_of) c.as_chunks.ensures.front ∙ chunks_are c.args.bytes.now
