-- The example is read by computation.
-- Assumes nothing.
use mathlib.Core.Path.{refl}
use Rattle.rows.specs.Lengths.{lengths_of}
use Rattle.sheets.specs.Text.{decimal}
use Rattle.reading.specs.Unsheet.{unsheet}
use Rattle.reading.specs.Answer.{read_answer, read_head, read_rows}
use Rattle.reading.specs.Example.{ReadG}

pub read_g : ReadG
unfolding unsheet decimal lengths_of read_answer read_head read_rows
read_g = record {
  found = refl;
  unended = refl;
  longer = refl;
  twice = refl;
  answer = refl;
  head = refl;
  rows = refl;
  short_head = refl;
  short_room = refl;
  damaged = refl;
}
