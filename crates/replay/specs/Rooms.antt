-- How many bytes of each field the program keeps, as its constants have it. Assumes nothing.
use Rattle.std.specs.Prelude.{ℕ, ◌+◌, ◌*◌}
use Rattle.row_set.specs.Limits.{max_secret}

-- of a secret, and of coefficients
abbrev pub values : ℕ
values = max_secret + 104

-- of an output, a head and a sheet's text
abbrev pub output : ℕ
output = 3 * (max_secret + 4)

-- of identifiers
abbrev pub ids : ℕ
ids = 300

-- of rows
abbrev pub rows : ℕ
rows = 2 * max_secret + 140000

-- of lengths
abbrev pub lengths : ℕ
lengths = 262152
