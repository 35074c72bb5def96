-- The limits of document 01, and what lent memory holds at exit.
-- Assumes nothing.
use Rattle.std.specs.Prelude.{List, ◌++◌, ℕ, drop}
use Rattle.answer.specs.Outcome.{Outcome, done, refused}

-- the longest secret: more is refusal 10
abbrev pub max_secret : ℕ
max_secret = 65536

-- the most rows that a split makes, and the highest threshold of a sheet: more is refusal 1
abbrev pub max_shares : ℕ
max_shares = 255

-- the most rows whose lengths may come as bytes: more is refusal 13
abbrev pub max_rows : ℕ
max_rows = 65535

-- done: the bytes that are written, and behind them what stood there; refused: what stood there
abbrev pub at_exit : Outcome → List ℕ → List ℕ → List ℕ
at_exit (done count) bytes out = bytes ++ drop count out
at_exit (refused number first second) bytes out = out
