-- The two small functions of document 01, module 2.
-- Assumes nothing.
use Rattle.std.specs.Prelude.{◌&&◌, cond, ℕ, ◌+◌, ◌%◌, leb, ltb}

-- 01, module 2: the sum where the size is over it and at most 256, and 0 otherwise
abbrev pub bounded_add : ℕ → ℕ → ℕ → ℕ
bounded_add a b size = cond (ltb (a + b) size && leb size 256) (a + b) 0

-- 01, module 2: one more than the remainder of the word, so never 0, for a modulus from 1 to 255; 0 for any other modulus
abbrev pub uniform_nonzero : ℕ → ℕ → ℕ
uniform_nonzero bits modulus = cond (leb 1 modulus && leb modulus 255) (bits % modulus + 1) 0
