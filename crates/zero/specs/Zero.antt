-- The zero tests of document 01, module 1: 1 where a value is zero and 0 where it is not, and the same the other way round.
-- Assumes nothing.
use Rattle.std.specs.Prelude.{List, [], ◌∷◌, ℕ, zero, suc, ◌-◌, ℤ, pos, negsuc}

-- of a number from 0 up
abbrev pub is_zero : ℕ → ℕ
is_zero zero = 1
is_zero (suc n) = 0

-- of a signed number: one below 0 is not zero
abbrev pub int_is_zero : ℤ → ℕ
int_is_zero (pos n) = is_zero n
int_is_zero (negsuc n) = 0

-- of bytes: zero where each of them is, so also where there are none
abbrev pub is_zero_bytes : List ℕ → ℕ
is_zero_bytes [] = 1
is_zero_bytes (zero ∷ bs) = is_zero_bytes bs
is_zero_bytes (suc b ∷ bs) = 0

-- the other of the two answers, as `ct_is_not_zero` has it at each type
abbrev pub is_not_zero : ℕ → ℕ
is_not_zero n = 1 - is_zero n

abbrev pub int_is_not_zero : ℤ → ℕ
int_is_not_zero z = 1 - int_is_zero z

abbrev pub is_not_zero_bytes : List ℕ → ℕ
is_not_zero_bytes bs = 1 - is_zero_bytes bs
