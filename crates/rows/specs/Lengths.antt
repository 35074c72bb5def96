-- Row lengths that come as bytes, four a row, least first.
-- Assumes nothing.
use Rattle.std.specs.Prelude.{List, [], ◌∷◌, ◌++◌, ℕ, zero, suc, ◌+◌, ◌*◌, ◌/◌, ◌%◌, ◌^◌, length, get_or, drop}

-- the number that four bytes make
abbrev pub four : ℕ → ℕ → ℕ → ℕ → ℕ
four a b c d = a + b * 2 ^ 8 + c * 2 ^ 16 + d * 2 ^ 24

-- .. as a list of four
abbrev pub four_of : List ℕ → ℕ
four_of bytes = four (get_or bytes 0 0) (get_or bytes 1 0) (get_or bytes 2 0) (get_or bytes 3 0)

-- the four bytes of a number, least first
abbrev pub four_bytes : ℕ → List ℕ
four_bytes n = n % 2 ^ 8 ∷ n / 2 ^ 8 % 2 ^ 8 ∷ n / 2 ^ 16 % 2 ^ 8 ∷ n / 2 ^ 24 ∷ []

-- the fours of several numbers, one after another
abbrev pub length_bytes : List ℕ → List ℕ
length_bytes [] = []
length_bytes (n ∷ ns) = four_bytes n ++ length_bytes ns

-- the numbers of the first m fours
abbrev pub fours : ℕ → List ℕ → List ℕ
fours zero bytes = []
fours (suc m) bytes = four (get_or bytes 0 0) (get_or bytes 1 0) (get_or bytes 2 0) (get_or bytes 3 0) ∷ fours m (drop 4 bytes)

-- of as many fours as are whole
unfoldable pub lengths_of : List ℕ → List ℕ
lengths_of bytes = fours (length bytes / 4) bytes
