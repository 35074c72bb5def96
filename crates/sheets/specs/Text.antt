-- How numbers, bytes and lines are written: document 02, §1. A text is the list of its bytes, as ASCII has them.
-- Assumes nothing.
use Rattle.std.specs.Prelude.{cond, List, [], ◌∷◌, ◌++◌, ℕ, zero, suc, ◌+◌, ◌/◌, ◌%◌, ltb}

abbrev pub tab : ℕ
tab = 9

abbrev pub line_feed : ℕ
line_feed = 10

-- the digit of a number under 10: '0' is 48
abbrev pub digit : ℕ → ℕ
digit d = 48 + d

-- a number in decimal, without leading zeros: its last digit, and before it, where it has more, the others
abbrev pub decimal_in : ℕ → ℕ → List ℕ
decimal_in zero n = []
decimal_in (suc places) n =
    let others = decimal_in places (n / 10) in
    cond (ltb n 10) [] others ++ (digit (n % 10) ∷ [])

-- .. in as many places as it could ever take
unfoldable pub decimal : ℕ → List ℕ
decimal n = decimal_in (suc n) n

-- the lower-case digit of a number under 16: 'a' is 97
abbrev pub hex_digit : ℕ → ℕ
hex_digit d = cond (ltb d 10) (digit d) (87 + d)

-- bytes in hex, two digits each without gaps
abbrev pub hex : List ℕ → List ℕ
hex [] = []
hex (b ∷ bytes) = hex_digit (b / 16) ∷ hex_digit (b % 16) ∷ hex bytes

-- fields parted by tabs, and a line feed
abbrev pub line : List (List ℕ) → List ℕ
line [] = line_feed ∷ []
line (field ∷ []) = field ++ (line_feed ∷ [])
line (field ∷ next ∷ fields) = field ++ tab ∷ line (next ∷ fields)
