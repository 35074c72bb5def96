-- What digits are read as: the value of a number, the bytes of digits of hex.
-- Assumes nothing.
use Rattle.std.specs.Prelude.{cond, ◌⊎◌, List, [], ◌∷◌, ℕ, ◌+◌, ◌*◌, ◌-◌, ◌≤◌, ltb}

abbrev pub IsDigit : ℕ → Type 0
IsDigit c = (48 ≤ c) × (c ≤ 57)

abbrev pub IsHexDigit : ℕ → Type 0
IsHexDigit c = IsDigit c ⊎ ((97 ≤ c) × (c ≤ 102))

-- the value of digits behind others that have the value v
abbrev pub value_from : ℕ → List ℕ → ℕ
value_from v [] = v
value_from v (c ∷ cs) = value_from (v * 10 + (c - 48)) cs

abbrev pub value : List ℕ → ℕ
value cs = value_from 0 cs

abbrev pub unhex_digit : ℕ → ℕ
unhex_digit c = cond (ltb c 58) (c - 48) (c - 87)

abbrev pub unhex : List ℕ → List ℕ
unhex [] = []
unhex (high ∷ []) = []
unhex (high ∷ low ∷ digits) = (unhex_digit high * 16 + unhex_digit low) ∷ unhex digits
