-- What the row checks look for in lists of lengths and of identifiers. A place counts from 0; where there is none, it is the
-- length of the list.
-- Assumes nothing.
use Rattle.std.specs.Option.{MatchOption}
use Rattle.std.specs.Prelude.{◌≡◌, ◌<◌, Option, Bool, true, cond, ◌&&◌, List, [], ◌∷◌, ◌++◌, ℕ, suc, ◌+◌, eqb, ltb, length, get_or}

abbrev pub sum : List ℕ → ℕ
sum [] = 0
sum (n ∷ ns) = n + sum ns

-- whether each of ns is w: equal row lengths
abbrev pub all_are : ℕ → List ℕ → Bool
all_are w [] = true
all_are w (n ∷ ns) = eqb n w && all_are w ns

-- the first place at which x stands
abbrev pub place_of : ℕ → List ℕ → ℕ
place_of x [] = 0
place_of x (a ∷ xs) = cond (eqb a x) 0 (suc (place_of x xs))

-- refusal 6: the place of the first zero identifier
abbrev pub first_zero : List ℕ → ℕ
first_zero ids = place_of 0 ids

-- what a search among n gives: the place at which something stands, or nothing, and then that place is n
abbrev pub IsFound : Option ℕ → ℕ → ℕ → Type 0
IsFound found place n = MatchOption found (place ≡ n) (λ i. (i ≡ place) × (i < n))

-- whether a place was found
abbrev pub within : ℕ → List ℕ → Bool
within place xs = ltb place (length xs)

-- the first place of ids at which something stands that is among met or stands before it
abbrev pub repeating_behind : List ℕ → List ℕ → ℕ
repeating_behind met [] = 0
repeating_behind met (x ∷ ids) =
    let later = repeating_behind (met ++ (x ∷ [])) ids in
    cond (within (place_of x met) met) 0 (suc later)

-- refusal 7, as document 02, §5, has it: rows are laid down in order, up to the first whose identifier is on the table already. This is
-- the place of that row, ..
abbrev pub first_repeating : List ℕ → ℕ
first_repeating ids = repeating_behind [] ids

-- .. and this the place before it that it repeats
abbrev pub first_repeated : List ℕ → ℕ
first_repeated ids =
    let j = first_repeating ids in
    cond (within j ids) (place_of (get_or ids j 0) ids) j
