-- Numbers as decimal text: no leading zero, and `-` before a negative one.
use Rattle.std.specs.Prelude.{◌≤◌, ◌<◌, ℕ, zero, suc, ◌+◌, ◌-◌, ◌*◌, ◌==◌, nat_le, ℤ, pos, negsuc, List, [], ◌∷◌, Option, Some, None, if◌then◌else◌}
use Rattle.js_units.specs.Characters.{is_digit}

-- at most `above`, and without its sign at most `below` where it is negative
abbrev pub IsBetween : ℕ → ℕ → ℤ → Type 0
IsBetween below above (pos n) = n ≤ above
IsBetween below above (negsuc n) = n < below

-- ---- read from left to right

-- more digits behind those of a number, up to what is none
abbrev pub digits_on : ℕ → ℕ → List ℕ → Option (ℕ × List ℕ)
digits_on most n [] = Some (n, [])
digits_on most n (b ∷ bs) =
    if is_digit b
    then (if nat_le (n * 10 + (b - 48)) most then digits_on most (n * 10 + (b - 48)) bs else None)
    else Some (n, b ∷ bs)

-- a number of at most `most`
unfoldable pub number_at : ℕ → List ℕ → Option (ℕ × List ℕ)
number_at most [] = None
number_at most (b ∷ bs) =
    if b == 48 then Some (0, bs) else (if is_digit b then digits_on most 0 (b ∷ bs) else None)

-- one that isn't 0
abbrev pub not_zero : Option (ℕ × List ℕ) → Option (ℕ × List ℕ)
not_zero None = None
not_zero (Some (zero, rest)) = None
not_zero (Some (suc n, rest)) = Some (suc n, rest)

abbrev pub negative : Option (ℕ × List ℕ) → Option (ℤ × List ℕ)
negative None = None
negative (Some (zero, rest)) = None
negative (Some (suc n, rest)) = Some (negsuc n, rest)

abbrev pub positive : Option (ℕ × List ℕ) → Option (ℤ × List ℕ)
positive None = None
positive (Some (n, rest)) = Some (pos n, rest)

-- a number with its sign
unfoldable pub signed_at : ℕ → ℕ → List ℕ → Option (ℤ × List ℕ)
signed_at below above [] = None
signed_at below above (b ∷ bs) = if b == 45 then negative (number_at below bs) else positive (number_at above (b ∷ bs))
