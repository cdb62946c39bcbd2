-- This project's own: numbers, read from left to right.
use Rattle.std.specs.Prelude.{ℕ, ◌+◌, ◌*◌, ◌==◌, ◌&&◌, ◌||◌, List, [], ◌∷◌, length, min, Option, Some, None, if◌then◌else◌}
use Rattle.js_units.specs.Characters.{digit_value}
use Rattle.js_lexer.specs.Classes.{continues_number}
use Rattle.js_lexer.specs.Runs.{starts, skip_while}
use Rattle.js_lexer.specs.Numbers.{radix, is_digit_of, leads_with_zero}
use Rattle.js_lexer.specs.declared.numbers.Base.{Base}
use Rattle.js_lexer.specs.declared.numbers.Base.TheVariants as base

-- the number, or 2^53 where it is more
abbrev pub capped : ℕ → ℕ
capped n = min n 9007199254740992

-- what the digits at the front stand for, capped
abbrev pub capped_from : Base → ℕ → List ℕ → ℕ
capped_from b value [] = value
capped_from b value (u ∷ us) = if is_digit_of b u then capped_from b (capped (value * radix b + digit_value u)) us else value

abbrev pub digits_by : Base → List ℕ → List ℕ → Option (ℕ × List ℕ)
digits_by b units rest =
    if length rest == length units then None
    else (if starts continues_number rest then None
    else Some (capped_from b 0 units, rest))

-- at least one digit, behind which no number goes on
unfoldable pub digits_at : Base → List ℕ → Option (ℕ × List ℕ)
digits_at b units = digits_by b units (skip_while (is_digit_of b) units)

-- what is behind `0x` or `0X`
abbrev pub after_prefix : List ℕ → Option (List ℕ)
after_prefix [] = None
after_prefix (u ∷ []) = None
after_prefix (u ∷ v ∷ us) = if u == 48 && (v == 120 || v == 88) then Some us else None

abbrev pub number_by : List ℕ → Option (List ℕ) → Option (ℕ × List ℕ)
number_by units (Some digits) = digits_at base.Hexadecimal digits
number_by units None = if leads_with_zero units then None else digits_at base.Decimal units

-- the capped value of a number at the front, and what is behind it
unfoldable pub number_at : List ℕ → Option (ℕ × List ℕ)
number_at units = number_by units (after_prefix units)
