-- This project's own: characters of texts, read from left to right.
use Rattle.std.specs.Prelude.{ℕ, ◌+◌, ◌*◌, ◌==◌, ◌&&◌, nat_le, List, [], ◌∷◌, Option, Some, None, if◌then◌else◌}
use Rattle.js_units.specs.CodeUnits.{encode}
use Rattle.js_units.specs.Characters.{is_line_end, is_digit, is_hexadecimal, digit_value}
use Rattle.js_lexer.specs.Runs.{starts, skip_while}
use Rattle.js_lexer.specs.Numbers.{is_digit_of}
use Rattle.js_lexer.specs.Digits.{capped_from}
use Rattle.js_lexer.specs.Texts.{escaped, is_plain, IsQuoted, IsText}
use Rattle.js_lexer.specs.declared.numbers.Base.TheVariants as base
use Rattle.js_lexer.specs.declared.escapes.Meaning.{Meaning}
use Rattle.js_lexer.specs.declared.escapes.Meaning.TheVariants as meaning

abbrev pub units_of : Meaning → List ℕ
units_of meaning.Nothing = []
units_of (meaning.One u) = u ∷ []
units_of (meaning.Two u v) = u ∷ v ∷ []

-- what a character stands for, and what is behind it
abbrev pub Read : Type 0
Read = List ℕ × List ℕ

unfoldable pub byte_at : List ℕ → Option Read
byte_at [] = None
byte_at (a ∷ []) = None
byte_at (a ∷ b ∷ rest) =
    if is_hexadecimal a && is_hexadecimal b then Some ((digit_value a * 16 + digit_value b) ∷ [], rest) else None

unfoldable pub unit_at : List ℕ → Option Read
unit_at [] = None
unit_at (a ∷ []) = None
unit_at (a ∷ b ∷ []) = None
unit_at (a ∷ b ∷ c ∷ []) = None
unit_at (a ∷ b ∷ c ∷ d ∷ rest) =
    if is_hexadecimal a && is_hexadecimal b && is_hexadecimal c && is_hexadecimal d
    then Some ((digit_value a * 4096 + digit_value b * 256 + digit_value c * 16 + digit_value d) ∷ [], rest)
    else None

abbrev pub point_by : ℕ → List ℕ → Option Read
point_by value [] = None
point_by value (u ∷ us) = if u == 125 && nat_le value 1114111 then Some (encode value, us) else None

-- at least one digit, and `}`
unfoldable pub point_at : List ℕ → Option Read
point_at units =
    if starts is_hexadecimal units
    then point_by (capped_from base.Hexadecimal 0 units) (skip_while (is_digit_of base.Hexadecimal) units)
    else None

unfoldable pub unicode_at : List ℕ → Option Read
unicode_at [] = None
unicode_at (u ∷ us) = if u == 123 then point_at us else unit_at (u ∷ us)

abbrev pub zero_at : ℕ → List ℕ → Option Read
zero_at u us = if u == 48 then (if starts is_digit us then None else Some (0 ∷ [], us)) else None

-- behind a line end, of which CR LF is one
abbrev pub line_end_at : ℕ → List ℕ → List ℕ
line_end_at u [] = []
line_end_at u (v ∷ us) = if u == 13 && v == 10 then us else v ∷ us

unfoldable pub escape_at : List ℕ → Option Read
escape_at [] = None
escape_at (u ∷ us) =
    if u == 120 then byte_at us
    else (if u == 117 then unicode_at us
    else (if is_digit u then zero_at u us
    else (if is_line_end u then Some ([], line_end_at u us)
    else Some (escaped u ∷ [], us))))

unfoldable pub character_at : List ℕ → Option Read
character_at [] = None
character_at (u ∷ us) =
    if u == 92 then escape_at us
    else (if is_plain u then Some (u ∷ [], us) else None)

-- a character that isn't the closing quote
unfoldable pub inside_at : ℕ → List ℕ → Option Read
inside_at quote units = if starts (λ u. u == quote) units then None else character_at units

-- what is behind the closing quote
abbrev pub close_at : ℕ → List ℕ → Option (List ℕ)
close_at quote [] = None
close_at quote (u ∷ us) = if u == quote then Some us else None

-- the units behind an opening quote have a closing one, with the rest behind it
abbrev pub HasQuoted : ℕ → List ℕ → List ℕ → Type 0
HasQuoted quote units rest = (value : List ℕ) × IsQuoted quote units value rest

-- what is behind the closing quote, if there is one
abbrev pub ClosesAt : ℕ → List ℕ → Option (List ℕ) → Type 0
ClosesAt quote units (Some rest) = HasQuoted quote units rest
ClosesAt quote units None = (rest : List ℕ) → HasQuoted quote units rest → ⊥

-- a text stands in front
abbrev pub HasText : List ℕ → Type 0
HasText units = (value : List ℕ) × (rest : List ℕ) × IsText units value rest
