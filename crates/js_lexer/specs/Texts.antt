-- String literals (ECMA-262, section 12.9.4) and their values.
use Rattle.std.specs.Prelude.{◌≡◌, ◌<◌, ◌≤◌, ℕ, ◌+◌, ◌*◌, ◌==◌, ◌||◌, not, Bool, true, false, List, [], ◌∷◌, ◌++◌, length, if◌then◌else◌}
use Rattle.std.specs.List.{list_all}
use Rattle.js_units.specs.CodeUnits.{encode}
use Rattle.js_units.specs.Characters.{is_line_end, is_digit, is_hexadecimal, digit_value}
use Rattle.js_lexer.specs.Classes.{is_quote}
use Rattle.js_lexer.specs.Runs.{starts}
use Rattle.js_lexer.specs.Numbers.{value_from}
use Rattle.js_lexer.specs.declared.numbers.Base.TheVariants as base

-- what a unit behind a backslash stands for: `\n` `\t` `\r` `\b` `\f` `\v`, and any other itself
unfoldable pub escaped : ℕ → ℕ
escaped u =
    if u == 110 then 10
    else (if u == 116 then 9
    else (if u == 114 then 13
    else (if u == 98 then 8
    else (if u == 102 then 12
    else (if u == 118 then 11
    else u)))))

-- neither `x` nor `u`, no digit and no line end
unfoldable pub is_escaped : ℕ → Bool
is_escaped u = not (u == 120 || u == 117 || is_digit u || is_line_end u)

-- CR, with LF behind it
abbrev pub is_cr_lf : ℕ → List ℕ → Bool
is_cr_lf u rest = if u == 13 then starts (λ v. v == 10) rest else false

-- The units behind a backslash begin with an escape, which stands for some units, and the rest is
-- behind it.
pub data IsEscape : List ℕ → List ℕ → List ℕ → Type 0 where
  escape_character : (u : ℕ) (rest : List ℕ) → is_escaped u ≡ true → IsEscape (u ∷ rest) (escaped u ∷ []) rest
  escape_zero : (rest : List ℕ) → starts is_digit rest ≡ false → IsEscape (48 ∷ rest) (0 ∷ []) rest
  escape_byte : (a b : ℕ) (rest : List ℕ) → is_hexadecimal a ≡ true → is_hexadecimal b ≡ true → IsEscape (120 ∷ a ∷ b ∷ rest) ((digit_value a * 16 + digit_value b) ∷ []) rest
  escape_unit : (a b c d : ℕ) (rest : List ℕ) → is_hexadecimal a ≡ true → is_hexadecimal b ≡ true → is_hexadecimal c ≡ true → is_hexadecimal d ≡ true → IsEscape (117 ∷ a ∷ b ∷ c ∷ d ∷ rest) ((digit_value a * 4096 + digit_value b * 256 + digit_value c * 16 + digit_value d) ∷ []) rest
  escape_point : (digits rest : List ℕ) → 0 < length digits → list_all is_hexadecimal digits ≡ true → value_from base.Hexadecimal 0 digits ≤ 1114111 → IsEscape (117 ∷ 123 ∷ digits ++ 125 ∷ rest) (encode (value_from base.Hexadecimal 0 digits)) rest
  escape_cr_lf : (rest : List ℕ) → IsEscape (13 ∷ 10 ∷ rest) [] rest
  escape_line_end : (u : ℕ) (rest : List ℕ) → is_line_end u ≡ true → is_cr_lf u rest ≡ false → IsEscape (u ∷ rest) [] rest

-- what stands for itself between quotes, unless it is the quote: no backslash, LF or CR
unfoldable pub is_plain : ℕ → Bool
is_plain u = not (u == 92 || u == 10 || u == 13)

-- The units begin with a character of a string, which stands for some units.
pub data IsCharacter : List ℕ → List ℕ → List ℕ → Type 0 where
  character_plain : (u : ℕ) (rest : List ℕ) → is_plain u ≡ true → IsCharacter (u ∷ rest) (u ∷ []) rest
  character_escape : (units value rest : List ℕ) → IsEscape units value rest → IsCharacter (92 ∷ units) value rest

-- The units behind the opening quote go on to the closing one, and stand for this value.
pub data IsQuoted (quote : ℕ) : List ℕ → List ℕ → List ℕ → Type 0 where
  quoted_closes : (u : ℕ) (rest : List ℕ) → (u == quote) ≡ true → IsQuoted quote (u ∷ rest) [] rest
  quoted_more : (units here mid later rest : List ℕ) → starts (λ u. u == quote) units ≡ false → IsCharacter units here mid → IsQuoted quote mid later rest → IsQuoted quote units (here ++ later) rest

-- The units begin with a text of this value, and the rest stands behind it.
pub record IsText (units value rest : List ℕ) : Type 0 where
  pub quote : ℕ
  pub inside : List ℕ
  pub is_quote : is_quote quote ≡ true
  pub units_are : units ≡ quote ∷ inside
  pub quoted : IsQuoted quote inside value rest
