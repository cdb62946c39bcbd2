-- Numeric literals (ECMA-262, section 12.9.3): whole ones, decimal or hexadecimal.
use Rattle.std.specs.Prelude.{◌≡◌, ◌<◌, ◌⊎◌, ℕ, ◌+◌, ◌*◌, ◌==◌, ◌&&◌, ◌||◌, Bool, true, false, List, [], ◌∷◌, ◌++◌, length}
use Rattle.std.specs.List.{list_all}
use Rattle.js_units.specs.Characters.{is_digit, is_hexadecimal, digit_value}
use Rattle.js_lexer.specs.Classes.{continues_number}
use Rattle.js_lexer.specs.Runs.{starts}
use Rattle.js_lexer.specs.declared.numbers.Base.{Base}
use Rattle.js_lexer.specs.declared.numbers.Base.TheVariants as base

abbrev pub radix : Base → ℕ
radix base.Decimal = 10
radix base.Hexadecimal = 16

abbrev pub is_digit_of : Base → ℕ → Bool
is_digit_of base.Decimal u = is_digit u
is_digit_of base.Hexadecimal u = is_hexadecimal u

-- what digits stand for, behind others that stand for a value
abbrev pub value_from : Base → ℕ → List ℕ → ℕ
value_from b value [] = value
value_from b value (d ∷ ds) = value_from b (value * radix b + digit_value d) ds

-- a digit that follows a `0` in front
abbrev pub leads_with_zero : List ℕ → Bool
leads_with_zero [] = false
leads_with_zero (u ∷ []) = false
leads_with_zero (u ∷ v ∷ us) = u == 48 && is_digit v

-- `0`, or digits of which the first isn't `0`
pub record IsDecimal (units : List ℕ) (value : ℕ) (rest : List ℕ) : Type 0 where
  pub digits : List ℕ
  pub units_are : units ≡ digits ++ rest
  pub some : 0 < length digits
  pub all : list_all is_digit digits ≡ true
  pub no_zero : leads_with_zero units ≡ false
  pub value_is : value ≡ value_from base.Decimal 0 digits

-- `0x` or `0X`, and hexadecimal digits
pub record IsHexadecimal (units : List ℕ) (value : ℕ) (rest : List ℕ) : Type 0 where
  pub x : ℕ
  pub digits : List ℕ
  pub is_x : (x == 120 || x == 88) ≡ true
  pub units_are : units ≡ 48 ∷ x ∷ digits ++ rest
  pub some : 0 < length digits
  pub all : list_all is_hexadecimal digits ≡ true
  pub value_is : value ≡ value_from base.Hexadecimal 0 digits

-- The units begin with a number of this value, and the rest stands behind it.
pub record IsNumeral (units : List ℕ) (value : ℕ) (rest : List ℕ) : Type 0 where
  pub spelt : IsDecimal units value rest ⊎ IsHexadecimal units value rest
  pub ends : starts continues_number rest ≡ false

-- 2^53 - 1, the greatest number that isn't wide
abbrev pub max_safe : ℕ
max_safe = 9007199254740991
