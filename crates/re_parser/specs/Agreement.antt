-- This project's own: units that what stands in front of them can't tell apart.
use Rattle.std.specs.Prelude.{◌≡◌, ℕ, ◌==◌, Bool, false, List, ◌++◌, None}
use Rattle.js_units.specs.Characters.{is_digit}
use Rattle.re_parser.specs.Escapes.{starts, begins_range}
use Rattle.re_parser.specs.Quantifiers.{quantifier_at, braces_at}

abbrev pub is_question : ℕ → Bool
is_question u = u == 63

abbrev pub is_caret : ℕ → Bool
is_caret u = u == 94

-- what the units don't begin or end, the other ones don't
pub record Agree (units more : List ℕ) : Type 0 where
  pub digit : starts is_digit units ≡ false → starts is_digit more ≡ false
  pub question : starts is_question units ≡ false → starts is_question more ≡ false
  pub caret : starts is_caret units ≡ false → starts is_caret more ≡ false
  pub quantifier : (front : List ℕ) → quantifier_at (front ++ units) ≡ None → quantifier_at (front ++ more) ≡ None
  pub braces : (front : List ℕ) → braces_at (front ++ units) ≡ None → braces_at (front ++ more) ≡ None

-- the same in a class
pub record AgreeInside (units more : List ℕ) : Type 0 where
  pub digit : starts is_digit units ≡ false → starts is_digit more ≡ false
  pub range : (front : List ℕ) → begins_range (front ++ units) ≡ false → begins_range (front ++ more) ≡ false
