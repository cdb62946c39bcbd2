-- Conversions of values. Where there is none, the run leaves the profile (`convert`): this project's own rule.
use Rattle.std.specs.Prelude.{ℕ, nat_lt, length, pos, Bool, true, false, not, Option, Some, None, codes, ℤ, option_map}
use Rattle.std.specs.Fmt.{signed_decimal}
use Rattle.js_values.specs.Numbers.{Number, is_zero}
use Rattle.js_meaning.specs.Values.{Text, Value, undefined, null, truth, int, nan, text, object}

-- ToBoolean (7.1.2)
abbrev pub to_boolean : Value → Bool
to_boolean undefined = false
to_boolean null = false
to_boolean (truth b) = b
to_boolean (int n) = not (is_zero n)
to_boolean nan = false
to_boolean (text t) = nat_lt 0 (length t)
to_boolean (object o) = true

abbrev pub number_value : Number → Value
number_value None = nan
number_value (Some n) = int n

abbrev pub bit : Bool → ℕ
bit true = 1
bit false = 0

-- ToNumber (7.1.4); a string isn't converted, nor an object
abbrev pub to_number : Value → Option Number
to_number undefined = Some None
to_number null = Some (Some (pos 0))
to_number (truth b) = Some (Some (pos (bit b)))
to_number (int n) = Some (Some n)
to_number nan = Some None
to_number (text t) = None
to_number (object o) = None

abbrev pub truth_text : Bool → Text
truth_text true = codes "true"
truth_text false = codes "false"

-- ToString (7.1.17), with Number::toString (6.1.6.1.20); an object isn't converted
abbrev pub to_string : Value → Option Text
to_string undefined = Some (codes "undefined")
to_string null = Some (codes "null")
to_string (truth b) = Some (truth_text b)
to_string (int n) = Some (signed_decimal n)
to_string nan = Some (codes "NaN")
to_string (text t) = Some t
to_string (object o) = None

-- undefined or null
abbrev pub is_nullish : Value → Bool
is_nullish undefined = true
is_nullish null = true
is_nullish _ = false

abbrev pub is_text : Value → Bool
is_text (text t) = true
is_text _ = false

abbrev pub nan_is_zero : Number → ℤ
nan_is_zero None = pos 0
nan_is_zero (Some n) = n

-- the place that an argument stands for (7.1.5, ToIntegerOrInfinity); undefined is the stated default
abbrev pub to_place : Value → Value → Option Value
to_place missing undefined = Some missing
to_place missing x = option_map (λ n. int (nan_is_zero n)) (to_number x)
