-- Classes of code units that tokens alone have (ECMA-262, sections 12.4, 12.9.3, 12.9.4 and 12.9.5).
use Rattle.std.specs.Prelude.{ℕ, ◌==◌, ◌||◌, not, Bool}
use Rattle.js_units.specs.Characters.{is_line_end, is_letter, is_digit, is_name_part}

-- what a comment that goes up to the line end is made of
unfoldable pub is_comment_unit : ℕ → Bool
is_comment_unit u = not (is_line_end u)

-- what the flags of a pattern are made of
unfoldable pub is_flag : ℕ → Bool
is_flag u = is_letter u || is_digit u

-- `"` and `'`
unfoldable pub is_quote : ℕ → Bool
is_quote u = u == 34 || u == 39

-- what may not follow a number
unfoldable pub continues_number : ℕ → Bool
continues_number u = is_name_part u || u == 92 || u == 46
