-- Classes of code units that tokens, patterns and names share (ECMA-262, sections 12.2, 12.3, 12.7 and 12.9.3).
use Rattle.std.specs.Prelude.{ℕ, ◌-◌, ◌==◌, ◌&&◌, ◌||◌, nat_le, Bool, if◌then◌else◌}

-- TAB, VT, FF, ZWNBSP and the spaces of Unicode (12.2)
unfoldable pub is_white_space : ℕ → Bool
is_white_space u = u == 9 || u == 11 || u == 12 || u == 32 || u == 160 || u == 5760 || (nat_le 8192 u && nat_le u 8202) || u == 8239 || u == 8287 || u == 12288 || u == 65279

-- LineTerminator: LF, CR, LS and PS (12.3)
unfoldable pub is_line_end : ℕ → Bool
is_line_end u = u == 10 || u == 13 || u == 8232 || u == 8233

-- A to Z and a to z
unfoldable pub is_letter : ℕ → Bool
is_letter u = (nat_le 65 u && nat_le u 90) || (nat_le 97 u && nat_le u 122)

-- DecimalDigit (12.9.3)
unfoldable pub is_digit : ℕ → Bool
is_digit u = nat_le 48 u && nat_le u 57

-- a letter, `_` or `$` (12.7, within ASCII)
unfoldable pub is_name_start : ℕ → Bool
is_name_start u = is_letter u || u == 95 || u == 36

-- such, or a digit
unfoldable pub is_name_part : ℕ → Bool
is_name_part u = is_name_start u || is_digit u

-- HexDigit: 0 to 9, A to F and a to f (12.9.3)
unfoldable pub is_hexadecimal : ℕ → Bool
is_hexadecimal u = is_digit u || (nat_le 65 u && nat_le u 70) || (nat_le 97 u && nat_le u 102)

-- what a hexadecimal digit stands for
unfoldable pub digit_value : ℕ → ℕ
digit_value u = if nat_le u 57 then u - 48 else (if nat_le u 70 then u - 55 else u - 87)
