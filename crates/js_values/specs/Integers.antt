-- Whole numbers as the terms of a constraint take them: each has a value everywhere, where the language would leave the profile
-- or answer NaN.
use Rattle.std.specs.Prelude.{ℕ, ℤ, pos, Bool, bit_and, bit_or, bit_xor, int_div, int_rem, Some, if◌then◌else◌}
use Rattle.js_values.specs.Numbers.{is_safe, is_zero, bitwise, shift_left, shift_right, shift_right_zero}

-- the quotient toward zero; 0 by 0
abbrev pub quotient : ℤ → ℤ → ℤ
quotient m n = if is_zero n then pos 0 else int_div m n

-- the remainder of that division, which has the sign of the dividend; 0 by 0
abbrev pub rest : ℤ → ℤ → ℤ
rest m n = if is_zero n then pos 0 else int_rem m n

-- the number where it is safe, else 0
abbrev pub safe : ℤ → ℤ
safe n = if is_safe n then n else pos 0

-- the operators of 32 bits (ECMA-262, sections 6.1.6.1.9 to 6.1.6.1.19)
abbrev pub bits_and : ℤ → ℤ → ℤ
bits_and m n = bitwise bit_and (Some m) (Some n)

abbrev pub bits_or : ℤ → ℤ → ℤ
bits_or m n = bitwise bit_or (Some m) (Some n)

abbrev pub bits_xor : ℤ → ℤ → ℤ
bits_xor m n = bitwise bit_xor (Some m) (Some n)

abbrev pub bits_left : ℤ → ℤ → ℤ
bits_left m n = shift_left (Some m) (Some n)

abbrev pub bits_right : ℤ → ℤ → ℤ
bits_right m n = shift_right (Some m) (Some n)

abbrev pub bits_right_zero : ℤ → ℤ → ℤ
bits_right_zero m n = shift_right_zero (Some m) (Some n)
