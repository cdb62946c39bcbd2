-- Quoted texts read back.
use Rattle.std.specs.Prelude.{◌≡◌, ◌≢◌, Bool, true, not, ◌&&◌, ◌||◌, ℕ, ◌+◌, ◌-◌, ◌*◌, nat_lt, nat_le, ◌==◌, List, [], ◌∷◌, Option, Some, None, if◌then◌else◌}
use Rattle.std.specs.List.{list_all}
use Rattle.js_units.specs.Quoted.{is_printable, quoted}
use Rattle.js_units.specs.Reading.{many}

-- a list of 16-bit code units
abbrev pub is_unit : ℕ → Bool
is_unit u = nat_lt u 65536

abbrev pub are_units : List ℕ → Bool
are_units text = list_all is_unit text

-- the bytes are the quoted text of a string, and of no other; or of none
abbrev pub IsUnescaped : List ℕ → Option (List ℕ) → Type 0
IsUnescaped bytes (Some text) = (are_units text ≡ true) × (quoted text ≡ bytes)
IsUnescaped bytes None = (text : List ℕ) → are_units text ≡ true → quoted text ≢ bytes

-- ---- read from left to right

-- 0 to 9 and a to f
abbrev pub is_lower_hex : ℕ → Bool
is_lower_hex b = (nat_le 48 b && nat_le b 57) || (nat_le 97 b && nat_le b 102)

abbrev pub lower_value : ℕ → ℕ
lower_value b = if nat_le b 57 then b - 48 else b - 87

abbrev pub unprinted : ℕ → List ℕ → Option (ℕ × List ℕ)
unprinted u rest = if is_printable u then None else Some (u, rest)

-- four digits of a unit that isn't printable
unfoldable pub coded_at : List ℕ → Option (ℕ × List ℕ)
coded_at [] = None
coded_at (a ∷ []) = None
coded_at (a ∷ b ∷ []) = None
coded_at (a ∷ b ∷ c ∷ []) = None
coded_at (a ∷ b ∷ c ∷ d ∷ rest) =
    if is_lower_hex a && is_lower_hex b && is_lower_hex c && is_lower_hex d
    then unprinted (lower_value a * 4096 + lower_value b * 256 + lower_value c * 16 + lower_value d) rest
    else None

-- what stands behind a backslash
unfoldable pub escaped_at : List ℕ → Option (ℕ × List ℕ)
escaped_at [] = None
escaped_at (b ∷ rest) = if b == 117 then coded_at rest else (if b == 34 || b == 92 then Some (b, rest) else None)

-- a unit between quotes
unfoldable pub unit_at : List ℕ → Option (ℕ × List ℕ)
unit_at [] = None
unit_at (b ∷ rest) = if b == 92 then escaped_at rest else (if is_printable b && not (b == 34) then Some (b, rest) else None)

-- the units, with the closing quote behind them
abbrev pub closed : List ℕ → List ℕ → Option (List ℕ × List ℕ)
closed text [] = None
closed text (b ∷ rest) = if b == 34 then Some (text, rest) else None

abbrev pub inside_at : List ℕ → Option (List ℕ × List ℕ)
inside_at list = closed (many unit_at list).0 (many unit_at list).1

-- a quoted text at the front
unfoldable pub quoted_at : List ℕ → Option (List ℕ × List ℕ)
quoted_at [] = None
quoted_at (b ∷ rest) = if b == 34 then inside_at rest else None

-- the text alone, with nothing behind it
abbrev pub whole : Option (List ℕ × List ℕ) → Option (List ℕ)
whole None = None
whole (Some (t, [])) = Some t
whole (Some (t, b ∷ rest)) = None
