-- Escapes and the members of classes (ECMA-262, sections 22.2.1, 22.2.2.9 and B.1.2).
use Rattle.std.specs.Prelude.{ℕ, ◌+◌, ◌*◌, ◌-◌, ◌==◌, ◌&&◌, not, nat_le, nat_lt, Bool, false, List, [], ◌∷◌, ◌++◌, drop, Option, Some, None, if◌then◌else◌}
use Rattle.js_units.specs.Characters.{is_digit, is_hexadecimal, digit_value}
use Rattle.re_parser.specs.Characters.{is_sign, control_of}
use Rattle.re_parser.specs.declared.kinds.ClassEscape.{ClassEscape}
use Rattle.re_parser.specs.declared.kinds.ClassEscape.TheVariants as escape
use Rattle.re_parser.specs.declared.kinds.Member.{Member}
use Rattle.re_parser.specs.declared.kinds.Member.TheVariants as member
use Rattle.re_parser.specs.declared.kinds.ClassItem.{ClassItem}
use Rattle.re_parser.specs.declared.kinds.ClassItem.TheVariants as item

-- whether there is a first unit and it passes
abbrev pub starts : (ℕ → Bool) → List ℕ → Bool
starts test [] = false
starts test (u ∷ us) = test u

-- ---- what stands behind a backslash, and what is behind that

-- two hexadecimal digits
unfoldable pub byte_at : List ℕ → Option (ℕ × List ℕ)
byte_at [] = None
byte_at (a ∷ []) = None
byte_at (a ∷ b ∷ rest) =
    if is_hexadecimal a && is_hexadecimal b then Some (digit_value a * 16 + digit_value b, rest) else None

-- four hexadecimal digits
unfoldable pub unit_at : List ℕ → Option (ℕ × List ℕ)
unit_at [] = None
unit_at (a ∷ []) = None
unit_at (a ∷ b ∷ []) = None
unit_at (a ∷ b ∷ c ∷ []) = None
unit_at (a ∷ b ∷ c ∷ d ∷ rest) =
    if is_hexadecimal a && is_hexadecimal b && is_hexadecimal c && is_hexadecimal d
    then Some (digit_value a * 4096 + digit_value b * 256 + digit_value c * 16 + digit_value d, rest)
    else None

-- behind `\0`, where no digit stands
abbrev pub null_at : List ℕ → Option (ℕ × List ℕ)
null_at units = if starts is_digit units then None else Some (0, units)

abbrev pub control_at : Option ℕ → List ℕ → Option (ℕ × List ℕ)
control_at None rest = None
control_at (Some u) rest = Some (u, rest)

-- CharacterEscape: `f n r t v`, `0` with no digit behind it, `x` and two digits, `u` and four, and a sign for itself
unfoldable pub character_at : List ℕ → Option (ℕ × List ℕ)
character_at [] = None
character_at (u ∷ us) =
    if u == 120 then byte_at us
    else (if u == 117 then unit_at us
    else (if u == 48 then null_at us
    else (if is_sign u then Some (u, us)
    else control_at (control_of u) us)))

-- CharacterClassEscape
unfoldable pub class_escape_of : ℕ → Option ClassEscape
class_escape_of u =
    if u == 100 then Some escape.Digit
    else (if u == 68 then Some escape.NotDigit
    else (if u == 115 then Some escape.Space
    else (if u == 83 then Some escape.NotSpace
    else (if u == 119 then Some escape.WordUnit
    else (if u == 87 then Some escape.NotWordUnit
    else None)))))

-- ---- the units of class escapes, ascending and with as few ranges as possible

-- the units from the first on that are in none of the ranges
abbrev pub others_from : ℕ → List (ℕ × ℕ) → List (ℕ × ℕ)
others_from first [] = (first, 65535) ∷ []
others_from first (r ∷ rs) = if nat_lt first r.0 then (first, r.0 - 1) ∷ others_from (r.1 + 1) rs else others_from (r.1 + 1) rs

abbrev pub digits : List (ℕ × ℕ)
digits = (48, 57) ∷ []

-- WhiteSpace and LineTerminator
abbrev pub spaces : List (ℕ × ℕ)
spaces =
    (9, 13) ∷ (32, 32) ∷ (160, 160) ∷ (5760, 5760) ∷ (8192, 8202) ∷ (8232, 8233) ∷ (8239, 8239) ∷ (8287, 8287)
    ∷ (12288, 12288) ∷ (65279, 65279) ∷ []

-- A to Z, a to z, 0 to 9 and `_`
abbrev pub word_units : List (ℕ × ℕ)
word_units = (48, 57) ∷ (65, 90) ∷ (95, 95) ∷ (97, 122) ∷ []

unfoldable pub units_of : ClassEscape → List (ℕ × ℕ)
units_of escape.Digit = digits
units_of escape.NotDigit = others_from 0 digits
units_of escape.Space = spaces
units_of escape.NotSpace = others_from 0 spaces
units_of escape.WordUnit = word_units
units_of escape.NotWordUnit = others_from 0 word_units

-- ---- members of classes

abbrev pub one_of : Option (ℕ × List ℕ) → Option (Member × List ℕ)
one_of None = None
one_of (Some x) = Some (member.One x.0, x.1)

abbrev pub many_or : Option ClassEscape → List ℕ → Option (Member × List ℕ) → Option (Member × List ℕ)
many_or None rest other = other
many_or (Some e) rest other = Some (member.Many e, rest)

-- ClassEscape: `\b` is U+0008
unfoldable pub escaped_member_at : List ℕ → Option (Member × List ℕ)
escaped_member_at [] = None
escaped_member_at (u ∷ us) =
    if u == 98 then Some (member.One 8, us) else many_or (class_escape_of u) us (one_of (character_at (u ∷ us)))

-- ClassAtom: an escape, or a unit but `\` and `]`
unfoldable pub member_at : List ℕ → Option (Member × List ℕ)
member_at [] = None
member_at (u ∷ us) =
    if u == 92 then escaped_member_at us
    else (if u == 93 then None
    else Some (member.One u, us))

abbrev pub is_close : ℕ → Bool
is_close u = u == 93

-- a `-` that no `]` follows
abbrev pub begins_range : List ℕ → Bool
begins_range [] = false
begins_range (u ∷ us) = u == 45 && not (starts is_close us)

-- CharacterRangeOrUnion: beside a class escape the `-` stands for itself
abbrev pub range_of : Member → Member → Option ClassItem
range_of (member.One a) (member.One b) = if nat_le a b then Some (item.Range a b) else None
range_of (member.One a) (member.Many f) = Some (item.Apart (member.One a) (member.Many f))
range_of (member.Many e) y = Some (item.Apart (member.Many e) y)

abbrev pub item_of : Option ClassItem → List ℕ → Option (ClassItem × List ℕ)
item_of None rest = None
item_of (Some i) rest = Some (i, rest)

abbrev pub range_at : Member → Option (Member × List ℕ) → Option (ClassItem × List ℕ)
range_at x None = None
range_at x (Some y) = item_of (range_of x y.0) y.1

abbrev pub item_from : Option (Member × List ℕ) → Option (ClassItem × List ℕ)
item_from None = None
item_from (Some x) = if begins_range x.1 then range_at x.0 (member_at (drop 1 x.1)) else Some (item.Single x.0, x.1)

-- a member, or two with `-` between them, and what is behind
unfoldable pub item_at : List ℕ → Option (ClassItem × List ℕ)
item_at units = item_from (member_at units)

unfoldable pub member_units : Member → List (ℕ × ℕ)
member_units (member.One u) = (u, u) ∷ []
member_units (member.Many e) = units_of e

unfoldable pub item_units : ClassItem → List (ℕ × ℕ)
item_units (item.Single x) = member_units x
item_units (item.Range a b) = (a, b) ∷ []
item_units (item.Apart x y) = member_units x ++ (45, 45) ∷ member_units y
