-- This project's own: the fault where nothing is read in front of units, with the number of units from its place on.
use Rattle.std.specs.Prelude.{ℕ, ◌+◌, ◌*◌, ◌==◌, ◌&&◌, not, nat_le, nat_lt, Bool, List, [], ◌∷◌, length, drop, Option, Some, None, if◌then◌else◌}
use Rattle.js_units.specs.Characters.{is_hexadecimal, digit_value}
use Rattle.re_parser.specs.Escapes.{starts, member_at}
use Rattle.re_parser.specs.Agreement.{is_question}
use Rattle.re_parser.specs.declared.kinds.Member.{Member}
use Rattle.re_parser.specs.declared.kinds.Member.TheVariants as member
use Rattle.re_parser.specs.declared.refusal.Fault.{Fault}
use Rattle.re_parser.specs.declared.refusal.Fault.TheVariants as fault

-- the units from the first `}` on
abbrev pub from_close : List ℕ → List ℕ
from_close [] = []
from_close (u ∷ us) = if u == 125 then u ∷ us else from_close us

-- no piece is in front; `deep` says that no group may begin
unfoldable pub piece_fault : Bool → List ℕ → Fault
piece_fault deep [] = fault.Syntax 0
piece_fault deep (u ∷ us) =
    if u == 92 then fault.BadEscape (length (u ∷ us))
    else (if u == 40 && not deep && starts is_question us then fault.Syntax (length (drop 1 us))
    else (if u == 123 then fault.Syntax (length (from_close us))
    else fault.Syntax (length (u ∷ us))))

-- no member is in front
unfoldable pub member_fault : List ℕ → Fault
member_fault [] = fault.Syntax 0
member_fault (u ∷ us) = if u == 92 then fault.BadEscape (length (u ∷ us)) else fault.Syntax (length (u ∷ us))

abbrev pub hexadecimal_value : ℕ → ℕ
hexadecimal_value u = if is_hexadecimal u then digit_value u else 0

-- two digits of a number that is below: the first one behind which it can only be below
unfoldable pub byte_fault : ℕ → List ℕ → Fault
byte_fault low [] = fault.Syntax 0
byte_fault low (a ∷ us) =
    if nat_lt (hexadecimal_value a * 16 + 15) low then fault.Syntax (length (a ∷ us)) else fault.Syntax (length us)

-- four digits
unfoldable pub unit_fault : ℕ → List ℕ → Fault
unit_fault low [] = fault.Syntax 0
unit_fault low (a ∷ []) = fault.Syntax 0
unit_fault low (a ∷ b ∷ []) = fault.Syntax 0
unit_fault low (a ∷ b ∷ c ∷ us) =
    if nat_lt (hexadecimal_value a * 4096 + 4095) low then fault.Syntax (length (a ∷ b ∷ c ∷ us))
    else (if nat_lt (hexadecimal_value a * 4096 + hexadecimal_value b * 256 + 255) low then fault.Syntax (length (b ∷ c ∷ us))
    else (if nat_lt (hexadecimal_value a * 4096 + hexadecimal_value b * 256 + hexadecimal_value c * 16 + 15) low then fault.Syntax (length (c ∷ us))
    else fault.Syntax (length us)))

-- behind a `\`
abbrev pub escaped_end_fault : ℕ → List ℕ → Fault
escaped_end_fault low [] = fault.Syntax 0
escaped_end_fault low (u ∷ us) =
    if u == 117 && nat_le low 65535 then unit_fault low us
    else (if u == 120 && nat_le low 255 then byte_fault low us
    else fault.Syntax (length (u ∷ us)))

-- the end of a range is below its start
unfoldable pub end_fault : ℕ → List ℕ → Fault
end_fault low [] = fault.Syntax 0
end_fault low (u ∷ us) = if u == 92 then escaped_end_fault low us else fault.Syntax (length (u ∷ us))

abbrev pub range_fault : Member → List ℕ → Option (Member × List ℕ) → Fault
range_fault x end None = member_fault end
range_fault (member.One low) end (Some y) = end_fault low end
range_fault (member.Many e) end (Some y) = member_fault end

abbrev pub class_fault_by : List ℕ → Option (Member × List ℕ) → Fault
class_fault_by units None = member_fault units
class_fault_by units (Some x) = range_fault x.0 (drop 1 x.1) (member_at (drop 1 x.1))

-- neither a member nor `]` is in front
unfoldable pub class_fault : List ℕ → Fault
class_fault units = class_fault_by units (member_at units)
