-- What a single code unit is to a pattern (ECMA-262, sections 22.2.2.7.3, 22.2.2.9 and 22.2.2.4.1).
use Rattle.std.specs.Prelude.{ℕ, ◌+◌, ◌-◌, Bool, false, not, ◌&&◌, ◌||◌, if◌then◌else◌, ◌==◌, nat_le, List, [], ◌∷◌, Option, Some, None}
use Rattle.std.specs.List.{list_any}
use Rattle.re_ast.specs.declared.patterns.ClassSet.{ClassSet}

-- A to Z
abbrev pub is_capital : ℕ → Bool
is_capital u = nat_le 65 u && nat_le u 90

-- a to z
abbrev pub is_small : ℕ → Bool
is_small u = nat_le 97 u && nat_le u 122

-- Canonicalize (22.2.2.7.3), for texts of units below 128: under `i` small letters become capitals. Every other unit stands for
-- itself, since none of 128 or more has a canonical unit below 128
abbrev pub canonical : Bool → ℕ → ℕ
canonical i u = if i && is_small u then u - 32 else u

-- both have one canonical unit
abbrev pub is_alike : Bool → ℕ → ℕ → Bool
is_alike i u v = canonical i u == canonical i v

-- under `i`, the other unit with the canonical unit of u
abbrev pub other_case : Bool → ℕ → Option ℕ
other_case i u = if i && is_small u then Some (u - 32) else (if i && is_capital u then Some (u + 32) else None)

-- there is a unit and it fits
abbrev pub fits_at : Option ℕ → (ℕ → Bool) → Bool
fits_at None fits = false
fits_at (Some u) fits = fits u

abbrev pub in_ranges : List (ℕ × ℕ) → ℕ → Bool
in_ranges rs u = list_any (λ r. nat_le r.0 u && nat_le u r.1) rs

-- u has the canonical unit of a member (22.2.2.7.1)
abbrev pub has_member : Bool → List (ℕ × ℕ) → ℕ → Bool
has_member i rs u = in_ranges rs u || fits_at (other_case i u) (in_ranges rs)

-- a `^` is applied after the canonical units were compared
abbrev pub in_class : Bool → ClassSet → ℕ → Bool
in_class i c u = if c.negated then not (has_member i c.ranges u) else has_member i c.ranges u

-- WordCharacters (22.2.2.9.3)
abbrev pub is_word : ℕ → Bool
is_word u = in_ranges ((48, 57) ∷ (65, 90) ∷ (95, 95) ∷ (97, 122) ∷ []) u
