-- This project's own: bodies of patterns, read from left to right.
use Rattle.std.specs.Prelude.{ℕ, ◌==◌, ◌&&◌, not, Bool, List, [], ◌∷◌, Option, Some, None, if◌then◌else◌}
use Rattle.js_units.specs.Characters.{is_line_end}
use Rattle.js_lexer.specs.Patterns.{is_body_unit, class_behind, IsBody, IsPattern}

abbrev pub taken_along : Bool → List ℕ → Option (Bool × List ℕ)
taken_along in_class [] = None
taken_along in_class (u ∷ us) = if is_line_end u then None else Some (in_class, us)

-- whether what follows a unit of the body, or an escape, is in a class, and what is behind it
unfoldable pub body_at : Bool → List ℕ → Option (Bool × List ℕ)
body_at in_class [] = None
body_at in_class (u ∷ us) =
    if u == 92 then taken_along in_class us
    else (if is_body_unit in_class u then Some (class_behind in_class u, us) else None)

-- what is behind a slash that is in no class
abbrev pub slash_at : Bool → List ℕ → Option (List ℕ)
slash_at in_class [] = None
slash_at in_class (u ∷ us) = if u == 47 && not in_class then Some us else None

-- what is behind the closing slash, if there is one
abbrev pub BodyEndsAt : Bool → List ℕ → Option (List ℕ) → Type 0
BodyEndsAt in_class units (Some rest) = IsBody in_class units rest
BodyEndsAt in_class units None = (rest : List ℕ) → IsBody in_class units rest → ⊥

-- what is behind the flags of a pattern whose opening slash stands before the units
abbrev pub PatternEndsAt : List ℕ → Option (List ℕ) → Type 0
PatternEndsAt units (Some rest) = (body : List ℕ) × (flags : List ℕ) × IsPattern (47 ∷ units) body flags rest
PatternEndsAt units None = (body flags rest : List ℕ) → IsPattern (47 ∷ units) body flags rest → ⊥

-- a pattern stands in front
abbrev pub HasPattern : List ℕ → Type 0
HasPattern units = (body : List ℕ) × (flags : List ℕ) × (rest : List ℕ) × IsPattern units body flags rest
