-- Parts of lines read from left to right: words of a table, numbers and names.
use Rattle.std.specs.Prelude.{ℕ, ◌-◌, ◌^◌, ◌==◌, List, [], ◌∷◌, Option, Some, None, if◌then◌else◌}
use Rattle.js_units.specs.Characters.{is_name_part}
use Rattle.js_units.specs.Reading.{many}
use Rattle.path_core.specs.Names.{is_name}
use Rattle.proof_text.specs.Lines.{after}
use Rattle.proof_text.specs.Numbers.{number_at, not_zero}

-- ---- words

abbrev pub chosen : {X : Type 0} → X → Option (List ℕ) → Option (X × List ℕ) → Option (X × List ℕ)
chosen x None other = other
chosen x (Some rest) other = Some (x, rest)

-- the first of a table's words that stands in front, by what it says
abbrev pub one_of : {X : Type 0} → List (List ℕ × X) → List ℕ → Option (X × List ℕ)
one_of [] list = None
one_of (e ∷ es) list = chosen e.1 (after e.0 list) (one_of es list)

-- ---- numbers

-- a number of 32 bits
abbrev pub short_at : List ℕ → Option (ℕ × List ℕ)
short_at list = number_at (2 ^ 32 - 1) list

-- `+` and such a number that isn't 0, or 0 where no `+` stands there
unfoldable pub plus_at : List ℕ → Option (ℕ × List ℕ)
plus_at [] = Some (0, [])
plus_at (b ∷ bs) = if b == 43 then not_zero (short_at bs) else Some (0, b ∷ bs)

-- ---- names

unfoldable pub part_at : List ℕ → Option (ℕ × List ℕ)
part_at [] = None
part_at (b ∷ bs) = if is_name_part b then Some (b, bs) else None

abbrev pub named : List ℕ × List ℕ → Option (List ℕ × List ℕ)
named r = if is_name r.0 then Some r else None

-- the letters, digits, `_` and `$` in front, where they are a Name
unfoldable pub name_at : List ℕ → Option (List ℕ × List ℕ)
name_at list = named (many part_at list)
