-- The input that stands behind another, name by name, and the text behind another, unit by unit.
use Rattle.std.specs.Prelude.{ℕ, zero, suc, pos, ◌+ℤ◌, List, [], ◌∷◌, length, nat_eq, nat_lt, cond, int_lt, Option, Some, None}
use Rattle.std.specs.Option.{option_map}
use Rattle.path_core.specs.declared.bounds.Kind.{Kind}
use Rattle.path_core.specs.declared.bounds.Kind.TheVariants as kinds
use Rattle.path_core.specs.declared.bounds.Declared.{Declared}
use Rattle.path_core.specs.declared.path.InputValue.{InputValue}
use Rattle.path_core.specs.declared.path.InputValue.TheVariants as values
use Rattle.path_core.specs.Inputs.{Values}

abbrev pub head_of : {A : Type 0} → List A → Option A
head_of [] = None
head_of (x ∷ xs) = Some x

-- the next value of a place, and the first ones behind it
abbrev pub carried : {A : Type 0} → List A → Option A → Option (List A)
carried firsts None = None
carried firsts (Some w) = Some (w ∷ firsts)

-- a place goes on where all places behind it are at their last value
abbrev pub next_with : {A : Type 0} → (A → Option A) → List A → A → Option (List A) → Option (List A)
next_with next firsts v (Some rest) = Some (v ∷ rest)
next_with next firsts v None = carried firsts (next v)

-- ---- texts over an alphabet

-- the first unit; 0 where there is none
abbrev pub first_unit : List ℕ → ℕ
first_unit [] = 0
first_unit (u ∷ us) = u

-- the unit behind another
abbrev pub next_unit : List ℕ → ℕ → Option ℕ
next_unit [] u = None
next_unit (a ∷ others) u = cond (nat_eq a u) (head_of others) (next_unit others u)

-- the first text of so many units
abbrev pub lowest : List ℕ → ℕ → List ℕ
lowest alphabet zero = []
lowest alphabet (suc n) = first_unit alphabet ∷ lowest alphabet n

-- the text behind another among those of as many units
abbrev pub next_same : List ℕ → ℕ → List ℕ → Option (List ℕ)
next_same alphabet zero text = None
next_same alphabet (suc n) [] = None
next_same alphabet (suc n) (u ∷ us) = next_with (next_unit alphabet) (lowest alphabet n) u (next_same alphabet n us)

-- behind the last of them stands the first text with a unit more
abbrev pub or_longer : List ℕ → ℕ → ℕ → Option (List ℕ) → Option (List ℕ)
or_longer alphabet most n (Some text) = Some text
or_longer alphabet most n None = cond (nat_lt n most) (Some (lowest alphabet (suc n))) None

-- the text behind another, if there is one
abbrev pub next_text : List ℕ → ℕ → List ℕ → Option (List ℕ)
next_text alphabet most text = or_longer alphabet most (length text) (next_same alphabet (length text) text)

-- ---- values of one name, and of all names

-- the value behind another, if there is one
abbrev pub next_value : Kind → InputValue → Option InputValue
next_value (kinds.Int low high) (values.Int n) = cond (int_lt n high) (Some (values.Int (n +ℤ pos 1))) None
next_value (kinds.Int low high) (values.Text t) = None
next_value (kinds.Text least most alphabet) (values.Int n) = None
next_value (kinds.Text least most alphabet) (values.Text t) = option_map values.Text (next_text alphabet most t)

-- the first value of an input
abbrev pub first_value : Kind → InputValue
first_value (kinds.Int low high) = values.Int low
first_value (kinds.Text least most alphabet) = values.Text (lowest alphabet least)

-- the first value of each name
abbrev pub first_of : List Declared → Values
first_of [] = []
first_of (d ∷ ds) = first_value d.kind ∷ first_of ds

-- a name goes on where all names behind it are at their last value
abbrev pub next_of : List Declared → Values → Option Values
next_of [] vs = None
next_of (d ∷ ds) [] = None
next_of (d ∷ ds) (v ∷ vs) = next_with (next_value d.kind) (first_of ds) v (next_of ds vs)
