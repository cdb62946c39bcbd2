-- Values of inputs: which have a spelling, and how they are read.
use Rattle.std.specs.Prelude.{◌≡◌, ℕ, ◌-◌, ◌^◌, ◌==◌, ℤ, List, [], ◌∷◌, codes, Option, Some, None, if◌then◌else◌, true}
use Rattle.js_units.specs.Unquoted.{are_units, quoted_at}
use Rattle.path_core.specs.Names.{is_name}
use Rattle.path_core.specs.declared.path.InputValue.{InputValue}
use Rattle.path_core.specs.declared.path.InputValue.TheVariants as values
use Rattle.proof_text.specs.Lines.{after, ◌>>=◌}
use Rattle.proof_text.specs.Numbers.{IsBetween, signed_at}
use Rattle.report_text.specs.Parts.{name_at}

-- a number of 64 bits with its sign, or a text of 16-bit code units
abbrev pub IsValue : InputValue → Type 0
IsValue (values.Int n) = IsBetween (2 ^ 63) (2 ^ 63 - 1) n
IsValue (values.Text units) = are_units units ≡ true

-- a Name and such a value
abbrev pub IsItem : List ℕ × InputValue → Type 0
IsItem i = (is_name i.0 ≡ true) × IsValue i.1

-- ---- read from left to right

abbrev pub int_value : Option (ℤ × List ℕ) → Option (InputValue × List ℕ)
int_value None = None
int_value (Some r) = Some (values.Int r.0, r.1)

abbrev pub text_value : Option (List ℕ × List ℕ) → Option (InputValue × List ℕ)
text_value None = None
text_value (Some r) = Some (values.Text r.0, r.1)

-- a text where a quote stands in front, else a number
unfoldable pub value_at : List ℕ → Option (InputValue × List ℕ)
value_at [] = None
value_at (b ∷ bs) = if b == 34 then text_value (quoted_at (b ∷ bs)) else int_value (signed_at (2 ^ 63) (2 ^ 63 - 1) (b ∷ bs))

unfoldable pub item_at : List ℕ → Option ((List ℕ × InputValue) × List ℕ)
item_at list = do
  start ← after (codes " ") list
  name ← name_at start
  written ← after (codes "=") name.1
  value ← value_at written
  Some ((name.0, value.0), value.1)
