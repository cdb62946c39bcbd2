-- All inputs within bounds, in their order: the values of the last name vary fastest.
use Rattle.std.specs.Prelude.{◌≡◌, ◌≤◌, nat_eq, length, ℕ, zero, suc, ◌-◌, ℤ, pos, negsuc, ◌+ℤ◌, ◌-ℤ◌, ◌≤ℤ◌, List, [], ◌∷◌, ◌++◌, map}
use Rattle.std.specs.List.{flat_map, IsDistinct}
use Rattle.path_core.specs.declared.bounds.Kind.{Kind}
use Rattle.path_core.specs.declared.bounds.Kind.TheVariants as kinds
use Rattle.path_core.specs.declared.bounds.Declared.{Declared}
use Rattle.path_core.specs.declared.path.InputValue.{InputValue}
use Rattle.path_core.specs.declared.path.InputValue.TheVariants as values

abbrev pub Values : Type 0
Values = List InputValue

-- so many whole numbers from one on, ascending
abbrev pub ints_from : ℤ → ℕ → List ℤ
ints_from low zero = []
ints_from low (suc n) = low ∷ ints_from (low +ℤ pos 1) n

abbrev pub to_count : ℤ → ℕ
to_count (pos n) = suc n
to_count (negsuc n) = 0

-- the whole numbers from low to high
abbrev pub ints : ℤ → ℤ → List ℤ
ints low high = ints_from low (to_count (high -ℤ low))

-- the strings of so many units over an alphabet, by the place of their units in it
abbrev pub texts_of : List ℕ → ℕ → List (List ℕ)
texts_of alphabet zero = [] ∷ []
texts_of alphabet (suc n) = flat_map (λ u. map (λ rest. u ∷ rest) (texts_of alphabet n)) alphabet

abbrev pub lengths_from : ℕ → ℕ → List ℕ
lengths_from least zero = []
lengths_from least (suc n) = least ∷ lengths_from (suc least) n

-- the values of an input: whole numbers ascending; strings by their length, then by the alphabet
abbrev pub values_of : Kind → List InputValue
values_of (kinds.Int low high) = map values.Int (ints low high)
values_of (kinds.Text least most alphabet) = map values.Text (flat_map (texts_of alphabet) (lengths_from least (suc most - least)))

-- each value of the first name, and behind it all inputs of the other names
abbrev pub within : List Declared → List Values
within [] = [] ∷ []
within (d ∷ ds) = flat_map (λ v. map (λ rest. v ∷ rest) (within ds)) (values_of d.kind)

-- wherever x stands among the inputs, y stands behind it
abbrev pub IsNext : List Values → Values → Values → Type 0
IsNext xs x y = (before after : List Values) → xs ≡ before ++ x ∷ after → (rest : List Values) × (after ≡ y ∷ rest)

-- wherever x stands among the inputs, nothing stands behind it
abbrev pub IsLast : List Values → Values → Type 0
IsLast xs x = (before after : List Values) → xs ≡ before ++ x ∷ after → after ≡ []

-- the values are one of the inputs
abbrev pub IsWithin : List Declared → Values → Type 0
IsWithin ds x = (before after : List Values) × (within ds ≡ before ++ x ∷ after)

-- strings of at most 64 units over an alphabet of 1 to 256 units, all different
pub record AreTexts (least most : ℕ) (alphabet : List ℕ) : Type 0 where
  pub ordered : least ≤ most
  pub short : most ≤ 64
  pub some : 1 ≤ length alphabet
  pub few : length alphabet ≤ 256
  pub different : IsDistinct nat_eq alphabet

-- numbers from low to high, of which there is at least one; or such strings
abbrev pub IsRange : Kind → Type 0
IsRange (kinds.Int low high) = low ≤ℤ high
IsRange (kinds.Text least most alphabet) = AreTexts least most alphabet
