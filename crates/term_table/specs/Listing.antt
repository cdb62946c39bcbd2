-- Moves of which the first two stand apart.
use Rattle.std.specs.Prelude.{◌≡◌, List, [], ◌∷◌, ◌++◌, Option, Some, None}

abbrev pub listed : {A : Type 0} → Option A → Option A → List A → List A
listed None second more = []
listed (Some x) None more = x ∷ []
listed (Some x) (Some y) more = x ∷ y ∷ more

-- no place is empty in front of one that isn't
abbrev pub IsPacked : {A : Type 0} → Option A → Option A → List A → Type 0
IsPacked (Some x) (Some y) more = Unit {0}
IsPacked (Some x) None more = more ≡ []
IsPacked None (Some y) more = ⊥
IsPacked None None more = more ≡ []
