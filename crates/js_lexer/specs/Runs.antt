-- This project's own: units that pass a test, one behind another.
use Rattle.std.specs.Prelude.{◌≡◌, ℕ, Bool, true, false, List, [], ◌∷◌, ◌++◌, if◌then◌else◌}
use Rattle.std.specs.List.{list_all}

-- whether there is a first unit and it passes
abbrev pub starts : (ℕ → Bool) → List ℕ → Bool
starts test [] = false
starts test (u ∷ us) = test u

-- The units begin with a run that pass, as long as it can be.
pub record IsRun (test : ℕ → Bool) (units run rest : List ℕ) : Type 0 where
  pub units_are : units ≡ run ++ rest
  pub all : list_all test run ≡ true
  pub ends : starts test rest ≡ false

-- what is behind such a run
abbrev pub skip_while : (ℕ → Bool) → List ℕ → List ℕ
skip_while test [] = []
skip_while test (u ∷ us) = if test u then skip_while test us else u ∷ us
