-- Marks as stamps (this project's own).
use Rattle.std.specs.Prelude.{ℕ, ◌+◌, ◌*◌, ◌==◌, ◌≤◌, ◌≡◌, Bool, List, All, length, map}

-- the places that have the present stamp
abbrev pub marked_by : List ℕ → ℕ → List Bool
marked_by stamps present = map (λ stamp. stamp == present) stamps

-- there are places for these variables, and no stamp is later than the present one
pub record AreStamps (variables present : ℕ) (stamps : List ℕ) : Type 0 where
  pub places : length stamps ≡ 2 * variables + 1
  pub most : All (λ stamp. stamp ≤ present) stamps
