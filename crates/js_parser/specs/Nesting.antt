-- This project's own: what frames leave of the deepest nesting.
use Rattle.std.specs.Prelude.{ℕ, ◌-◌, nat_lt, cond, List, [], ◌∷◌, Option, Some, None}
use Rattle.js_reading.specs.declared.frame.Frame.{Frame}
use Rattle.js_reading.specs.Frames.{begun, begins}

-- what is left once more has begun: nothing, where more has begun than was left
abbrev pub less : Option ℕ → ℕ → Option ℕ
less None taken = None
less (Some left) taken = cond (nat_lt left taken) None (Some (left - taken))

abbrev pub left_by : Option ℕ → List Frame → Option ℕ
left_by left [] = left
left_by left (f ∷ fs) = left_by (less (less left (begun f)) (begins f)) fs
