-- This project's own: what a step of the parser answers.
use Rattle.std.specs.Prelude.{Bool, true, false, Option, Some, Result}
use Rattle.js_units.specs.Answers as answers
use Rattle.js_step_operands.specs.declared.stop.Stop.{Stop}
use Rattle.js_step_operands.specs.declared.stop.Stop.TheVariants as stop

abbrev pub is_memory : Stop → Bool
is_memory stop.NoMemory = true
is_memory stop.Syntax = false

-- what is answered, seen by see, is what reading gives, unless memory ran out
abbrev pub Gives : {X Y : Type 0} → (X → Y) → Result X Stop → Option Y → Type 0
Gives see result read = answers.Gives is_memory answers.untold see result read

-- the value itself, unless memory ran out
abbrev pub Makes : {X : Type 0} → Result X Stop → X → Type 0
Makes result value = Gives (λ x. x) result (Some value)
