-- What is kept for what still comes, counted in terms: nodes bring 8 each, and pay for terms and for the price of moves.
use Rattle.std.specs.Prelude.{ℕ, ◌≤◌, ◌+◌, ◌*◌, length, List, [], ◌∷◌}
use Rattle.js_state.specs.Held.{Contents}
use Rattle.js_state.specs.Spending.{spent, credit_of_given}
use Rattle.js_frames.specs.declared.parts.Gathered.{Gathered}
use Rattle.js_frames.specs.declared.parts.Part.{Part}
use Rattle.js_frames.specs.declared.parts.Part.TheVariants as part
use Rattle.js_frames.specs.declared.frames.Frame.{Frame}
use Rattle.js_frames.specs.declared.frames.Frame.TheVariants as frame
use Rattle.js_frames.specs.declared.frames.Work.{Work}
use Rattle.js_frames.specs.declared.frames.Work.TheVariants as work

-- 7 for each value that is held, and 7 for what is called
abbrev pub credit_of_gathered : Gathered → ℕ
credit_of_gathered g = 7 * length g.values + 7

-- a value that is held keeps its 7; a node that was counted for what is still to be done keeps its 8, or what that takes
abbrev pub credit_of_part : Part → ℕ
credit_of_part (part.Element site rest scope o) = 7
credit_of_part (part.Member site ms scope o) = 7
credit_of_part (part.Gathering g rest) = credit_of_gathered g
credit_of_part (part.Operand site op) = 8
credit_of_part (part.LinkRight site op left ls scope) = 15
credit_of_part (part.IndexKey site is_static base ss scope) = 15
credit_of_part (part.BuiltinKey site is_static position name ss scope) = 15
credit_of_part (part.TargetKey site is_static base g scope) = 23
credit_of_part (part.CompoundName site op position name old scope) = 15
credit_of_part (part.CompoundProperty site op position name base old) = 15
credit_of_part _ = 0

abbrev pub credit_of_frame : Frame → ℕ
credit_of_frame (frame.Awaits p) = credit_of_part p
credit_of_frame (frame.TargetBase access g scope) = 8
credit_of_frame frame.Called = 7
credit_of_frame (frame.Kept completion) = credit_of_given completion
credit_of_frame _ = 0

abbrev pub credit_of_work : Work → ℕ
credit_of_work (work.Invoke g) = credit_of_gathered g
credit_of_work (work.Give completion) = credit_of_given completion
credit_of_work _ = 0

abbrev pub credits : List Frame → ℕ
credits [] = 0
credits (f ∷ fs) = credit_of_frame f + credits fs

-- what was spent and is kept has risen by at most 8 for each node
abbrev pub Earns : Contents → Contents → ℕ → ℕ → Type 0
Earns old new before after = (spent new + after) + 8 * old.nodes ≤ (spent old + before) + 8 * new.nodes
