-- A number that falls at each step of the machine: nodes and turns pay for frames.
use Rattle.std.specs.Prelude.{ℕ, ◌<◌, ◌+◌, ◌-◌, ◌*◌, Bool, true, false, List, [], ◌∷◌}
use Rattle.js_meaning.specs.Running.{node_limit}
use Rattle.js_state.specs.Held.{Contents}
use Rattle.js_state.specs.declared.completion.Completion.{Completion}
use Rattle.js_state.specs.declared.completion.Completion.TheVariants.{Stop}
use Rattle.js_frames.specs.Idle.{is_idle}
use Rattle.js_frames.specs.declared.parts.Part.{Part}
use Rattle.js_frames.specs.declared.parts.Part.TheVariants as part
use Rattle.js_frames.specs.declared.frames.Frame.{Frame}
use Rattle.js_frames.specs.declared.frames.Frame.TheVariants as frame
use Rattle.js_frames.specs.declared.frames.Work.{Work}
use Rattle.js_frames.specs.declared.frames.Work.TheVariants as work

-- chains count no node until their next link is reached, so what waits there costs nothing
abbrev pub cost_of_part : Part → ℕ
cost_of_part (part.Gathering g rest) = 16
cost_of_part (part.LinksLeft ls scope) = 0
cost_of_part (part.LogicalLeft ls scope) = 0
cost_of_part (part.LinkRight site op left ls scope) = 14
cost_of_part (part.IndexKey site is_static base ss scope) = 14
cost_of_part (part.BuiltinKey site is_static position name ss scope) = 14
cost_of_part _ = 12

abbrev pub cost_of_frame : Frame → ℕ
cost_of_frame (frame.Awaits p) = cost_of_part p
cost_of_frame (frame.Chain ss scope) = 0
cost_of_frame (frame.TargetBase access g scope) = 14
cost_of_frame frame.Called = 1
cost_of_frame (frame.WhileBody l) = 14
cost_of_frame (frame.DoBody l) = 14
cost_of_frame (frame.ForBody l scope) = 14
cost_of_frame (frame.OfBody l next) = 14
cost_of_frame (frame.Rest ss scope) = 6
cost_of_frame (frame.ForDeclared l scope) = 18
cost_of_frame (frame.Catching catch scope) = 12
cost_of_frame (frame.Finishing finally scope) = 14
cost_of_frame (frame.Kept completion) = 1

abbrev pub cost_of_given : Completion → ℕ
cost_of_given (Stop e) = 0
cost_of_given _ = 3

-- a statement that counts nothing pays for its end
abbrev pub cost_of_exec : Bool → ℕ
cost_of_exec true = 4
cost_of_exec false = 1

abbrev pub cost_of_work : Work → ℕ
cost_of_work (work.Eval e scope) = 1
cost_of_work (work.Exec s scope) = cost_of_exec (is_idle s.now)
cost_of_work (work.Enter ss scope) = 9
cost_of_work (work.Declare ds scope) = 14
cost_of_work (work.Invoke g) = 17
cost_of_work (work.Give completion) = cost_of_given completion

abbrev pub cost_of_frames : List Frame → ℕ
cost_of_frames [] = 0
cost_of_frames (f ∷ fs) = cost_of_frame f + cost_of_frames fs

-- nodes left, turns left and the stack
abbrev pub standing : ℕ → ℕ → List Frame → ℕ
standing nodes turns fs = 60 * (node_limit - nodes) + 60 * turns + cost_of_frames fs

abbrev pub weight : ℕ → ℕ → List Frame → Work → ℕ
weight nodes turns fs next = standing nodes turns fs + cost_of_work next

-- less than the stack and what was about to be done, which costs so much
abbrev pub Falls : Contents → List Frame → ℕ → Contents → List Frame → ℕ → Type 0
Falls old fs before new gs after = standing new.nodes new.turns gs + after < standing old.nodes old.turns fs + before
