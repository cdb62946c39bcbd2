-- Frames of chains cost nothing, since a chain counts nothing until its next link is reached. With no link left, or behind a
-- completion that ends the chain, such a frame only hands on; so many of them may be taken off before a step is made.
use Rattle.std.specs.Prelude.{ℕ, ◌<◌, ◌≡◌, Bool, true, false, ◌&&◌, nat_lt, length, List, []}
use Rattle.js_state.specs.Fitting.{is_result}
use Rattle.js_state.specs.Held.{Contents}
use Rattle.js_state.specs.declared.completion.Completion.{Completion}
use Rattle.js_frames.specs.declared.parts.Part.{Part}
use Rattle.js_frames.specs.declared.parts.Part.TheVariants as part
use Rattle.js_frames.specs.declared.frames.Frame.{Frame}
use Rattle.js_frames.specs.declared.frames.Frame.TheVariants as frame
use Rattle.js_frames.specs.declared.frames.Work.{Work}
use Rattle.js_frames.specs.declared.frames.Work.TheVariants.{Give}
use Rattle.js_frames.specs.Weight.{Falls, cost_of_work}
use Rattle.js_machine.specs.declared.taking.Step.{Step}
use Rattle.js_machine.specs.declared.taking.Step.TheVariants as step

abbrev pub part_acts : Part → Completion → Bool
part_acts (part.LinksLeft ls scope) c = nat_lt 0 (length ls.now) && is_result c
part_acts (part.LogicalLeft ls scope) c = nat_lt 0 (length ls.now) && is_result c
part_acts _ c = true

-- the frame does something with the completion
abbrev pub acts : Frame → Completion → Bool
acts (frame.Awaits p) c = part_acts p c
acts (frame.Chain ss scope) c = nat_lt 0 (length ss.now) && is_result c
acts _ c = true

-- what is done next: where the run has ended, its completion stands on an empty stack
abbrev pub next_of : Step → Work
next_of (step.Ended completion) = Give completion
next_of (step.Next work) = work

abbrev pub Empties : Step → List Frame → Type 0
Empties (step.Ended completion) fs = fs ≡ []
Empties (step.Next work) fs = Unit {0}

abbrev pub StepFalls : Step → Contents → List Frame → ℕ → Contents → List Frame → Type 0
StepFalls (step.Ended completion) old fs before new gs = Unit {0}
StepFalls (step.Next work) old fs before new gs = Falls old fs before new gs (cost_of_work work)
