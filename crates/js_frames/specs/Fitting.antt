-- Each shadow of a control stack and of what is done next, over any predicate of shadows.
use Rattle.std.specs.Prelude.{List}
use Rattle.term_table.specs.Fitting.{Fits}
use Rattle.js_state.specs.Fitting.{Shadows, AllOf, InReference, InCompletion}
use Rattle.js_state.specs.Held.{Contents}
use Rattle.js_frames.specs.declared.parts.Aim.{Aim}
use Rattle.js_frames.specs.declared.parts.Aim.TheVariants as aim
use Rattle.js_frames.specs.declared.parts.Gathered.{Gathered}
use Rattle.js_frames.specs.declared.parts.Part.{Part}
use Rattle.js_frames.specs.declared.parts.Part.TheVariants as part
use Rattle.js_frames.specs.declared.frames.Frame.{Frame}
use Rattle.js_frames.specs.declared.frames.Frame.TheVariants as frame
use Rattle.js_frames.specs.declared.frames.Work.{Work}
use Rattle.js_frames.specs.declared.frames.Work.TheVariants as work

abbrev pub InAim : Shadows → Aim → Type 0
InAim P (aim.Call site r ss) = InReference P r
InAim P (aim.New site name) = Unit {0}

abbrev pub InGathered : Shadows → Gathered → Type 0
InGathered P g = AllOf P g.values × InAim P g.aim

abbrev pub InPart : Shadows → Part → Type 0
InPart P (part.Gathering g rest) = InGathered P g
InPart P (part.LinkRight site op left ls scope) = P left
InPart P (part.IndexKey site is_static base ss scope) = P base
InPart P (part.TargetKey site is_static base g scope) = P base
InPart P (part.PropertyValue site base name) = P base
InPart P (part.CompoundName site op position name old scope) = P old
InPart P (part.CompoundProperty site op position name base old) = P base × P old
InPart P _ = Unit {0}

abbrev pub InFrame : Shadows → Frame → Type 0
InFrame P (frame.Awaits p) = InPart P p
InFrame P (frame.Kept completion) = InCompletion P completion
InFrame P _ = Unit {0}

abbrev pub InWork : Shadows → Work → Type 0
InWork P (work.Invoke g) = InGathered P g
InWork P (work.Give completion) = InCompletion P completion
InWork P _ = Unit {0}

-- what waits fits the table of a state
abbrev pub FitFrames : Contents → List Frame → Type 0
FitFrames st fs = AllOf (InFrame (Fits st.table)) fs

-- and so does what is done next
abbrev pub FitAll : Contents → List Frame → Work → Type 0
FitAll st fs next = FitFrames st fs × InWork (Fits st.table) next
