-- What fits a table fits a longer one; and the last row of a part.
use Rattle.std.proofs.Common.{◌≡◌, List, [], ◌∷◌, Option, Some, None, refl, sym, ap, subst, arith}
use Rattle.std.proofs.lemmas.List.{append-nil}
use Rattle.term_table.specs.declared.term.Term.{Term}
use Rattle.term_table.specs.declared.term.TermId.{TermId}
use Rattle.term_table.specs.declared.shadow.Shadow.{Shadow}
use Rattle.term_table.specs.declared.shadow.Plain.{Plain}
use Rattle.term_table.specs.Fitting.{Fits, Beside}
use Rattle.term_table.specs.Growing.{Grown}
use Rattle.term_table.specs.Views.{View}
use Rattle.js_meaning.specs.Running.{Outcome, done, bind}
use Rattle.js_state.specs.declared.completion.Completion.{Completion}
use Rattle.js_state.specs.declared.completion.Completion.TheVariants as c
use Rattle.js_state.specs.declared.completion.Reference.{Reference}
use Rattle.js_state.specs.declared.completion.Reference.TheVariants as ref
use Rattle.js_state.specs.Fitting.{Shadows, AllOf, InReference, InCompletion}
use Rattle.js_state.specs.Held.{Contents}
use Rattle.js_state.specs.Seen.{place_of, completion_at}
use Rattle.js_state.specs.Playing.{Does}
use Rattle.js_frames.specs.declared.parts.Aim.{Aim}
use Rattle.js_frames.specs.declared.parts.Aim.TheVariants as aim
use Rattle.js_frames.specs.declared.parts.Part.{Part}
use Rattle.js_frames.specs.declared.parts.Part.TheVariants as part
use Rattle.js_frames.specs.declared.frames.Frame.{Frame}
use Rattle.js_frames.specs.declared.frames.Frame.TheVariants as frame
use Rattle.js_frames.specs.Fitting.{InAim, InPart, InFrame, FitFrames}
use Rattle.js_frames.specs.Machine.{Goes}
use Rattle.js_frames.proofs.Steps.{both, stays, still, plays}

-- ---- predicates that one implies

abbrev Implied : Shadows → Shadows → Type 0
Implied P Q = (s : Shadow) → P s → Q s

all_implied : {A : Type 0} (P Q : A → Type 0) (xs : List A) → ((x : A) → P x → Q x) → AllOf P xs → AllOf Q xs
all_implied P Q [] h a = a
all_implied P Q (x ∷ xs) h a = (h x a.0, all_implied P Q xs h a.1)

reference_implied : (P Q : Shadows) (r : Reference) → Implied P Q → InReference P r → InReference Q r
reference_implied P Q (ref.Callee value this) h a = h value a
reference_implied P Q (ref.Intrinsic site name) h a = a
reference_implied P Q (ref.Static site key) h a = a
reference_implied P Q (ref.Method site base m) h a = h base a

completion_implied : (P Q : Shadows) (x : Completion) → Implied P Q → InCompletion P x → InCompletion Q x
completion_implied P Q (c.Value s) h a = h s a
completion_implied P Q (c.Refers r) h a = reference_implied P Q r h a
completion_implied P Q c.Normal h a = a
completion_implied P Q c.Break h a = a
completion_implied P Q c.Continue h a = a
completion_implied P Q (c.Return s) h a = h s a
completion_implied P Q (c.Throw site s) h a = h s a
completion_implied P Q (c.Stop e) h a = a

aim_implied : (P Q : Shadows) (x : Aim) → Implied P Q → InAim P x → InAim Q x
aim_implied P Q (aim.Call site r ss) h a = reference_implied P Q r h a
aim_implied P Q (aim.New site name) h a = a

part_implied : (P Q : Shadows) (x : Part) → Implied P Q → InPart P x → InPart Q x
part_implied P Q (part.Gathering g rest) h a = (all_implied P Q g.values h a.0, aim_implied P Q g.aim h a.1)
part_implied P Q (part.LinkRight site op left ls scope) h a = h left a
part_implied P Q (part.IndexKey site is_static base ss scope) h a = h base a
part_implied P Q (part.TargetKey site is_static base g scope) h a = h base a
part_implied P Q (part.PropertyValue site base name) h a = h base a
part_implied P Q (part.CompoundName site op position name old scope) h a = h old a
part_implied P Q (part.CompoundProperty site op position name base old) h a = (h base a.0, h old a.1)
part_implied P Q (part.Element site rest scope o) h a = a
part_implied P Q (part.Member site ms scope o) h a = a
part_implied P Q (part.Operand site op) h a = a
part_implied P Q (part.LinksLeft ls scope) h a = a
part_implied P Q (part.LogicalLeft ls scope) h a = a
part_implied P Q (part.ConditionalTest site so other scope) h a = a
part_implied P Q part.ItsValue h a = a
part_implied P Q (part.BuiltinKey site is_static position name ss scope) h a = a
part_implied P Q (part.BuiltinTarget site) h a = a
part_implied P Q (part.NameValue site name scope) h a = a
part_implied P Q (part.Declared name rest scope) h a = a
part_implied P Q part.ExpressDone h a = a
part_implied P Q (part.ArmTest arms alternate scope) h a = a
part_implied P Q (part.WhileTest l) h a = a
part_implied P Q (part.DoTest l) h a = a
part_implied P Q (part.ForValue l) h a = a
part_implied P Q (part.ForTest l scope) h a = a
part_implied P Q (part.ForUpdate l scope) h a = a
part_implied P Q (part.OfItems site name is_mutable body scope) h a = a
part_implied P Q part.ReturnDone h a = a
part_implied P Q (part.ThrowDone site) h a = a

frame_implied : (P Q : Shadows) (x : Frame) → Implied P Q → InFrame P x → InFrame Q x
frame_implied P Q (frame.Awaits p) h a = part_implied P Q p h a
frame_implied P Q (frame.Chain ss scope) h a = a
frame_implied P Q (frame.TargetBase access g scope) h a = a
frame_implied P Q frame.Called h a = a
frame_implied P Q (frame.WhileBody l) h a = a
frame_implied P Q (frame.DoBody l) h a = a
frame_implied P Q (frame.ForBody l scope) h a = a
frame_implied P Q (frame.OfBody l next) h a = a
frame_implied P Q (frame.Rest ss scope) h a = a
frame_implied P Q (frame.ForDeclared l scope) h a = a
frame_implied P Q (frame.Catching catch scope) h a = a
frame_implied P Q (frame.Finishing finally scope) h a = a
frame_implied P Q (frame.Kept completion) h a = completion_implied P Q completion h a

-- ---- a table grows

beside_later : (old new : List Term) (p : Plain) (t : Option TermId) → Grown old new → Beside old p t → Beside new p t
beside_later old new p None g b = b
beside_later old new p (Some t) g b = b

pub fits_later : (old new : List Term) (s : Shadow) → Grown old new → Fits old s → Fits new s
fits_later old new s g f = record { value = f.value; term = beside_later old new s.plain s.term g f.term }

pub frames_later : (old new : Contents) (fs : List Frame) → Grown old.table new.table → FitFrames old fs → FitFrames new fs
frames_later old new fs g a =
    all_implied (InFrame (Fits old.table)) (InFrame (Fits new.table)) fs
    (λ f. frame_implied (Fits old.table) (Fits new.table) f (λ s. fits_later old.table new.table s g)) a

-- the table stayed
pub frames_same : (old new : Contents) (fs : List Frame) → new.table ≡ old.table → FitFrames old fs → FitFrames new fs
frames_same old new fs t a = subst (λ (ts : List Term). AllOf (InFrame (Fits ts)) fs) (sym t) a

pub fits_same : (old new : Contents) (s : Shadow) → new.table ≡ old.table → Fits old.table s → Fits new.table s
fits_same old new s t f = subst (λ (ts : List Term). Fits ts s) (sym t) f

-- ---- a part ends by a row

bind_done : (r : Outcome) → bind r (λ st e. done st e) ≡ r
bind_done r = ap {B = Outcome} (λ items. (items, r.1)) (append-nil r.0)

pub plays_out : {old new : Contents} {fs : List Frame} {part : View → Outcome} {completion : Completion} → Does old new part completion → new.turns ≡ old.turns →
    Goes old fs (λ view w. part view) new fs (λ view w. done (place_of view new) (completion_at view completion))
plays_out {old} {new} {fs} {part} {completion} d t =
    both (stays still refl (λ view w. sym (bind_done (part view))))
    (plays (λ view w st e. done st e) d (omega (arith, t)) (λ view w st end. refl))

pub reference_same : (old new : Contents) (r : Reference) → new.table ≡ old.table → InReference (Fits old.table) r → InReference (Fits new.table) r
reference_same old new r t f = subst (λ (ts : List Term). InReference (Fits ts) r) (sym t) f
