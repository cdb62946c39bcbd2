-- Frames that only hand on, and those that make a step.
use Rattle.std.proofs.Common.{◌≡◌, ◌≤◌, ◌<◌, ℕ, Bool, true, false, ◌&&◌, nat_lt, length, List, [], ◌∷◌, refl, ap, sym, ◌∙◌, arith, true≢false}
use Rattle.std.proofs.lemmas.Bool.{ltb-false, ltb-true}
use Rattle.js_ast.specs.declared.expression.Expr.{Expr}
use Rattle.js_ast.specs.declared.parts.Suffix.{Suffix}
use Rattle.term_table.specs.declared.shadow.Shadow.{Shadow}
use Rattle.term_table.specs.Views.{View, at}
use Rattle.js_meaning.specs.Running.{Completion as Ending, Outcome, done, given, refers, on_value, on_reference, Reference as Referred}
use Rattle.js_meaning.specs.Values.{Value, Place}
use Rattle.js_state.specs.declared.completion.Completion.{Completion}
use Rattle.js_state.specs.declared.closure.Scope.{Scope as Around}
use Rattle.js_state.specs.declared.completion.Completion.TheVariants as c
use Rattle.js_state.specs.Fitting.{IsStop, is_result}
use Rattle.js_state.specs.Spending.{credit_of_given}
use Rattle.js_frames.specs.Weight.{cost_of_given}
use Rattle.js_state.specs.Seen.{completion_at}
use Rattle.js_frames.specs.declared.parts.Part.{Part}
use Rattle.js_frames.specs.declared.parts.Part.TheVariants as part
use Rattle.js_frames.specs.declared.frames.Frame.{Frame}
use Rattle.js_frames.specs.declared.frames.Frame.TheVariants as frame
use Rattle.js_frames.specs.Machine.{Fuel, part_of, frame_of, on_chain, on_links, on_logical}
use Rattle.js_frames.proofs.Passing.{list_none}
use Rattle.js_machine.specs.Handing.{acts, part_acts}

left_false : (a b : Bool) → (a && b) ≡ false → b ≡ true → a ≡ false
left_false true b e t = sym t ∙ e
left_false false b e t = refl

left_true : (a b : Bool) → (a && b) ≡ true → a ≡ true
left_true true b e = refl
left_true false b e = e

right_true : (a b : Bool) → (a && b) ≡ true → b ≡ true
right_true true b e = e
right_true false true e = refl
right_true false false e = e

-- no link is left
pub no_link : {A : Type 0} (xs : List A) (b : Bool) → (nat_lt 0 (length xs) && b) ≡ false → b ≡ true → xs ≡ []
no_link xs b e t =
    let h = ltb-false 0 (length xs) (left_false (nat_lt 0 (length xs)) b e t) in
    list_none xs (omega (arith, h))

-- a link is left
pub some_link : {A : Type 0} (xs : List A) (b : Bool) → (nat_lt 0 (length xs) && b) ≡ true → 1 ≤ length xs
some_link xs b e = ltb-true 0 (length xs) (left_true (nat_lt 0 (length xs)) b e)

pub is_waited : {A : Type 0} (xs : List A) (b : Bool) → (nat_lt 0 (length xs) && b) ≡ true → b ≡ true
is_waited xs b e = right_true (nat_lt 0 (length xs)) b e

links_hand : (w : Fuel) (p : Part) (view : View) (x : Completion) → part_acts p x ≡ false → is_result x ≡ true → (v : Value) (st : Place) → part_of view w p v st ≡ done st (given v)
links_hand w (part.LinksLeft ls scope) view x a r v st = ap (λ l. on_links w l scope v st) (no_link ls.now (is_result x) a r)
links_hand w (part.LogicalLeft ls scope) view x a r v st = ap (λ l. on_logical w l scope v st) (no_link ls.now (is_result x) a r)
links_hand w (part.Element site rest scope o) view x a r v st = absurd (true≢false a)
links_hand w (part.Member site ms scope o) view x a r v st = absurd (true≢false a)
links_hand w (part.Gathering g rest) view x a r v st = absurd (true≢false a)
links_hand w (part.Operand site op) view x a r v st = absurd (true≢false a)
links_hand w (part.LinkRight site op left ls scope) view x a r v st = absurd (true≢false a)
links_hand w (part.ConditionalTest site so other scope) view x a r v st = absurd (true≢false a)
links_hand w part.ItsValue view x a r v st = absurd (true≢false a)
links_hand w (part.IndexKey site is_static base ss scope) view x a r v st = absurd (true≢false a)
links_hand w (part.BuiltinKey site is_static position name ss scope) view x a r v st = absurd (true≢false a)
links_hand w (part.TargetKey site is_static base g scope) view x a r v st = absurd (true≢false a)
links_hand w (part.BuiltinTarget site) view x a r v st = absurd (true≢false a)
links_hand w (part.NameValue site name scope) view x a r v st = absurd (true≢false a)
links_hand w (part.PropertyValue site base name) view x a r v st = absurd (true≢false a)
links_hand w (part.CompoundName site op position name old scope) view x a r v st = absurd (true≢false a)
links_hand w (part.CompoundProperty site op position name base old) view x a r v st = absurd (true≢false a)
links_hand w (part.Declared name rest scope) view x a r v st = absurd (true≢false a)
links_hand w part.ExpressDone view x a r v st = absurd (true≢false a)
links_hand w (part.ArmTest arms alternate scope) view x a r v st = absurd (true≢false a)
links_hand w (part.WhileTest l) view x a r v st = absurd (true≢false a)
links_hand w (part.DoTest l) view x a r v st = absurd (true≢false a)
links_hand w (part.ForValue l) view x a r v st = absurd (true≢false a)
links_hand w (part.ForTest l scope) view x a r v st = absurd (true≢false a)
links_hand w (part.ForUpdate l scope) view x a r v st = absurd (true≢false a)
links_hand w (part.OfItems site name is_mutable body scope) view x a r v st = absurd (true≢false a)
links_hand w part.ReturnDone view x a r v st = absurd (true≢false a)
links_hand w (part.ThrowDone site) view x a r v st = absurd (true≢false a)

abbrev NotChain : Frame → Type 0
NotChain (frame.Chain ss scope) = ⊥
NotChain _ = Unit {0}

-- what stands there is no chain of suffixes: it waits for a value
idle_waits : (view : View) (w : Fuel) (f : Frame) (x : Completion) → acts f x ≡ false → NotChain f →
    (P : (Place → Ending → Outcome) → Type 0) → ((p : Part) → part_acts p x ≡ false → P (on_value (part_of view w p))) → P (frame_of view w f)
idle_waits view w (frame.Awaits p) x a n P h = h p a
idle_waits view w (frame.Chain ss scope) x a n P h = absurd n
idle_waits view w (frame.TargetBase access g scope) x a n P h = absurd (true≢false a)
idle_waits view w frame.Called x a n P h = absurd (true≢false a)
idle_waits view w (frame.WhileBody l) x a n P h = absurd (true≢false a)
idle_waits view w (frame.DoBody l) x a n P h = absurd (true≢false a)
idle_waits view w (frame.ForBody l scope) x a n P h = absurd (true≢false a)
idle_waits view w (frame.OfBody l next) x a n P h = absurd (true≢false a)
idle_waits view w (frame.Rest ss scope) x a n P h = absurd (true≢false a)
idle_waits view w (frame.ForDeclared l scope) x a n P h = absurd (true≢false a)
idle_waits view w (frame.Catching catch scope) x a n P h = absurd (true≢false a)
idle_waits view w (frame.Finishing finally scope) x a n P h = absurd (true≢false a)
idle_waits view w (frame.Kept completion) x a n P h = absurd (true≢false a)

-- a completion that is no value passes
pub idle_passes : (view : View) (w : Fuel) (f : Frame) (x y : Completion) (st : Place) → acts f x ≡ false → NotChain f →
    ((go : Value → Place → Outcome) → on_value go st (completion_at view x) ≡ done st (completion_at view y)) → frame_of view w f st (completion_at view x) ≡ done st (completion_at view y)
idle_passes view w f x y st a n h =
    idle_waits view w f x a n (λ go. go st (completion_at view x) ≡ done st (completion_at view y)) (λ p b. h (part_of view w p))

-- a value is that of the whole
pub idle_gives : (view : View) (w : Fuel) (f : Frame) (x : Completion) (v : Shadow) (st : Place) → acts f x ≡ false → NotChain f → is_result x ≡ true →
    ((go : Value → Place → Outcome) → on_value go st (completion_at view x) ≡ go (at view v) st) → frame_of view w f st (completion_at view x) ≡ done st (given (at view v))
idle_gives view w f x v st a n r h =
    idle_waits view w f x a n (λ go. go st (completion_at view x) ≡ done st (given (at view v)))
    (λ p b. h (part_of view w p) ∙ links_hand w p view x b r (at view v) st)

-- a chain with no suffix left refers to what it has come to
pub chain_refers : (w : Fuel) (ss : List (Suffix Expr)) (scope : Around) (x : Completion) (r : Referred) (st : Place) → (nat_lt 0 (length ss) && is_result x) ≡ false → is_result x ≡ true → on_chain w ss scope r st ≡ done st (refers r)
chain_refers w ss scope x r st a i = ap (λ l. on_chain w l scope r st) (no_link ss (is_result x) a i)

pub not_chain : (f : Frame) → ((ss : _) (scope : Around) → f ≡ frame.Chain ss scope → ⊥) → NotChain f
not_chain (frame.Chain ss scope) n = n ss scope refl
not_chain (frame.Awaits p) n = tt
not_chain (frame.TargetBase access g scope) n = tt
not_chain frame.Called n = tt
not_chain (frame.WhileBody l) n = tt
not_chain (frame.DoBody l) n = tt
not_chain (frame.ForBody l scope) n = tt
not_chain (frame.OfBody l next) n = tt
not_chain (frame.Rest ss scope) n = tt
not_chain (frame.ForDeclared l scope) n = tt
not_chain (frame.Catching catch scope) n = tt
not_chain (frame.Finishing finally scope) n = tt
not_chain (frame.Kept completion) n = tt

-- a completion that is neither value nor reference passes

value_passes : (view : View) (go : Value → Place → Outcome) (st : Place) (x : Completion) → is_result x ≡ false → on_value go st (completion_at view x) ≡ done st (completion_at view x)
value_passes view go st (c.Value s) n = absurd (true≢false n)
value_passes view go st (c.Refers r) n = absurd (true≢false n)
value_passes view go st c.Normal n = refl
value_passes view go st c.Break n = refl
value_passes view go st c.Continue n = refl
value_passes view go st (c.Return s) n = refl
value_passes view go st (c.Throw site s) n = refl
value_passes view go st (c.Stop e) n = refl

reference_passes : (view : View) (go : Referred → Place → Outcome) (st : Place) (x : Completion) → is_result x ≡ false → on_reference go st (completion_at view x) ≡ done st (completion_at view x)
reference_passes view go st (c.Value s) n = absurd (true≢false n)
reference_passes view go st (c.Refers r) n = absurd (true≢false n)
reference_passes view go st c.Normal n = refl
reference_passes view go st c.Break n = refl
reference_passes view go st c.Continue n = refl
reference_passes view go st (c.Return s) n = refl
reference_passes view go st (c.Throw site s) n = refl
reference_passes view go st (c.Stop e) n = refl

pub abrupt_passes : (view : View) (w : Fuel) (f : Frame) (x : Completion) (st : Place) → acts f x ≡ false → is_result x ≡ false → frame_of view w f st (completion_at view x) ≡ done st (completion_at view x)
abrupt_passes view w (frame.Awaits p) x st a n = value_passes view (part_of view w p) st x n
abrupt_passes view w (frame.Chain ss scope) x st a n = reference_passes view (on_chain w ss.now scope) st x n
abrupt_passes view w (frame.TargetBase access g scope) x st a n = absurd (true≢false a)
abrupt_passes view w frame.Called x st a n = absurd (true≢false a)
abrupt_passes view w (frame.WhileBody l) x st a n = absurd (true≢false a)
abrupt_passes view w (frame.DoBody l) x st a n = absurd (true≢false a)
abrupt_passes view w (frame.ForBody l scope) x st a n = absurd (true≢false a)
abrupt_passes view w (frame.OfBody l next) x st a n = absurd (true≢false a)
abrupt_passes view w (frame.Rest ss scope) x st a n = absurd (true≢false a)
abrupt_passes view w (frame.ForDeclared l scope) x st a n = absurd (true≢false a)
abrupt_passes view w (frame.Catching catch scope) x st a n = absurd (true≢false a)
abrupt_passes view w (frame.Finishing finally scope) x st a n = absurd (true≢false a)
abrupt_passes view w (frame.Kept completion) x st a n = absurd (true≢false a)

-- a stop costs nothing, and brings nothing

pub stop_free : (x : Completion) → IsStop x → cost_of_given x ≡ 0
stop_free (c.Stop e) s = refl
stop_free (c.Value v) s = absurd s
stop_free (c.Refers r) s = absurd s
stop_free c.Normal s = absurd s
stop_free c.Break s = absurd s
stop_free c.Continue s = absurd s
stop_free (c.Return v) s = absurd s
stop_free (c.Throw site v) s = absurd s

pub stop_poor : (x : Completion) → IsStop x → credit_of_given x ≡ 0
stop_poor (c.Stop e) s = refl
stop_poor (c.Value v) s = absurd s
stop_poor (c.Refers r) s = absurd s
stop_poor c.Normal s = refl
stop_poor c.Break s = refl
stop_poor c.Continue s = refl
stop_poor (c.Return v) s = refl
stop_poor (c.Throw site v) s = refl

-- a value or a reference costs 3, and brings 7

pub result_costs : (x : Completion) → is_result x ≡ true → cost_of_given x ≡ 3
result_costs (c.Value v) r = refl
result_costs (c.Refers v) r = refl
result_costs c.Normal r = absurd (true≢false (sym r))
result_costs c.Break r = absurd (true≢false (sym r))
result_costs c.Continue r = absurd (true≢false (sym r))
result_costs (c.Return v) r = absurd (true≢false (sym r))
result_costs (c.Throw site v) r = absurd (true≢false (sym r))
result_costs (c.Stop e) r = absurd (true≢false (sym r))

pub result_brings : (x : Completion) → is_result x ≡ true → credit_of_given x ≡ 7
result_brings (c.Value v) r = refl
result_brings (c.Refers v) r = refl
result_brings c.Normal r = absurd (true≢false (sym r))
result_brings c.Break r = absurd (true≢false (sym r))
result_brings c.Continue r = absurd (true≢false (sym r))
result_brings (c.Return v) r = absurd (true≢false (sym r))
result_brings (c.Throw site v) r = absurd (true≢false (sym r))
result_brings (c.Stop e) r = absurd (true≢false (sym r))
