-- What a run is made of: the items that it shows on its way, the place that it has come to, and how a part ended.
use Rattle.std.specs.Prelude.{ℕ, zero, suc, ◌+◌, ◌-◌, Bool, true, false, nat_lt, nat_le, length, if◌then◌else◌, List, [], ◌∷◌, ◌++◌, Option, Some, None, slice_get}
use Rattle.path_core.specs.declared.path.Event.{Event}
use Rattle.path_core.specs.declared.path.Event.TheVariants as event
use Rattle.path_core.specs.declared.path.ErrorName.{ErrorName}
use Rattle.path_core.specs.declared.path.Budget.TheVariants as budget
use Rattle.path_core.specs.declared.path.Why.{Why}
use Rattle.path_core.specs.declared.path.Why.TheVariants as why
use Rattle.path_core.specs.declared.path.End.{End}
use Rattle.path_core.specs.declared.path.End.TheVariants.{Done, Threw, Left, Cut}
use Rattle.re_ast.specs.declared.patterns.Pattern.{Pattern}
use Rattle.re_ast.specs.Execution.{Match, exec}
use Rattle.js_meaning.specs.Values.{Text, Value, object, undefined, Class, error, Object, Place}

-- ---- items, answers and completions

-- what shows on the way: a guard that held, with the end that it kept away, or an event
pub data Item : Type 0 where
  passed : End → Item
  made : Event → Item

-- what a name, a property or a chain of suffixes has come to (6.2.5, the Reference Record): a value that was read, with the
-- `this` of a call of it; a built-in name, at its site, which may be called or have a listed property read; such a property,
-- at its own site; a built-in method of a value, at its site. The last two may only be called
pub data Reference : Type 0 where
  callee : Value → Value → Reference
  intrinsic : ℕ → Text → Reference
  static : ℕ → Text → Text → Reference
  method : ℕ → Value → Text → Reference

-- what a row of operators, conversions or built-ins comes to
pub data Answer : Type 0 where
  gives : Value → Answer
  comes_to : Reference → Answer
  raises : ℕ → ErrorName → Answer
  ends : End → Answer

-- a row: items, and then its answer
abbrev pub Row : Type 0
Row = List Item × Answer

-- how a part of a script ended (6.2.4, the Completion Record): an expression with a value or a reference, a statement;
-- or with which end the whole run stopped there. A throw has its site
pub data Completion : Type 0 where
  given : Value → Completion
  refers : Reference → Completion
  normal : Completion
  breaks : Completion
  continues : Completion
  returns : Value → Completion
  throws : ℕ → Value → Completion
  stops : End → Completion

-- the items that were shown, and then the place and the completion
abbrev pub Outcome : Type 0
Outcome = List Item × (Place × Completion)

-- nothing is shown
abbrev pub done : Place → Completion → Outcome
done st c = ([], (st, c))

abbrev pub after : List Item → Outcome → Outcome
after items r = (items ++ r.0, r.1)

-- one after the other
abbrev pub bind : Outcome → (Place → Completion → Outcome) → Outcome
bind r go = after r.0 (go r.1.0 r.1.1)

-- ---- limits (this project's own)

abbrev pub event_limit : ℕ
event_limit = 4096

abbrev pub node_limit : ℕ
node_limit = 50000000

-- units of a string
abbrev pub text_limit : ℕ
text_limit = 65536

-- items of an array, and own keys of an object
abbrev pub entry_limit : ℕ
entry_limit = 65536

abbrev pub object_limit : ℕ
object_limit = 1000000

abbrev pub binding_limit : ℕ
binding_limit = 1000000

-- ---- ends

-- an end outside the profile, before the run puts in its turns and the activations that ended since the last
abbrev pub leaving : ℕ → Why → End
leaving site why = Left site why 0 0

abbrev pub stamp : ℕ → ℕ → End → End
stamp turns ended (Left site why t n) = Left site why turns ended
stamp turns ended Done = Done
stamp turns ended (Threw site what) = Threw site what
stamp turns ended (Cut site what) = Cut site what

-- the turns taken
abbrev pub taken : Place → ℕ
taken st = st.run.turns - st.turns

abbrev pub stamped : Place → End → End
stamped st end = stamp (taken st) st.ended end

-- the run leaves the profile, by what its path decides
abbrev pub leaves : ℕ → Why → Place → Outcome
leaves site why st = done st (stops (stamped st (leaving site why)))

-- ---- budgets

-- one node, at a site
unfoldable pub count : ℕ → Place → (Place → Outcome) → Outcome
count site st go =
    if nat_lt st.nodes node_limit then go (record st { nodes = st.nodes + 1 })
    else done st (stops (Cut site budget.Nodes))

abbrev pub turn_of : ℕ → ℕ → Place → (Place → Outcome) → Outcome
turn_of zero site st go = done st (stops (Cut site budget.Turns))
turn_of (suc left) site st go = go (record st { turns = left; ended = 0 })

-- one turn, of a loop or of a call
unfoldable pub turn : ℕ → Place → (Place → Outcome) → Outcome
turn site st go = turn_of st.turns site st go

-- ---- objects and throws

abbrev pub with_object : Object → Place → Place
with_object o st = record st { objects = st.objects ++ o ∷ [] }

-- a new object of a class, with nothing in it, and its number
unfoldable pub new_object : ℕ → Class → Place → (ℕ → Place → Outcome) → Outcome
new_object site class st go =
    if nat_lt (length st.objects) object_limit
    then go (length st.objects) (with_object (record { class = class; properties = []; items = [] }) st)
    else leaves site why.Size st

-- ThrowCompletion (6.2.4.2)
abbrev pub throw : ℕ → Value → Place → Outcome
throw site value st = done st (throws site value)

-- the engine throws an error (5.2.3.2), which is an object like any other
abbrev pub throw_error : ℕ → ErrorName → Place → Outcome
throw_error site name st = new_object site (error name true) st (λ o. throw site (object o))

-- ---- single execs of patterns (22.2.7.2, RegExpBuiltinExec)

abbrev pub answered : Option (Option (Option Match)) → Option Match → Option Match
answered (Some (Some m)) standard = m
answered (Some None) standard = standard
answered None standard = standard

-- the standard's match (22.2.7.2, RegExpBuiltinExec): none from a place behind the text
abbrev pub match_from : Pattern → Text → ℕ → Option Match
match_from p t from = if nat_le from (length t) then exec p t from else None

-- the next exec of a run, of a pattern on a text from a place on: by the answer that stands for it, else by the standard
abbrev pub next_exec : Place → Pattern → Text → ℕ → Option Match
next_exec st p t from = answered (slice_get st.run.answers st.execs) (match_from p t from)

-- ---- rows are played

abbrev pub site_of_event : Event → ℕ
site_of_event (event.Pick site kind out ways) = site
site_of_event (event.Value site text) = site

-- what a row came to, at a place
abbrev pub answer : Answer → Place → Outcome
answer (gives value) st = done st (given value)
answer (comes_to r) st = done st (refers r)
answer (raises site name) st = throw_error site name st
answer (ends end) st = done st (stops (stamped st end))

-- its items first, as long as events are left; ends outside the profile get their numbers
abbrev pub play_items : List Item → Answer → Place → Outcome
play_items [] a st = answer a st
play_items (passed exit ∷ items) a st = after (passed (stamped st exit) ∷ []) (play_items items a st)
play_items (made e ∷ items) a st =
    if nat_lt st.events event_limit
    then after (made e ∷ []) (play_items items a (record st { events = st.events + 1 }))
    else done st (stops (Cut (site_of_event e) budget.Events))

abbrev pub play : Row → Place → Outcome
play row st = play_items row.0 row.1 st

-- ---- what goes on behind a completion

-- a built-in name or method that is used otherwise than by a call leaves the profile
abbrev pub get_value : (Value → Place → Outcome) → Reference → Place → Outcome
get_value go (callee value this) st = go value st
get_value go (intrinsic site name) st = leaves site why.Builtin st
get_value go (static site name key) st = leaves site why.Builtin st
get_value go (method site base name) st = leaves site why.Builtin st

-- with the value of an expression (6.2.5.5, GetValue)
abbrev pub on_value : (Value → Place → Outcome) → Place → Completion → Outcome
on_value go st (given value) = go value st
on_value go st (refers r) = get_value go r st
on_value go st c = done st c

-- the value itself, which has no `this` any more
abbrev pub its_value : Place → Completion → Outcome
its_value = on_value (λ value st. done st (given value))

-- with what an expression refers to; a value has no `this`
abbrev pub on_reference : (Reference → Place → Outcome) → Place → Completion → Outcome
on_reference go st (given value) = go (callee value undefined) st
on_reference go st (refers r) = go r st
on_reference go st c = done st c

-- behind a statement
abbrev pub on_normal : (Place → Outcome) → Place → Completion → Outcome
on_normal go st normal = go st
on_normal go st c = done st c

-- ---- guards and tests

-- a guard, whose exit is the end where it is false
abbrev pub guarded : Bool → ℕ → Why → Answer → Row
guarded true site why a = (passed (leaving site why) ∷ [], a)
guarded false site why a = ([], ends (leaving site why))

-- no item: a value, or an end that the path decides
abbrev pub giving : Value → Row
giving value = ([], gives value)

abbrev pub ending : ℕ → Why → Row
ending site why = ([], ends (leaving site why))
