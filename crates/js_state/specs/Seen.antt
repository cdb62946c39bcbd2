-- A state as a view sees it.
use Rattle.std.specs.Prelude.{◌≡◌, ℕ, true, [], Option, Some, None, option_map, map, slice_get, unwrap_or, Result, Ok, Err}
use Rattle.term_table.specs.declared.shadow.Plain.{Plain}
use Rattle.term_table.specs.declared.shadow.Shadow.{Shadow}
use Rattle.term_table.specs.Views.{View, Values, at, plain_value}
use Rattle.js_meaning.specs.Values.{Text, Value, Binding, Object, Answers, Place}
use Rattle.js_meaning.specs.Path.{input_value}
use Rattle.js_meaning.specs.Running.{Reference as Referred, callee, intrinsic, static, method, Completion as Ending, given, refers, normal, breaks, continues, returns, throws, stops, Outcome, done}
use Rattle.js_state.specs.Builtins.{builtin_text, owner_of, key_of, method_text}
use Rattle.js_state.specs.Held.{this_of, Cell, Held, Contents}
use Rattle.js_state.specs.declared.held.Supplied.{Supplied}
use Rattle.js_state.specs.declared.completion.Reference.{Reference}
use Rattle.js_state.specs.declared.completion.Reference.TheVariants as ref
use Rattle.js_state.specs.declared.completion.Completion.{Completion}
use Rattle.js_state.specs.declared.completion.Completion.TheVariants as c

-- ---- places

abbrev pub binding_at : View → Cell → Binding
binding_at view c = record { name = c.name; is_mutable = c.is_mutable; outer = c.outer; value = option_map (at view) c.value }

abbrev pub property_at : View → Text × Shadow → Text × Value
property_at view p = (p.0, at view p.1)

abbrev pub object_at : View → Held → Object
object_at view o =
    record { class = o.class; properties = map (property_at view) o.properties; items = map (at view) o.items }

-- an input with a number is the view's input of that number, one without is its plain value
abbrev pub input_at : View → Plain → Option ℕ → Value
input_at None p k = plain_value p
input_at (Some v) p None = plain_value p
input_at (Some v) p (Some k) = unwrap_or (option_map input_value (slice_get v.input k)) (plain_value p)

abbrev pub supplied_at : View → Supplied → Text × Value
supplied_at view s = (s.name.now, input_at view s.value s.number)

abbrev pub answers_at : View → Answers
answers_at None = []
answers_at (Some v) = v.answers

-- where the run has come to (no exec is made so far)
abbrev pub place_of : View → Contents → Place
place_of view st = record {
  run = record { inputs = map (supplied_at view) st.inputs; turns = st.allowed; answers = answers_at view };
  cells = map (binding_at view) st.cells;
  objects = map (object_at view) st.objects;
  events = st.events;
  turns = st.turns;
  ended = st.ended;
  nodes = st.nodes;
  joins = st.joins;
  execs = 0;
}

-- ---- completions

abbrev pub reference_at : View → Reference → Referred
reference_at view (ref.Callee value this) = callee (at view value) (this_of this)
reference_at view (ref.Intrinsic site name) = intrinsic site (builtin_text name)
reference_at view (ref.Static site key) = static site (owner_of key) (key_of key)
reference_at view (ref.Method site base m) = method site (at view base) (method_text m)

abbrev pub completion_at : View → Completion → Ending
completion_at view (c.Value x) = given (at view x)
completion_at view (c.Refers r) = refers (reference_at view r)
completion_at view c.Normal = normal
completion_at view c.Break = breaks
completion_at view c.Continue = continues
completion_at view (c.Return x) = returns (at view x)
completion_at view (c.Throw site x) = throws site (at view x)
completion_at view (c.Stop end) = stops end

-- ---- views of a run

-- another input is seen only of a run that keeps all its moves
abbrev pub Agreeing : View → Contents → Type 0
Agreeing None st = Unit {0}
Agreeing (Some v) st = (st.keeps ≡ true) × Values st.table v

-- goes on with what was found, or ends so
abbrev pub MatchResult : {A B : Type 0} → View → (A → B) → Result A Completion → Place → (B → Place → Outcome) → Outcome
MatchResult view seen (Ok x) st go = go (seen x) st
MatchResult view seen (Err completion) st go = done st (completion_at view completion)
