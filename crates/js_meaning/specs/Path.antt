-- The path of an input: the events on the way of its run, and the end.
use Rattle.std.specs.Prelude.{ℕ, List, [], ◌∷◌}
use Rattle.path_core.specs.declared.bounds.Bounds.{Bounds}
use Rattle.path_core.specs.declared.bounds.Declared.{Declared}
use Rattle.path_core.specs.declared.path.InputValue.{InputValue}
use Rattle.path_core.specs.declared.path.InputValue.TheVariants as input
use Rattle.path_core.specs.declared.path.Event.{Event}
use Rattle.path_core.specs.declared.path.Thrown.{Thrown}
use Rattle.path_core.specs.declared.path.Thrown.TheVariants as thrown
use Rattle.path_core.specs.declared.path.End.{End}
use Rattle.path_core.specs.declared.path.End.TheVariants.{Done, Threw}
use Rattle.path_core.specs.declared.path.Path.{Path}
use Rattle.js_ast.specs.declared.statement.Script.{Script}
use Rattle.js_meaning.specs.Values.{Text, Value, int, text, object, Class, error, Object, Answers, Place}
use Rattle.js_meaning.specs.Running.{Item, passed, made, Completion, throws, stops, Outcome}
use Rattle.js_meaning.specs.Objects.{object_at}
use Rattle.js_meaning.specs.Meaning.{whole_of}

-- ---- the start

abbrev pub input_value : InputValue → Value
input_value (input.Int n) = int n
input_value (input.Text t) = text t

-- the names of the inputs, each with its value
abbrev pub inputs_of : List Declared → List InputValue → List (Text × Value)
inputs_of [] vs = []
inputs_of (d ∷ ds) [] = []
inputs_of (d ∷ ds) (v ∷ vs) = (d.name, input_value v) ∷ inputs_of ds vs

-- nothing done yet
abbrev pub start : Bounds → List InputValue → Answers → Place
start bounds values answers = record {
  run = record { inputs = inputs_of bounds.inputs values; turns = bounds.turns; answers = answers };
  cells = [];
  objects = [];
  events = 0;
  turns = bounds.turns;
  ended = 0;
  nodes = 0;
  joins = 0;
  execs = 0;
}

-- ---- the end

abbrev pub thrown_class : Class → Thrown
thrown_class (error name engine) = thrown.Named name
thrown_class _ = thrown.Value

-- an error by its name, any other value as such
abbrev pub thrown_of : Value → List Object → Thrown
thrown_of (object o) objects = thrown_class (object_at objects o).class
thrown_of _ objects = thrown.Value

-- the end of a run whose script ended so; nothing else leaves a script
abbrev pub end_of : Place → Completion → End
end_of st (throws site x) = Threw site (thrown_of x st.objects)
end_of st (stops end) = end
end_of st _ = Done

-- ---- paths

-- the events among the items
abbrev pub events_of : List Item → List Event
events_of [] = []
events_of (passed exit ∷ items) = events_of items
events_of (made event ∷ items) = event ∷ events_of items

-- what the script does on an input, with answers for its single execs
abbrev pub run_of : Script → Bounds → List InputValue → Answers → Outcome
run_of script bounds values answers = whole_of script.body (start bounds values answers)

abbrev pub path_by : Outcome → Path
path_by r = record { events = events_of r.0; end = end_of r.1.0 r.1.1 }

-- the path where single execs are answered so
abbrev pub answered_path : Script → Bounds → List InputValue → Answers → Path
answered_path script bounds values answers = path_by (run_of script bounds values answers)

-- the path of the input with these values
abbrev pub path_of : Script → Bounds → List InputValue → Path
path_of script bounds values = answered_path script bounds values []

-- the nodes that its run uses
abbrev pub steps_of : Script → Bounds → List InputValue → ℕ
steps_of script bounds values = (run_of script bounds values []).1.0.nodes

-- the joins of strings that it makes
abbrev pub joins_of : Script → Bounds → List InputValue → ℕ
joins_of script bounds values = (run_of script bounds values []).1.0.joins
