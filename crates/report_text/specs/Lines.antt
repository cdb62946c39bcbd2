-- The text of a report: ASCII lines, each ended by U+000A. One report has one spelling.
use Rattle.std.specs.Prelude.{◌≡◌, nat_lt, ◌==◌, ℕ, List, [], ◌∷◌, ◌++◌, map, length, Option, Some, None, codes, decimal, Bool, true, false, if◌then◌else◌}
use Rattle.std.specs.List.{flat_map, list_all}
use Rattle.std.specs.Fmt.{signed_decimal}
use Rattle.js_units.specs.Quoted.{quoted}
use Rattle.path_core.specs.declared.path.InputValue.{InputValue}
use Rattle.path_core.specs.declared.path.InputValue.TheVariants as values
use Rattle.path_core.specs.declared.path.Event.{Event}
use Rattle.path_core.specs.declared.path.Event.TheVariants as events
use Rattle.path_core.specs.declared.path.PickKind.{PickKind}
use Rattle.path_core.specs.declared.path.PickKind.TheVariants as kinds
use Rattle.path_core.specs.declared.path.ErrorName.{ErrorName}
use Rattle.path_core.specs.declared.path.ErrorName.TheVariants as errors
use Rattle.path_core.specs.declared.path.Thrown.{Thrown}
use Rattle.path_core.specs.declared.path.Thrown.TheVariants as thrown
use Rattle.path_core.specs.declared.path.Why.{Why}
use Rattle.path_core.specs.declared.path.Why.TheVariants as why
use Rattle.path_core.specs.declared.path.Budget.{Budget}
use Rattle.path_core.specs.declared.path.Budget.TheVariants as budget
use Rattle.path_core.specs.declared.path.End.{End}
use Rattle.path_core.specs.declared.path.End.TheVariants as ends
use Rattle.path_core.specs.declared.path.Path.{Path}
use Rattle.path_core.specs.declared.path.Child.{Child}
use Rattle.path_core.specs.declared.path.Child.TheVariants as children
use Rattle.path_core.specs.declared.query.Query.{Query}
use Rattle.cnf_core.specs.declared.clauses.Cnf.{Cnf}
use Rattle.cnf_core.specs.declared.clauses.Derivation.{Derivation}
use Rattle.proof_text.specs.Blocks.{block_text, IsSpelt}
use Rattle.report_text.specs.declared.report.Line.{Line}
use Rattle.report_text.specs.declared.report.Line.TheVariants as lines
use Rattle.report_text.specs.declared.report.Report.{Report}

-- a number in decimal, or a text between quotes
abbrev pub value_text : InputValue → List ℕ
value_text (values.Int n) = signed_decimal n
value_text (values.Text units) = quoted units

-- SP name = value
unfoldable pub item_text : List ℕ × InputValue → List ℕ
item_text i = codes " " ++ i.0 ++ codes "=" ++ value_text i.1

abbrev pub letter : PickKind → List ℕ
letter kinds.Branch = codes "b"
letter kinds.Place = codes "i"
letter kinds.Number = codes "p"
letter kinds.Match = codes "m"
letter kinds.Group = codes "g"
letter kinds.Found = codes "f"
letter kinds.Key = codes "k"
letter kinds.Clamp = codes "c"

-- the number of ways, where a kind hasn't always two
abbrev pub ways_text : PickKind → ℕ → List ℕ
ways_text kinds.Key ways = codes "/" ++ decimal ways
ways_text kinds.Clamp ways = codes "/" ++ decimal ways
ways_text _ ways = []

-- SP letter site = outcome
unfoldable pub event_text : Event → List ℕ
event_text (events.Pick site kind out ways) = codes " " ++ letter kind ++ decimal site ++ codes "=" ++ decimal out ++ ways_text kind ways
event_text (events.Value site units) = codes " v" ++ decimal site ++ codes "=" ++ quoted units

abbrev pub error_text : ErrorName → List ℕ
error_text errors.Error = codes "Error"
error_text errors.TypeError = codes "TypeError"
error_text errors.RangeError = codes "RangeError"
error_text errors.ReferenceError = codes "ReferenceError"

abbrev pub thrown_text : Thrown → List ℕ
thrown_text thrown.Value = codes "value"
thrown_text (thrown.Named name) = error_text name

abbrev pub why_text : Why → List ℕ
why_text why.Range = codes "range"
why_text why.Divide = codes "divide"
why_text why.Convert = codes "convert"
why_text why.Inherited = codes "inherited"
why_text why.Message = codes "message"
why_text why.Unicode = codes "unicode"
why_text why.Template = codes "template"
why_text why.Size = codes "size"
why_text why.Key = codes "key"
why_text why.Set = codes "set"
why_text why.Builtin = codes "builtin"
why_text why.Name = codes "name"
why_text why.Iterate = codes "iterate"
why_text why.New = codes "new"

abbrev pub budget_text : Budget → List ℕ
budget_text budget.Turns = codes "turns"
budget_text budget.Events = codes "events"
budget_text budget.Nodes = codes "nodes"

abbrev pub ended_text : ℕ → List ℕ
ended_text ended = if ended == 0 then [] else codes "+" ++ decimal ended

-- the turns, where they aren't 0, and behind them the ended activations, where they aren't 0
abbrev pub turns_text : ℕ → ℕ → List ℕ
turns_text turns ended = if turns == 0 then [] else codes "+" ++ decimal turns ++ ended_text ended

unfoldable pub end_text : End → List ℕ
end_text ends.Done = codes "done"
end_text (ends.Threw site what) = codes "threw:" ++ thrown_text what ++ codes "@" ++ decimal site
end_text (ends.Left site w turns ended) = codes "left:" ++ why_text w ++ codes "@" ++ decimal site ++ turns_text turns ended
end_text (ends.Cut site b) = codes "cut:" ++ budget_text b ++ codes "@" ++ decimal site

-- SP and an event or an end
abbrev pub child_text : Child → List ℕ
child_text (children.Event event) = event_text event
child_text (children.End end) = codes " " ++ end_text end

-- the events of the prefix, and each child
unfoldable pub query_text : Query → List ℕ
query_text query = flat_map event_text query.prefix ++ codes " |" ++ flat_map child_text query.children

abbrev pub input_text : List (List ℕ × InputValue) → List ℕ
input_text input = flat_map item_text input

-- the block under an infeasible line, where there is one
abbrev pub shown_block : Option (Cnf × Derivation) → List ℕ
shown_block None = []
shown_block (Some b) = block_text b.0 b.1

abbrev pub tried_text : List (List ℕ × InputValue) → List ℕ
tried_text input = codes "tried" ++ input_text input ++ codes "\n"

abbrev pub term_text : List ℕ → List ℕ
term_text term = term ++ codes "\n"

abbrev pub path_text : List (List ℕ × InputValue) → Path → List ℕ
path_text input path = codes "path" ++ input_text input ++ codes " |" ++ flat_map event_text path.events ++ codes " | " ++ end_text path.end ++ codes "\n"

-- the first line of what is said about a query
unfoldable pub head_text : List ℕ → Query → List ℕ
head_text word query = word ++ query_text query ++ codes "\n"

-- the inputs that were tried, and one that wasn't
unfoldable pub candidates_text : List (List (List ℕ × InputValue)) → List (List ℕ × InputValue) → List ℕ
candidates_text tried untried = flat_map tried_text tried ++ codes "untried" ++ input_text untried ++ codes "\n"

-- a cost and terms
unfoldable pub costs_text : ℕ → List (List ℕ) → List ℕ
costs_text cost terms = codes "cost " ++ decimal cost ++ codes "\nterms " ++ decimal (length terms) ++ codes "\n" ++ flat_map term_text terms

unfoldable pub beyond_text : List (List ℕ × InputValue) → List ℕ
beyond_text input = codes "beyond" ++ input_text input ++ codes "\n"

-- what a line says, with the lines that belong to it
unfoldable pub line_text : Line → List ℕ
line_text (lines.Path input path) = path_text input path
line_text (lines.Shut query block) = head_text (codes "infeasible") query ++ shown_block block
line_text (lines.Tried query tried untried) = head_text (codes "unknown candidates") query ++ candidates_text tried untried
line_text (lines.Stepped query cnf derivation) = head_text (codes "unknown steps") query ++ block_text cnf derivation
line_text (lines.Wide query cost terms) = head_text (codes "unknown width") query ++ costs_text cost terms
line_text (lines.Unvisited query input) = head_text (codes "open") query ++ beyond_text input

abbrev pub last_text : Bool → List ℕ
last_text true = codes "complete\n"
last_text false = codes "incomplete\n"

unfoldable pub report_text : Report → List ℕ
report_text r = codes "expose 1\n" ++ flat_map line_text r.lines ++ last_text r.complete

-- ---- what has a spelling: names are ASCII

abbrev pub is_ascii : ℕ → Bool
is_ascii unit = nat_lt unit 128

abbrev pub is_item_spelt : List ℕ × InputValue → Bool
is_item_spelt i = list_all is_ascii i.0

abbrev pub are_items_spelt : List (List ℕ × InputValue) → Bool
are_items_spelt input = list_all is_item_spelt input

abbrev pub IsBlockSpelt : Option (Cnf × Derivation) → Type 0
IsBlockSpelt None = Unit {0}
IsBlockSpelt (Some b) = IsSpelt b.0 b.1

-- its names are ASCII, and its block has a spelling
abbrev pub IsLineSpelt : Line → Type 0
IsLineSpelt (lines.Path input path) = are_items_spelt input ≡ true
IsLineSpelt (lines.Shut query block) = IsBlockSpelt block
IsLineSpelt (lines.Tried query tried untried) = (list_all are_items_spelt tried ≡ true) × (are_items_spelt untried ≡ true)
IsLineSpelt (lines.Stepped query cnf derivation) = IsSpelt cnf derivation
IsLineSpelt (lines.Wide query cost terms) = Unit {0}
IsLineSpelt (lines.Unvisited query input) = are_items_spelt input ≡ true

abbrev pub AreSpelt : List Line → Type 0
AreSpelt [] = Unit {0}
AreSpelt (line ∷ rest) = IsLineSpelt line × AreSpelt rest

-- ---- a report whose infeasible lines show no block

abbrev pub shown : Bool → Line → Line
shown blocks (lines.Path input path) = lines.Path input path
shown blocks (lines.Shut query block) = lines.Shut query (if blocks then block else None)
shown blocks (lines.Tried query tried untried) = lines.Tried query tried untried
shown blocks (lines.Stepped query cnf derivation) = lines.Stepped query cnf derivation
shown blocks (lines.Wide query cost terms) = lines.Wide query cost terms
shown blocks (lines.Unvisited query input) = lines.Unvisited query input

abbrev pub shown_report : Bool → Report → Report
shown_report blocks report = record { lines = map (shown blocks) report.lines; complete = report.complete }

-- the text with its blocks, or without those under infeasible lines
abbrev pub written : Bool → Report → List ℕ
written true report = report_text report
written false report = report_text (shown_report false report)
