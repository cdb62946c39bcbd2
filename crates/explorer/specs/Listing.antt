-- Which report lists the paths of a script.
use Rattle.std.specs.Prelude.{◌≡◌, ◌≢◌, ℕ, true, List, [], ◌∷◌, ◌++◌, map, All, AllPairs, Contains, Option, Some, None}
use Rattle.path_core.specs.declared.bounds.Bounds.{Bounds}
use Rattle.path_core.specs.declared.bounds.Declared.{Declared}
use Rattle.path_core.specs.declared.path.InputValue.{InputValue}
use Rattle.path_core.specs.declared.path.Path.{Path}
use Rattle.path_core.specs.Inputs.{Values, within}
use Rattle.js_ast.specs.declared.statement.Script.{Script}
use Rattle.js_meaning.specs.Path.{path_of}
use Rattle.report_text.specs.declared.report.Line.{Line}
use Rattle.report_text.specs.declared.report.Line.TheVariants as lines
use Rattle.report_text.specs.declared.report.Report.{Report}

-- the most inputs that are listed
abbrev pub max_inputs : ℕ
max_inputs = 65536

-- each value beside the name of its input
abbrev pub named : List Declared → Values → List (List ℕ × InputValue)
named [] vs = []
named (d ∷ ds) [] = []
named (d ∷ ds) (v ∷ vs) = (d.name, v) ∷ named ds vs

-- the line of an input
abbrev pub line_of : Script → Bounds → Values → Line
line_of script bounds values = lines.Path (named bounds.inputs values) (path_of script bounds values)

-- the lines of all inputs, in the order of these inputs
abbrev pub all_lines : Script → Bounds → List Line
all_lines script bounds = map (line_of script bounds) (within bounds.inputs)

-- the path of a path line; any other line has none
abbrev pub line_path : Line → Option Path
line_path (lines.Path input path) = Some path
line_path (lines.Shut query block) = None
line_path (lines.Tried query tried untried) = None
line_path (lines.Stepped query cnf derivation) = None
line_path (lines.Wide query cost terms) = None
line_path (lines.Unvisited query input) = None

-- no line before it has its path
abbrev pub IsFirst : List Line → Line → Type 0
IsFirst all l = (before after : List Line) × (all ≡ before ++ l ∷ after) × All (λ m. line_path m ≢ line_path l) before

-- the one stands before the other
abbrev pub Precedes : List Line → Line → Line → Type 0
Precedes all l m = (before between after : List Line) × (all ≡ before ++ l ∷ between ++ m ∷ after)

-- each different path once, with the first line that has it, in the order of the lines
pub record Picks (all picked : List Line) : Type 0 where
  pub every : All (λ l. Contains (map line_path picked) (line_path l)) all
  pub once : AllPairs (λ l m. line_path l ≢ line_path m) picked
  pub first : All (IsFirst all) picked
  pub order : AllPairs (Precedes all) picked

-- The report has each different path of an input within bounds, once, with the first input that has it, in the order
-- of these inputs, and then says that it is complete.
pub record IsListed (script : Script) (bounds : Bounds) (report : Report) : Type 0 where
  pub lines : Picks (all_lines script bounds) report.lines
  pub complete : report.complete ≡ true
