-- Reports that have one spelling. The lines of paths come first, at least one, and then the others.
use Rattle.std.specs.Prelude.{◌≡◌, ◌<◌, ◌^◌, ℕ, List, [], ◌∷◌, length, Bool, true, false}
use Rattle.path_core.specs.declared.path.InputValue.{InputValue}
use Rattle.path_core.specs.declared.path.Path.{Path}
use Rattle.proof_text.specs.Blocks.{IsSpelt}
use Rattle.report_text.specs.Lines.{IsBlockSpelt}
use Rattle.report_text.specs.Inputs.{IsItem}
use Rattle.report_text.specs.Events.{IsEvent}
use Rattle.report_text.specs.Endings.{IsEnd}
use Rattle.report_text.specs.Queries.{Each, IsQuery}
use Rattle.report_text.specs.Terms.{AreTerms}
use Rattle.report_text.specs.declared.heads.Stage.{Stage}
use Rattle.report_text.specs.declared.heads.Stage.TheVariants as stages
use Rattle.report_text.specs.declared.report.Line.{Line}
use Rattle.report_text.specs.declared.report.Line.TheVariants as lines
use Rattle.report_text.specs.declared.report.Report.{Report}

abbrev pub IsInput : List (List ℕ × InputValue) → Type 0
IsInput input = Each IsItem input

pub record IsPath (input : List (List ℕ × InputValue)) (path : Path) : Type 0 where
  pub input_spelt : IsInput input
  pub events : Each IsEvent path.events
  pub end : IsEnd path.end

pub record AreCosts (cost : ℕ) (terms : List (List ℕ)) : Type 0 where
  pub cost_short : cost < 2 ^ 64
  pub count_short : length terms < 2 ^ 64
  pub terms_spelt : AreTerms 0 terms

-- each part of it has one spelling
abbrev pub IsLineRead : Line → Type 0
IsLineRead (lines.Path input path) = IsPath input path
IsLineRead (lines.Shut query block) = IsQuery query × IsBlockSpelt block
IsLineRead (lines.Tried query tried untried) = IsQuery query × (Each IsInput tried × IsInput untried)
IsLineRead (lines.Stepped query cnf derivation) = IsQuery query × IsSpelt cnf derivation
IsLineRead (lines.Wide query cost terms) = IsQuery query × AreCosts cost terms
IsLineRead (lines.Unvisited query input) = IsQuery query × IsInput input

-- ---- the order of lines

abbrev pub is_path : Line → Bool
is_path (lines.Path input path) = true
is_path (lines.Shut query block) = false
is_path (lines.Tried query tried untried) = false
is_path (lines.Stepped query cnf derivation) = false
is_path (lines.Wide query cost terms) = false
is_path (lines.Unvisited query input) = false

-- a line of a path comes first of all, and none comes behind another line
abbrev pub may : Stage → Bool → Bool
may stages.Paths path = true
may stages.First path = path
may stages.Others true = false
may stages.Others false = true

abbrev pub behind_line : Bool → Stage
behind_line true = stages.Paths
behind_line false = stages.Others

-- what a stage of a report may go on with
abbrev pub AreLines : Stage → List Line → Type 0
AreLines stage [] = may stage false ≡ true
AreLines stage (line ∷ rest) = (may stage (is_path line) ≡ true) × (IsLineRead line × AreLines (behind_line (is_path line)) rest)

-- the report has its spelling, and it is the only one that is spelt so
abbrev pub IsReport : Report → Type 0
IsReport report = AreLines stages.First report.lines
