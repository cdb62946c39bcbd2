-- The first line of what a report says, read from left to right.
use Rattle.std.specs.Prelude.{◌≡◌, ℕ, List, codes, Option, Some, None, Bool, true, false, map}
use Rattle.js_units.specs.Reading.{many}
use Rattle.path_core.specs.declared.path.InputValue.{InputValue}
use Rattle.path_core.specs.declared.path.Event.{Event}
use Rattle.path_core.specs.declared.path.Path.{Path}
use Rattle.proof_text.specs.Lines.{after, ◌>>=◌}
use Rattle.report_text.specs.Lines.{path_text, head_text, last_text}
use Rattle.report_text.specs.Parts.{one_of}
use Rattle.report_text.specs.Inputs.{item_at}
use Rattle.report_text.specs.Events.{event_at}
use Rattle.report_text.specs.Endings.{end_at}
use Rattle.report_text.specs.Queries.{IsQuery, query_at}
use Rattle.report_text.specs.Reports.{IsPath, may}
use Rattle.report_text.specs.declared.heads.Stage.{Stage}
use Rattle.report_text.specs.declared.heads.Asked.{Asked}
use Rattle.report_text.specs.declared.heads.Asked.TheVariants as asked
use Rattle.report_text.specs.declared.heads.Opening.{Opening}
use Rattle.report_text.specs.declared.heads.Opening.TheVariants as openings
use Rattle.report_text.specs.declared.heads.Head.{Head}
use Rattle.report_text.specs.declared.heads.Head.TheVariants as heads
use Rattle.report_text.specs.declared.heads.TheConstants.{OPENINGS}

-- ---- words

abbrev pub asked_text : Asked → List ℕ
asked_text asked.Shut = codes "infeasible"
asked_text asked.Tried = codes "unknown candidates"
asked_text asked.Stepped = codes "unknown steps"
asked_text asked.Wide = codes "unknown width"
asked_text asked.Unvisited = codes "open"

abbrev pub last_word : Bool → List ℕ
last_word true = codes "complete"
last_word false = codes "incomplete"

abbrev pub opening_text : Opening → List ℕ
opening_text openings.Path = codes "path"
opening_text (openings.Asked a) = asked_text a
opening_text (openings.Last complete) = last_word complete

unfoldable pub openings_told : List (List ℕ × Opening)
openings_told = map (λ e. (e.0.now, e.1)) OPENINGS

abbrev pub opens_path : Opening → Bool
opens_path openings.Path = true
opens_path (openings.Asked a) = false
opens_path (openings.Last complete) = false

-- ---- lines

abbrev pub line_of_head : Head → List ℕ
line_of_head (heads.Path input path) = path_text input path
line_of_head (heads.Asked a query) = head_text (asked_text a) query
line_of_head (heads.Last complete) = last_text complete

abbrev pub IsHead : Stage → Head → Type 0
IsHead stage (heads.Path input path) = (may stage true ≡ true) × IsPath input path
IsHead stage (heads.Asked a query) = (may stage false ≡ true) × IsQuery query
IsHead stage (heads.Last complete) = may stage false ≡ true

-- ---- read from left to right

abbrev pub path_end_at : List Event → List ℕ → Option (Path × List ℕ)
path_end_at events list = do
  start ← after (codes " | ") list
  end ← end_at start
  rest ← after (codes "\n") end.1
  Some (record { events = events; end = end.0 }, rest)

unfoldable pub path_at : List ℕ → Option (Path × List ℕ)
path_at list = path_end_at (many event_at list).0 (many event_at list).1

abbrev pub path_behind_at : List (List ℕ × InputValue) → List ℕ → Option (Head × List ℕ)
path_behind_at input list = do
  start ← after (codes " |") list
  path ← path_at start
  Some (heads.Path input path.0, path.1)

unfoldable pub path_head_at : List ℕ → Option (Head × List ℕ)
path_head_at list = path_behind_at (many item_at list).0 (many item_at list).1

abbrev pub asked_head_at : Asked → List ℕ → Option (Head × List ℕ)
asked_head_at a list = do
  query ← query_at list
  rest ← after (codes "\n") query.1
  Some (heads.Asked a query.0, rest)

abbrev pub last_head_at : Bool → List ℕ → Option (Head × List ℕ)
last_head_at complete list = do
  rest ← after (codes "\n") list
  Some (heads.Last complete, rest)

abbrev pub opened_at : Opening → List ℕ → Option (Head × List ℕ)
opened_at openings.Path list = path_head_at list
opened_at (openings.Asked a) list = asked_head_at a list
opened_at (openings.Last complete) list = last_head_at complete list

abbrev pub allowed_at : Bool → Opening → List ℕ → Option (Head × List ℕ)
allowed_at true opening list = opened_at opening list
allowed_at false opening list = None

unfoldable pub head_at : Stage → List ℕ → Option (Head × List ℕ)
head_at stage list = do
  opening ← one_of openings_told list
  allowed_at (may stage (opens_path opening.0)) opening.0 opening.1
