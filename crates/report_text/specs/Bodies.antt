-- What stands under a line about a query, read line by line.
use Rattle.std.specs.Prelude.{ℕ, zero, suc, ◌==◌, List, [], ◌∷◌, codes, Option, Some, None, Result, Ok, Err, if◌then◌else◌}
use Rattle.js_units.specs.Reading.{many}
use Rattle.path_core.specs.declared.path.InputValue.{InputValue}
use Rattle.path_core.specs.declared.query.Query.{Query}
use Rattle.cnf_core.specs.declared.clauses.Cnf.{Cnf}
use Rattle.cnf_core.specs.declared.clauses.Derivation.{Derivation}
use Rattle.proof_text.specs.Counted.{one_then, line_at, ◌>>=◌}
use Rattle.proof_text.specs.BlockReading.{block_at}
use Rattle.report_text.specs.Terms.{term_at}
use Rattle.report_text.specs.Details.{input_line_at, number_line_at}
use Rattle.report_text.specs.declared.heads.Asked.{Asked}
use Rattle.report_text.specs.declared.heads.Asked.TheVariants as asked
use Rattle.report_text.specs.declared.report.Line.{Line}
use Rattle.report_text.specs.declared.report.Line.TheVariants as lines

abbrev pub some_block : Result ((Cnf × Derivation) × List ℕ) (List ℕ) → Result (Option (Cnf × Derivation) × List ℕ) (List ℕ)
some_block (Ok r) = Ok (Some r.0, r.1)
some_block (Err at) = Err at

-- a block, where a line begins as one does
unfoldable pub optional_at : List ℕ → Result (Option (Cnf × Derivation) × List ℕ) (List ℕ)
optional_at [] = Ok (None, [])
optional_at (b ∷ bs) = if b == 98 then some_block (block_at (b ∷ bs)) else Ok (None, b ∷ bs)

-- the lines of those that were tried
abbrev pub tried_lines_at : List ℕ → List (List (List ℕ × InputValue)) × List ℕ
tried_lines_at list = many (input_line_at (codes "tried")) list

-- so many terms, behind so many earlier ones
abbrev pub terms_at : ℕ → ℕ → List ℕ → Result (List (List ℕ) × List ℕ) (List ℕ)
terms_at earlier zero list = Ok ([], list)
terms_at earlier (suc count) list = one_then (term_at earlier list) list (terms_at (suc earlier) count)

-- ---- each kind

abbrev pub shut_at : Query → List ℕ → Result (Line × List ℕ) (List ℕ)
shut_at query list = do
  block ← optional_at list
  Ok (lines.Shut query block.0, block.1)

abbrev pub tried_at : Query → List ℕ → Result (Line × List ℕ) (List ℕ)
tried_at query list = do
  untried ← line_at (input_line_at (codes "untried") (tried_lines_at list).1) (tried_lines_at list).1
  Ok (lines.Tried query (tried_lines_at list).0 untried.0, untried.1)

abbrev pub stepped_at : Query → List ℕ → Result (Line × List ℕ) (List ℕ)
stepped_at query list = do
  block ← block_at list
  Ok (lines.Stepped query block.0.0 block.0.1, block.1)

abbrev pub wide_at : Query → List ℕ → Result (Line × List ℕ) (List ℕ)
wide_at query list = do
  cost ← line_at (number_line_at (codes "cost ") list) list
  count ← line_at (number_line_at (codes "terms ") cost.1) cost.1
  terms ← terms_at 0 count.0 count.1
  Ok (lines.Wide query cost.0 terms.0, terms.1)

abbrev pub unvisited_at : Query → List ℕ → Result (Line × List ℕ) (List ℕ)
unvisited_at query list = do
  input ← line_at (input_line_at (codes "beyond") list) list
  Ok (lines.Unvisited query input.0, input.1)

abbrev pub body_at : Asked → Query → List ℕ → Result (Line × List ℕ) (List ℕ)
body_at asked.Shut query list = shut_at query list
body_at asked.Tried query list = tried_at query list
body_at asked.Stepped query list = stepped_at query list
body_at asked.Wide query list = wide_at query list
body_at asked.Unvisited query list = unvisited_at query list
