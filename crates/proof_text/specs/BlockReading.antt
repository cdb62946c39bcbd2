-- Blocks read line by line.
use Rattle.std.specs.Prelude.{ℕ, List, Result, Ok}
use Rattle.cnf_core.specs.declared.clauses.Cnf.{Cnf}
use Rattle.cnf_core.specs.declared.clauses.Derivation.{Derivation}
use Rattle.proof_text.specs.declared.reading.Sizes.{Sizes}
use Rattle.proof_text.specs.Counted.{times, line_at, ◌>>=◌}
use Rattle.proof_text.specs.Reading.{clause_at, step_at, sizes_at}

abbrev pub body_at : Sizes → List ℕ → Result ((Cnf × Derivation) × List ℕ) (List ℕ)
body_at sizes list = do
  clauses ← times (clause_at sizes.variables) sizes.clauses list
  steps ← times (step_at sizes.variables) sizes.steps clauses.1
  Ok ((record { variables = sizes.variables; clauses = clauses.0 }, record { steps = steps.0 }), steps.1)

unfoldable pub block_at : List ℕ → Result ((Cnf × Derivation) × List ℕ) (List ℕ)
block_at list = do
  sizes ← line_at (sizes_at list) list
  body_at sizes.0 sizes.1
