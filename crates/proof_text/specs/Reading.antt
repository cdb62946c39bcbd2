-- Lines read from left to right.
use Rattle.std.specs.Prelude.{◌^◌, ◌-◌, ℕ, zero, suc, ℤ, pos, negsuc, List, codes, Option, Some, None}
use Rattle.js_units.specs.Reading.{many}
use Rattle.proof_text.specs.Numbers.{number_at, signed_at, not_zero}
use Rattle.proof_text.specs.Lines.{after, ◌>>=◌}
use Rattle.proof_text.specs.declared.reading.Sizes.{Sizes}
use Rattle.cnf_core.specs.declared.clauses.ProofStep.{ProofStep}

-- a literal of at most so many variables
abbrev pub named : Option (ℤ × List ℕ) → Option (ℤ × List ℕ)
named None = None
named (Some (pos zero, rest)) = None
named (Some (pos (suc n), rest)) = Some (pos (suc n), rest)
named (Some (negsuc n, rest)) = Some (negsuc n, rest)

unfoldable pub literal_at : ℕ → List ℕ → Option (ℤ × List ℕ)
literal_at variables list = do
  number ← after (codes " ") list
  named (signed_at variables variables number)

unfoldable pub hint_at : List ℕ → Option (ℕ × List ℕ)
hint_at list = do
  number ← after (codes " ") list
  not_zero (number_at (2 ^ 64 - 1) number)

-- what stands in front, then this word
abbrev pub closing : {X : Type 0} → List ℕ → X × List ℕ → Option (X × List ℕ)
closing word read = do
  rest ← after word read.1
  Some (read.0, rest)

unfoldable pub clause_at : ℕ → List ℕ → Option (List ℤ × List ℕ)
clause_at variables list = do
  literals ← after (codes "c") list
  closing (codes " 0\n") (many (literal_at variables) literals)

unfoldable pub hints_at : List ℤ → List ℕ → Option (ProofStep × List ℕ)
hints_at clause list = do
  read ← closing (codes " 0\n") (many hint_at list)
  Some (record { clause = clause; hints = read.0 }, read.1)

unfoldable pub step_at : ℕ → List ℕ → Option (ProofStep × List ℕ)
step_at variables list = do
  literals ← after (codes "s") list
  read ← closing (codes " 0") (many (literal_at variables) literals)
  hints_at read.0 read.1

abbrev pub last_size : ℕ → ℕ → List ℕ → Option (Sizes × List ℕ)
last_size variables clauses list = do
  third ← after (codes " ") list
  steps ← number_at (2 ^ 64 - 1) third
  rest ← after (codes "\n") steps.1
  Some (record { variables = variables; clauses = clauses; steps = steps.0 }, rest)

unfoldable pub sizes_at : List ℕ → Option (Sizes × List ℕ)
sizes_at list = do
  first ← after (codes "block ") list
  variables ← number_at (2 ^ 62) first
  second ← after (codes " ") variables.1
  clauses ← number_at (2 ^ 64 - 1) second
  last_size variables.0 clauses.0 clauses.1
