-- Where a search ends (this project's own).
use Rattle.std.specs.Prelude.{ℕ, ◌≤◌, ◌^◌, List, ◌≡◌, length}
use Rattle.cnf_core.specs.declared.clauses.Cnf.{Cnf}
use Rattle.cnf_core.specs.declared.clauses.ProofStep.{ProofStep}
use Rattle.cnf_core.specs.declared.clauses.Derivation.{Derivation}
use Rattle.cnf_core.specs.Derivations.{StepsWithin, Refutes, AllValid, AllFresh, known_with}
use Rattle.sat_core.specs.declared.searching.Ending.{Ending}
use Rattle.sat_core.specs.declared.searching.Ending.TheVariants.{Total, Refuted, Spent}
use Rattle.sat_core.specs.Answers.{EndsEmpty}
use Rattle.sat_core.specs.Trails.{Assigned, is_false, IsTotal}
use Rattle.sat_core.specs.Rest.{IsRest}

-- the steps as a derivation
abbrev pub derivation_of : List ProofStep → Derivation
derivation_of steps = record { steps = steps }

-- each variable has a value, and no clause is false or has a unit
pub record IsFull (cnf : Cnf) (assigned : Assigned) (steps : List ProofStep) : Type 0 where
  pub variables : assigned.variables ≡ cnf.variables
  pub rest : IsRest (known_with cnf steps) (is_false assigned)
  pub total : IsTotal assigned

-- the steps refute the clauses
pub record IsRefuted (cnf : Cnf) (budget : ℕ) (steps : List ProofStep) : Type 0 where
  pub refutes : Refutes cnf (derivation_of steps)
  pub last : EndsEmpty (derivation_of steps)
  pub most : length steps ≤ budget
  pub within : StepsWithin cnf.variables steps

-- there are as many steps as the budget, which is below 3 to the power of the variables
pub record IsSpent (cnf : Cnf) (budget : ℕ) (steps : List ProofStep) : Type 0 where
  pub valid : AllValid cnf (derivation_of steps)
  pub fresh : AllFresh cnf (derivation_of steps)
  pub all : length steps ≡ budget
  pub within : StepsWithin cnf.variables steps
  pub few : 3 ^ cnf.variables ≤ budget → ⊥

abbrev pub IsEnding : Cnf → ℕ → Assigned → List ProofStep → Ending → Type 0
IsEnding cnf budget assigned steps Total = IsFull cnf assigned steps
IsEnding cnf budget assigned steps Refuted = IsRefuted cnf budget steps
IsEnding cnf budget assigned steps Spent = IsSpent cnf budget steps
