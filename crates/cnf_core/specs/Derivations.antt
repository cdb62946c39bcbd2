-- What a derivation shows (this project's own).
use Rattle.std.specs.Prelude.{ℕ, ◌≡◌, ◌≢◌, Bool, true, false, List, [], ◌++◌, map, take, All, ℤ, Some, slice_get}
use Rattle.cnf_core.specs.Literals.{Names}
use Rattle.cnf_core.specs.Validity.{is_valid, contains}
use Rattle.cnf_core.specs.declared.clauses.Cnf.{Cnf}
use Rattle.cnf_core.specs.declared.clauses.ProofStep.{ProofStep}
use Rattle.cnf_core.specs.declared.clauses.Derivation.{Derivation}

-- each literal of the clauses names one of the variables
abbrev pub IsWithin : Cnf → Type 0
IsWithin cnf = All (λ clause. All (Names cnf.variables) clause) cnf.clauses

-- each literal of the steps names a variable from 1 to `most`
abbrev pub StepsWithin : ℕ → List ProofStep → Type 0
StepsWithin most steps = All (λ step. All (Names most) step.clause) steps

-- the clauses, and those of these steps
abbrev pub known_with : Cnf → List ProofStep → List (List ℤ)
known_with cnf steps = cnf.clauses ++ map (λ step. step.clause) steps

-- what stands before the step of this number, counted from 0
abbrev pub known_before : Cnf → Derivation → ℕ → List (List ℤ)
known_before cnf derivation n = known_with cnf (take n derivation.steps)

-- the step of this number, counted from 0, is valid
abbrev pub is_valid_at : Cnf → Derivation → ℕ → ProofStep → Bool
is_valid_at cnf derivation n step = is_valid (known_before cnf derivation n) step.clause step.hints

-- every step is valid
abbrev pub AllValid : Cnf → Derivation → Type 0
AllValid cnf derivation = (n : ℕ) (step : ProofStep) → slice_get derivation.steps n ≡ Some step → is_valid_at cnf derivation n step ≡ true

-- a step is the empty clause
abbrev pub HasEmpty : Derivation → Type 0
HasEmpty derivation = (n : ℕ) × (step : ProofStep) × (slice_get derivation.steps n ≡ Some step) × (step.clause ≡ [])

-- every step is valid, and one is the empty clause
abbrev pub Refutes : Cnf → Derivation → Type 0
Refutes cnf derivation = AllValid cnf derivation × HasEmpty derivation

-- the clause isn't empty and contains none of these
abbrev pub IsFresh : List (List ℤ) → List ℤ → Type 0
IsFresh known clause = (clause ≢ []) × All (λ earlier. contains clause earlier ≡ false) known

-- no step is the empty clause, and none contains a clause that stands before it
abbrev pub AllFresh : Cnf → Derivation → Type 0
AllFresh cnf derivation = (n : ℕ) (step : ProofStep) → slice_get derivation.steps n ≡ Some step → IsFresh (known_before cnf derivation n) step.clause
