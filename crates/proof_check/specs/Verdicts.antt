-- What each verdict says (this project's own).
use Rattle.std.specs.Prelude.{ℕ, ◌+◌, ◌<◌, ◌≡◌, true, false, Some, slice_get}
use Rattle.cnf_core.specs.declared.clauses.Cnf.{Cnf}
use Rattle.cnf_core.specs.declared.clauses.ProofStep.{ProofStep}
use Rattle.cnf_core.specs.declared.clauses.Derivation.{Derivation}
use Rattle.cnf_core.specs.Derivations.{is_valid_at, AllValid, HasEmpty, Refutes}
use Rattle.proof_check.specs.declared.checking.Verdict.{Verdict}
use Rattle.proof_check.specs.declared.checking.Verdict.TheVariants.{Yes, BadStep, NoEmpty}

-- the first n steps are valid
abbrev pub ValidBelow : Cnf → Derivation → ℕ → Type 0
ValidBelow cnf derivation n = (k : ℕ) (step : ProofStep) → k < n → slice_get derivation.steps k ≡ Some step → is_valid_at cnf derivation k step ≡ true

-- the step of this number, counted from 1, is the first that isn't valid
abbrev pub IsFirstInvalid : Cnf → Derivation → ℕ → Type 0
IsFirstInvalid cnf derivation number =
    (k : ℕ) × (step : ProofStep) × (number ≡ k + 1) × (slice_get derivation.steps k ≡ Some step) × (is_valid_at cnf derivation k step ≡ false) × ValidBelow cnf derivation k

-- every step is valid, and none is the empty clause
abbrev pub HoldsWithoutEmpty : Cnf → Derivation → Type 0
HoldsWithoutEmpty cnf derivation = AllValid cnf derivation × (HasEmpty derivation → ⊥)

abbrev pub IsVerdict : Cnf → Derivation → Verdict → Type 0
IsVerdict cnf derivation Yes = Refutes cnf derivation
IsVerdict cnf derivation (BadStep number) = IsFirstInvalid cnf derivation number
IsVerdict cnf derivation NoEmpty = HoldsWithoutEmpty cnf derivation

abbrev pub IsYes : Verdict → Type 0
IsYes Yes = Unit {0}
IsYes (BadStep number) = ⊥
IsYes NoEmpty = ⊥

abbrev pub IsNoEmpty : Verdict → Type 0
IsNoEmpty Yes = ⊥
IsNoEmpty (BadStep number) = ⊥
IsNoEmpty NoEmpty = Unit {0}
