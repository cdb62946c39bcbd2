-- A search between two conflicts (this project's own).
use Rattle.std.specs.Prelude.{ℕ, ◌+◌, ◌<◌, ◌≤◌, List, ◌≡◌, length}
use Rattle.cnf_core.specs.declared.clauses.Cnf.{Cnf}
use Rattle.cnf_core.specs.declared.clauses.ProofStep.{ProofStep}
use Rattle.cnf_core.specs.Derivations.{StepsWithin, AllValid, AllFresh, known_with}
use Rattle.sat_core.specs.declared.watching.Watches.{Watches}
use Rattle.sat_core.specs.Endings.{derivation_of}
use Rattle.sat_core.specs.Trails.{Assigned}
use Rattle.sat_core.specs.States.{Stable, GuardedTo}

-- Every step is valid and new, and there are fewer than the budget. The entries before `head` were seen to.
pub record Searches (cnf : Cnf) (budget : ℕ) (steps : List ProofStep) (watches : Watches) (a : Assigned) (head : ℕ) : Type 0 where
  pub standing : Stable (known_with cnf steps) watches a
  pub guarded : GuardedTo (known_with cnf steps) watches a head
  pub low : head ≤ length a.entries
  pub valid : AllValid cnf (derivation_of steps)
  pub fresh : AllFresh cnf (derivation_of steps)
  pub within : StepsWithin cnf.variables steps
  pub same : a.variables ≡ cnf.variables
  pub few : length steps < budget

-- one more step was learnt
pub record Learns (cnf : Cnf) (old new : List ProofStep) (watches : Watches) (a : Assigned) (head : ℕ) : Type 0 where
  pub standing : Stable (known_with cnf new) watches a
  pub guarded : GuardedTo (known_with cnf new) watches a head
  pub low : head ≤ length a.entries
  pub valid : AllValid cnf (derivation_of old) → AllValid cnf (derivation_of new)
  pub fresh : AllFresh cnf (derivation_of old) → AllFresh cnf (derivation_of new)
  pub within : StepsWithin cnf.variables old → StepsWithin cnf.variables new
  pub same : a.variables ≡ cnf.variables
  pub more : length new ≡ length old + 1
