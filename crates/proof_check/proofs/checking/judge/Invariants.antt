use Rattle.std.proofs.Common.{◌≡◌, ◌<◌, ℕ, Some, slice_get, [], IsTrue}
use Rattle.cnf_core.specs.declared.clauses.ProofStep.{ProofStep}
use Rattle.proof_check.specs.Verdicts.{ValidBelow}
use Rattle.proof_check.proofs.checking.judge.Given as goal

abbrev pub invariant-loop-i : goal.invariant-loop-i
invariant-loop-i l = record {
  valid : ValidBelow l.cnf l.derivation l.i;
  found : IsTrue l.found → (k : ℕ) × (step : ProofStep) × (slice_get l.derivation.steps k ≡ Some step) × (step.clause ≡ []);
  none : (k : ℕ) (step : ProofStep) → k < l.i → slice_get l.derivation.steps k ≡ Some step → step.clause ≡ [] → IsTrue l.found;
  same : l.marks.variables ≡ l.initial.marks.variables;
}
