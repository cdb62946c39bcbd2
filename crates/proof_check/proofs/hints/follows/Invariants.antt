use Rattle.std.proofs.Common.{◌≡◌, length}
use Rattle.cnf_core.specs.Validity.{leads}
use Rattle.proof_check.specs.Marking.{is_false}
use Rattle.cnf_core.specs.Derivations.{known_with}
use Rattle.proof_check.proofs.hints.follows.Given as goal

abbrev pub invariant-loop-left : goal.invariant-loop-left
invariant-loop-left l = record {
  value : leads (known_with l.cnf l.earlier) (is_false l.initial.marks) l.hints ≡ leads (known_with l.cnf l.earlier) (is_false l.marks) l.left;
  same : l.marks.variables ≡ l.initial.marks.variables;
}

abbrev pub decreases-loop-left : goal.decreases-loop-left
decreases-loop-left l = length l.left
