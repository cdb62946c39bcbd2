use Rattle.std.proofs.Common.{◌≡◌, ℤ, take}
use Rattle.cnf_core.specs.Validity.{among}
use Rattle.proof_check.specs.Marking.{is_false}
use Rattle.proof_check.proofs.assuming.assume.Given as goal

abbrev pub invariant-loop-lit : goal.invariant-loop-lit
invariant-loop-lit l = record {
  is_false : (k : ℤ) → is_false l.marks k ≡ among (take l.lit-index l.clause) k;
  variables : l.marks.variables ≡ l.fn.marks.variables;
}
