use Rattle.std.proofs.Common.{◌≡◌, ◌≤◌, length}
use Rattle.proof_text.specs.Numbers.{digits_on}
use Rattle.report_text.proofs.wide.digits.Given as goal

abbrev pub invariant-loop-left : goal.invariant-loop-left
invariant-loop-left l = record {
  within : l.number ≤ l.most;
  value : digits_on l.most l.number l.left ≡ digits_on l.most 0 l.bytes;
}

abbrev pub decreases-loop-left : goal.decreases-loop-left
decreases-loop-left l = length l.left
