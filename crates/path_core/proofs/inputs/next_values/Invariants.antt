use Rattle.std.proofs.Common.{◌≡◌, ◌≤◌, length, drop, None}
use Rattle.path_core.specs.Order.{next_of}
use Rattle.path_core.proofs.inputs.next_values.Given as goal

abbrev pub invariant-loop-at : goal.invariant-loop-at
invariant-loop-at l = record {
  ended : l.at ≤ length l.declared;
  none : next_of (drop l.at l.declared) (drop l.at l.values) ≡ None;
}

abbrev pub decreases-loop-at : goal.decreases-loop-at
decreases-loop-at l = l.at
