use Rattle.std.proofs.Common.{◌≡◌, ◌≤◌, length, drop, None}
use Rattle.path_core.specs.Order.{next_same}
use Rattle.path_core.proofs.texts.next_same.Given as goal

abbrev pub invariant-loop-at : goal.invariant-loop-at
invariant-loop-at l = record {
  ended : l.at ≤ length l.text;
  none : next_same l.alphabet (length (drop l.at l.text)) (drop l.at l.text) ≡ None;
}

abbrev pub decreases-loop-at : goal.decreases-loop-at
decreases-loop-at l = l.at
