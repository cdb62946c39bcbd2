use Rattle.std.proofs.Common.{◌≡◌, ◌≤◌, length}
use Rattle.js_values.specs.OwnKeys.{number_from}
use Rattle.js_heap.proofs.own_keys.number_of.Given as goal

abbrev pub invariant-loop-left : goal.invariant-loop-left
invariant-loop-left l = (l.number ≤ 4294967294) × (number_from l.number l.left ≡ number_from 0 l.digits)

abbrev pub decreases-loop-left : goal.decreases-loop-left
decreases-loop-left l = length l.left
