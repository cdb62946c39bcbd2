use Rattle.std.proofs.Common.{◌≡◌, length}
use Rattle.path_core.specs.Order.{next_unit}
use Rattle.path_core.proofs.texts.next_unit.Given as goal

abbrev pub invariant-loop-left : goal.invariant-loop-left
invariant-loop-left l = next_unit l.left l.unit ≡ next_unit l.alphabet l.unit

abbrev pub decreases-loop-left : goal.decreases-loop-left
decreases-loop-left l = length l.left
