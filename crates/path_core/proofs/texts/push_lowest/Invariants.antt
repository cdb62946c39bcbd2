use Rattle.std.proofs.Common.{◌≡◌, ◌++◌}
use Rattle.path_core.specs.Order.{lowest}
use Rattle.path_core.proofs.texts.push_lowest.Given as goal

abbrev pub invariant-loop-left : goal.invariant-loop-left
invariant-loop-left l = l.text ++ lowest l.alphabet l.left ≡ l.fn.text ++ lowest l.alphabet l.count

abbrev pub decreases-loop-left : goal.decreases-loop-left
decreases-loop-left l = l.left
