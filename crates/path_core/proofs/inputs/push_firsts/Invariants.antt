use Rattle.std.proofs.Common.{◌≡◌, ◌++◌, length}
use Rattle.path_core.specs.Order.{first_of}
use Rattle.path_core.proofs.inputs.push_firsts.Given as goal

abbrev pub invariant-loop-left : goal.invariant-loop-left
invariant-loop-left l = l.values ++ first_of l.left ≡ l.fn.values ++ first_of l.declared

abbrev pub decreases-loop-left : goal.decreases-loop-left
decreases-loop-left l = length l.left
