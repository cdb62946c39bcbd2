use Rattle.std.proofs.Common.{◌≡◌, ◌++◌, length}
use Rattle.path_core.proofs.inputs.copies.Given as goal

abbrev pub invariant-loop-left : goal.invariant-loop-left
invariant-loop-left l = l.copies ++ l.left ≡ l.values

abbrev pub decreases-loop-left : goal.decreases-loop-left
decreases-loop-left l = length l.left
