use Rattle.std.proofs.Common.{◌≡◌, ◌++◌, length}
use Rattle.path_core.proofs.texts.push_all.Given as goal

abbrev pub invariant-loop-left : goal.invariant-loop-left
invariant-loop-left l = l.text ++ l.left ≡ l.fn.text ++ l.units

abbrev pub decreases-loop-left : goal.decreases-loop-left
decreases-loop-left l = length l.left
