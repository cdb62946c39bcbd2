use Rattle.std.proofs.Common.{◌≡◌, ◌++◌, length}
use Rattle.js_ops.proofs.texts.push_all.Given as goal

abbrev pub invariant-loop-left : goal.invariant-loop-left
invariant-loop-left l = l.units ++ l.left ≡ l.fn.units ++ l.more

abbrev pub decreases-loop-left : goal.decreases-loop-left
decreases-loop-left l = length l.left
