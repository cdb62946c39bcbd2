use Rattle.std.proofs.Common.{◌≡◌, length}
use Rattle.path_core.specs.Form.{are_distinct}
use Rattle.path_core.proofs.declaring.are_distinct.Given as goal

abbrev pub invariant-loop-left : goal.invariant-loop-left
invariant-loop-left l = are_distinct l.left ≡ are_distinct l.units

abbrev pub decreases-loop-left : goal.decreases-loop-left
decreases-loop-left l = length l.left
