use Rattle.std.proofs.Common.{◌≡◌, length}
use Rattle.path_core.specs.Form.{is_declared}
use Rattle.path_core.proofs.declaring.is_declared.Given as goal

abbrev pub invariant-loop-left : goal.invariant-loop-left
invariant-loop-left l = is_declared l.name l.left ≡ is_declared l.name l.found

abbrev pub decreases-loop-left : goal.decreases-loop-left
decreases-loop-left l = length l.left
