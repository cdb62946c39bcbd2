use Rattle.std.proofs.Common.{length}
use Rattle.sat_core.proofs.watching.emptied.Given as goal

abbrev pub decreases-loop-left : goal.decreases-loop-left
decreases-loop-left l = length l.left
