use Rattle.std.proofs.Common.{length}
use Rattle.js_step_operands.proofs.frames.+close_to.Given as goal

abbrev pub decreases-close_to : goal.decreases-close_to
decreases-close_to l = length l.frames
