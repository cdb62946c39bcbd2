use Rattle.std.proofs.Common.{length}
use Rattle.js_step_statements.proofs.joining.+settle.Given as goal

abbrev pub decreases-settle : goal.decreases-settle
decreases-settle l = length l.frames
