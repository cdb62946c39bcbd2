use Rattle.std.proofs.Common.{arith}
use Rattle.path_core.proofs.Counting.{count_is}
use Rattle.path_core.proofs.inputs.count.Goals as goal

pub returns : goal.returns
returns c = count_is c.loop-left.total c.loop-left.left.now c.args.bounds.now.inputs (omega arith) c.loop-left.invariant.counted
