use Rattle.std.proofs.Common.{◌≡◌, ◌<◌, length}
use Rattle.explorer.specs.Keys.{mixed_all}
use Rattle.explorer.proofs.keys.mixed_all.Given as goal

abbrev pub invariant-loop-left : goal.invariant-loop-left
invariant-loop-left l = (mixed_all l.sum l.left ≡ mixed_all l.start l.text) × (l.sum < 2147483647)

abbrev pub decreases-loop-left : goal.decreases-loop-left
decreases-loop-left l = length l.left
