use Rattle.std.proofs.Common.{◌≡◌, ◌<◌, length}
use Rattle.explorer.specs.Keys.{mixed_events, fingerprint}
use Rattle.explorer.proofs.keys.fingerprint.Given as goal

abbrev pub invariant-loop-left : goal.invariant-loop-left
invariant-loop-left l = (mixed_events l.sum l.left ≡ fingerprint l.path) × (l.sum < 2147483647)

abbrev pub decreases-loop-left : goal.decreases-loop-left
decreases-loop-left l = length l.left
