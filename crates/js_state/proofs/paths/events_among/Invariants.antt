use Rattle.std.proofs.Common.{◌≡◌, ◌++◌, length}
use Rattle.js_state.specs.Playing.{events_made}
use Rattle.js_state.proofs.paths.events_among.Given as goal

abbrev pub invariant-loop-left : goal.invariant-loop-left
invariant-loop-left l = l.events ++ events_made l.left ≡ events_made l.fn.moves

abbrev pub decreases-loop-left : goal.decreases-loop-left
decreases-loop-left l = length l.left
