use Rattle.std.proofs.Common.{◌≡◌, length, bytes_eq}
use Rattle.js_units.proofs.units.equals_bytes.Given as goal

abbrev pub invariant-loop-left : goal.invariant-loop-left
invariant-loop-left l = bytes_eq l.left l.rest ≡ bytes_eq l.bytes l.units

abbrev pub decreases-loop-left : goal.decreases-loop-left
decreases-loop-left l = length l.left
