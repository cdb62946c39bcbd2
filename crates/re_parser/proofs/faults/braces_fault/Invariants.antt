use Rattle.std.proofs.Common.{◌≡◌, length}
use Rattle.re_parser.specs.Faults.{from_close}
use Rattle.re_parser.proofs.faults.braces_fault.Given as goal

abbrev pub invariant-loop-left : goal.invariant-loop-left
invariant-loop-left l = from_close l.left ≡ from_close l.units

abbrev pub decreases-loop-left : goal.decreases-loop-left
decreases-loop-left l = length l.left
