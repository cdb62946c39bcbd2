use Rattle.std.proofs.Common.{◌≤◌, length}
use Rattle.re_parser.proofs.Passing.{Passed}
use Rattle.re_parser.proofs.classes.members.Given as goal

abbrev pub invariant-loop-item : goal.invariant-loop-item
invariant-loop-item l = Passed l.units l.ranges l.left × (length l.left ≤ length l.units)

abbrev pub decreases-loop-item : goal.decreases-loop-item
decreases-loop-item l = length l.left
