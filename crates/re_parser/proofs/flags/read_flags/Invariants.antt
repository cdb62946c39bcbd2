use Rattle.std.proofs.Common.{length, ◌≤◌}
use Rattle.re_parser.proofs.FlagLists.{Seen}
use Rattle.re_parser.proofs.flags.read_flags.Given as goal

abbrev pub invariant-loop-first : goal.invariant-loop-first
invariant-loop-first l = Seen l.units l.left l.flags × (length l.left ≤ length l.units)

abbrev pub decreases-loop-first : goal.decreases-loop-first
decreases-loop-first l = length l.left
