use Rattle.std.proofs.Common.{length}
use Rattle.re_parser.proofs.Backs.{Searched}
use Rattle.re_parser.proofs.parser.first_unbound.Given as goal

abbrev pub invariant-loop-first : goal.invariant-loop-first
invariant-loop-first l = Searched l.groups l.backs l.left

abbrev pub decreases-loop-first : goal.decreases-loop-first
decreases-loop-first l = length l.left
