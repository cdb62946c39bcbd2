use Rattle.std.proofs.Common.{◌≡◌, ◌+◌, ◌++◌, drop}
use Rattle.re_ast.specs.Successes.{cleared}
use Rattle.re_matcher.proofs.turns.cleared_copy.Given as goal

abbrev pub invariant-loop-i : goal.invariant-loop-i
invariant-loop-i l = cleared l.first l.past 1 l.span-items ≡ l.groups.items ++ cleared l.first l.past (l.i + 1) (drop l.i l.span-items)
