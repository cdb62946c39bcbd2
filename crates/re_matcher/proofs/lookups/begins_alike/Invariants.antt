use Rattle.std.proofs.Common.{◌≡◌, length}
use Rattle.std.specs.List.{starts_with}
use Rattle.re_ast.specs.Characters.{is_alike}
use Rattle.re_matcher.proofs.lookups.begins_alike.Given as goal

abbrev pub invariant-loop-due : goal.invariant-loop-due
invariant-loop-due l = starts_with (is_alike l.ignore_case) l.left l.due ≡ starts_with (is_alike l.ignore_case) l.units l.part

abbrev pub decreases-loop-due : goal.decreases-loop-due
decreases-loop-due l = length l.due
