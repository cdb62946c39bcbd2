use Rattle.std.proofs.Common.{◌≡◌, ◌++◌, length}
use Rattle.std.specs.List.{flat_map}
use Rattle.report_text.specs.Lines.{child_text}
use Rattle.report_text.proofs.questions.push_children.Given as goal

abbrev pub invariant-loop-left : goal.invariant-loop-left
invariant-loop-left l = l.out.items ++ flat_map child_text l.left ≡ l.fn.out.items ++ flat_map child_text l.children

abbrev pub decreases-loop-left : goal.decreases-loop-left
decreases-loop-left l = length l.left
