use Rattle.std.proofs.Common.{length}
use Rattle.js_lexer.proofs.Gaps.{GoesOn}
use Rattle.js_lexer.proofs.trivia.after_trivia.Given as goal

abbrev pub invariant-loop-ends_line : goal.invariant-loop-ends_line
invariant-loop-ends_line l = GoesOn l.at_start l.units l.first l.line_end l.left

abbrev pub decreases-loop-ends_line : goal.decreases-loop-ends_line
decreases-loop-ends_line l = length l.left
