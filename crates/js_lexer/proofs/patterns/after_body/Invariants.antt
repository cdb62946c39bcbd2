use Rattle.std.proofs.Common.{length}
use Rattle.js_lexer.proofs.Slashes.{Goes}
use Rattle.js_lexer.proofs.patterns.after_body.Given as goal

abbrev pub invariant-loop-next_in_class : goal.invariant-loop-next_in_class
invariant-loop-next_in_class l = Goes l.units l.in_class l.left

abbrev pub decreases-loop-next_in_class : goal.decreases-loop-next_in_class
decreases-loop-next_in_class l = length l.left
