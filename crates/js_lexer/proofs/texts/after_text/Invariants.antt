use Rattle.std.proofs.Common.{length}
use Rattle.js_lexer.proofs.Closing.{Goes}
use Rattle.js_lexer.proofs.texts.after_text.Given as goal

abbrev pub invariant-loop-behind : goal.invariant-loop-behind
invariant-loop-behind l = Goes l.quote l.units l.left

abbrev pub decreases-loop-behind : goal.decreases-loop-behind
decreases-loop-behind l = length l.left
