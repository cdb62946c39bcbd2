use Rattle.std.proofs.Common.{length}
use Rattle.js_lexer.proofs.Closing.{Gathers}
use Rattle.js_lexer.proofs.texts.quoted_value.Given as goal

abbrev pub invariant-loop-meaning : goal.invariant-loop-meaning
invariant-loop-meaning l = Gathers l.quote l.units l.out l.left

abbrev pub decreases-loop-meaning : goal.decreases-loop-meaning
decreases-loop-meaning l = length l.left
