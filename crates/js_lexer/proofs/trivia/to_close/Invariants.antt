use Rattle.std.proofs.Common.{◌≡◌, false, length}
use Rattle.js_lexer.specs.Skipping.{to_close}
use Rattle.js_lexer.proofs.trivia.to_close.Given as goal

abbrev pub invariant-loop-left : goal.invariant-loop-left
invariant-loop-left l = to_close l.line_end l.left ≡ to_close false l.units

abbrev pub decreases-loop-left : goal.decreases-loop-left
decreases-loop-left l = length l.left
