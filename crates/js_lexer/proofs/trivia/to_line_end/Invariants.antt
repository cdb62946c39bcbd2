use Rattle.std.proofs.Common.{◌≡◌, length}
use Rattle.js_lexer.specs.Classes.{is_comment_unit}
use Rattle.js_lexer.specs.Runs.{skip_while}
use Rattle.js_lexer.proofs.trivia.to_line_end.Given as goal

abbrev pub invariant-loop-left : goal.invariant-loop-left
invariant-loop-left l = skip_while is_comment_unit l.left ≡ skip_while is_comment_unit l.units

abbrev pub decreases-loop-left : goal.decreases-loop-left
decreases-loop-left l = length l.left
