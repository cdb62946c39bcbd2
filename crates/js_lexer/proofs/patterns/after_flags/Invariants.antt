use Rattle.std.proofs.Common.{◌≡◌, length}
use Rattle.js_lexer.specs.Classes.{is_flag}
use Rattle.js_lexer.specs.Runs.{skip_while}
use Rattle.js_lexer.proofs.patterns.after_flags.Given as goal

abbrev pub invariant-loop-left : goal.invariant-loop-left
invariant-loop-left l = skip_while is_flag l.left ≡ skip_while is_flag l.units

abbrev pub decreases-loop-left : goal.decreases-loop-left
decreases-loop-left l = length l.left
