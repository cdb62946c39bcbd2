use Rattle.std.proofs.Common.{◌≡◌, length}
use Rattle.js_lexer.specs.Runs.{skip_while}
use Rattle.js_lexer.specs.Numbers.{is_digit_of}
use Rattle.js_lexer.proofs.numbers.after_digits.Given as goal

abbrev pub invariant-loop-left : goal.invariant-loop-left
invariant-loop-left l = skip_while (is_digit_of l.base) l.left ≡ skip_while (is_digit_of l.base) l.units

abbrev pub decreases-loop-left : goal.decreases-loop-left
decreases-loop-left l = length l.left
