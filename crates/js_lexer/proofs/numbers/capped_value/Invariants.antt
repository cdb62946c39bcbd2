use Rattle.std.proofs.Common.{◌≡◌, ◌≤◌, length}
use Rattle.js_lexer.specs.Digits.{capped_from}
use Rattle.js_lexer.proofs.numbers.capped_value.Given as goal

abbrev pub invariant-loop-left : goal.invariant-loop-left
invariant-loop-left l = (capped_from l.base l.value l.left ≡ capped_from l.base 0 l.units) × (l.value ≤ 9007199254740992)

abbrev pub decreases-loop-left : goal.decreases-loop-left
decreases-loop-left l = length l.left
