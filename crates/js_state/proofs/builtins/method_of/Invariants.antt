use Rattle.std.proofs.Common.{◌≡◌, length}
use Rattle.js_meaning.specs.Builtins.{is_method}
use Rattle.js_state.specs.Builtins.{is_called}
use Rattle.js_state.proofs.builtins.method_of.Given as goal

abbrev pub invariant-loop-left : goal.invariant-loop-left
invariant-loop-left l = is_called l.left l.name ≡ is_method l.name

abbrev pub decreases-loop-left : goal.decreases-loop-left
decreases-loop-left l = length l.left
