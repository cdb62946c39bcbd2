use Rattle.std.proofs.Common.{◌≡◌, length}
use Rattle.js_meaning.specs.Builtins.{is_builtin}
use Rattle.js_state.specs.Builtins.{is_one_of}
use Rattle.js_state.proofs.builtins.builtin_of.Given as goal

abbrev pub invariant-loop-left : goal.invariant-loop-left
invariant-loop-left l = is_one_of l.left l.name ≡ is_builtin l.name

abbrev pub decreases-loop-left : goal.decreases-loop-left
decreases-loop-left l = length l.left
