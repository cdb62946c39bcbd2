use Rattle.std.proofs.Common.{◌≡◌, length}
use Rattle.js_units.specs.Characters.{is_name_part}
use Rattle.js_lexer.specs.Runs.{skip_while}
use Rattle.js_lexer.proofs.names.after_parts.Given as goal

abbrev pub invariant-loop-left : goal.invariant-loop-left
invariant-loop-left l = skip_while is_name_part l.left ≡ skip_while is_name_part l.units

abbrev pub decreases-loop-left : goal.decreases-loop-left
decreases-loop-left l = length l.left
