use Rattle.std.proofs.Common.{◌≡◌, take}
use Rattle.js_lexer.proofs.values.copy.Given as goal

abbrev pub invariant-loop-unit : goal.invariant-loop-unit
invariant-loop-unit l = l.text ≡ take l.unit-index l.units
