use Rattle.std.proofs.Common.{◌≡◌, length}
use Rattle.js_lexer.specs.Words.{begins_with}
use Rattle.js_lexer.proofs.tables.begins_with.Given as goal

abbrev pub invariant-loop-bytes : goal.invariant-loop-bytes
invariant-loop-bytes l = begins_with l.bytes l.left ≡ begins_with l.entry l.units

abbrev pub decreases-loop-bytes : goal.decreases-loop-bytes
decreases-loop-bytes l = length l.bytes
