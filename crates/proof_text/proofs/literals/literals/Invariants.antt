use Rattle.std.proofs.Common.{length}
use Rattle.proof_text.specs.Reading.{literal_at}
use Rattle.js_units.proofs.Reading.{Gathers}
use Rattle.proof_text.proofs.literals.literals.Given as goal

abbrev pub invariant-loop-number : goal.invariant-loop-number
invariant-loop-number l = Gathers (literal_at l.variables) l.bytes l.found l.left

abbrev pub decreases-loop-number : goal.decreases-loop-number
decreases-loop-number l = length l.left
