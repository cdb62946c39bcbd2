use Rattle.std.proofs.Common.{length}
use Rattle.proof_text.specs.Reading.{hint_at}
use Rattle.js_units.proofs.Reading.{Gathers}
use Rattle.proof_text.proofs.literals.hints.Given as goal

abbrev pub invariant-loop-number : goal.invariant-loop-number
invariant-loop-number l = Gathers hint_at l.bytes l.found l.left

abbrev pub decreases-loop-number : goal.decreases-loop-number
decreases-loop-number l = length l.left
