use Rattle.proof_text.specs.Reading.{clause_at}
use Rattle.proof_text.proofs.Counting.{Counts}
use Rattle.proof_text.proofs.reading.clauses.Given as goal

abbrev pub invariant-loop-remaining : goal.invariant-loop-remaining
invariant-loop-remaining l = Counts (clause_at l.variables) l.count l.bytes l.found l.left l.remaining

abbrev pub decreases-loop-remaining : goal.decreases-loop-remaining
decreases-loop-remaining l = l.remaining
