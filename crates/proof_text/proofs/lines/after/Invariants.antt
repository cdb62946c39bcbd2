use Rattle.std.proofs.Common.{◌≡◌, length}
use Rattle.proof_text.specs.Lines.{after}
use Rattle.proof_text.proofs.lines.after.Given as goal

abbrev pub invariant-loop-wanted : goal.invariant-loop-wanted
invariant-loop-wanted l = after l.wanted l.left ≡ after l.word l.bytes

abbrev pub decreases-loop-wanted : goal.decreases-loop-wanted
decreases-loop-wanted l = length l.wanted
