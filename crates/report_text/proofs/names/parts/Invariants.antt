use Rattle.std.proofs.Common.{length}
use Rattle.js_units.proofs.Reading.{Gathers}
use Rattle.report_text.specs.Parts.{part_at}
use Rattle.report_text.proofs.names.parts.Given as goal

abbrev pub invariant-loop-next : goal.invariant-loop-next
invariant-loop-next l = Gathers part_at l.bytes l.name l.left

abbrev pub decreases-loop-next : goal.decreases-loop-next
decreases-loop-next l = length l.left
