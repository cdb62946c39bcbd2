use Rattle.std.proofs.Common.{length}
use Rattle.js_units.proofs.Reading.{Gathers}
use Rattle.report_text.specs.Queries.{child_at}
use Rattle.report_text.proofs.queries.children.Given as goal

abbrev pub invariant-loop-found : goal.invariant-loop-found
invariant-loop-found l = Gathers child_at l.bytes l.found l.left

abbrev pub decreases-loop-found : goal.decreases-loop-found
decreases-loop-found l = length l.left
