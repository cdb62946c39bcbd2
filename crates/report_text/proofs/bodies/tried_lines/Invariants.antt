use Rattle.std.proofs.Common.{length}
use Rattle.std.specs.Prelude.{codes}
use Rattle.js_units.proofs.Reading.{Gathers}
use Rattle.report_text.specs.Details.{input_line_at}
use Rattle.report_text.proofs.bodies.tried_lines.Given as goal

abbrev pub invariant-loop-found : goal.invariant-loop-found
invariant-loop-found l = Gathers (input_line_at (codes "tried")) l.bytes l.found l.left

abbrev pub decreases-loop-found : goal.decreases-loop-found
decreases-loop-found l = length l.left
