use Rattle.std.proofs.Common.{◌≡◌, length}
use Rattle.report_text.specs.Entries.{add_lines, lines_at}
use Rattle.report_text.specs.declared.heads.Stage.TheVariants as stages
use Rattle.report_text.proofs.reading.lines.Given as goal

abbrev pub invariant-loop-found : goal.invariant-loop-found
invariant-loop-found l = lines_at stages.First l.bytes ≡ add_lines l.found (lines_at l.stage l.left)

abbrev pub decreases-loop-found : goal.decreases-loop-found
decreases-loop-found l = length l.left
