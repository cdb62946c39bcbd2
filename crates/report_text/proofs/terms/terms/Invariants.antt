use Rattle.std.proofs.Common.{◌-◌}
use Rattle.report_text.proofs.Numbering.{Numbers}
use Rattle.report_text.proofs.terms.terms.Given as goal

abbrev pub invariant-loop-done : goal.invariant-loop-done
invariant-loop-done l = Numbers l.count l.bytes l.found l.left l.done

abbrev pub decreases-loop-done : goal.decreases-loop-done
decreases-loop-done l = l.count - l.done
