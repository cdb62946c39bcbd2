use Rattle.std.proofs.Common.{length}
use Rattle.js_units.specs.Unquoted.{unit_at}
use Rattle.js_units.proofs.Reading.{Gathers}
use Rattle.js_units.proofs.unquoting.inside.Given as goal

abbrev pub invariant-loop-next : goal.invariant-loop-next
invariant-loop-next l = Gathers unit_at l.bytes l.text l.left

abbrev pub decreases-loop-next : goal.decreases-loop-next
decreases-loop-next l = length l.left
