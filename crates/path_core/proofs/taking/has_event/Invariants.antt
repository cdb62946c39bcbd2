use Rattle.std.proofs.Common.{length}
use Rattle.std.specs.Prelude.{◌↔◌, Contains}
use Rattle.path_core.specs.declared.path.Child.TheVariants as children
use Rattle.path_core.proofs.taking.has_event.Given as goal

abbrev pub invariant-loop-left : goal.invariant-loop-left
invariant-loop-left l = Contains l.left (children.Event l.event) ↔ Contains l.among (children.Event l.event)

abbrev pub decreases-loop-left : goal.decreases-loop-left
decreases-loop-left l = length l.left
