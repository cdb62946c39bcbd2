use Rattle.std.proofs.Common.{arith}
use Rattle.std.proofs.lemmas.Grind.{common_steps}
use Rattle.std.proofs.lemmas.List.Elements.{All-push}
use Rattle.path_core.specs.Accepted.{IsAccepted}
use Rattle.path_core.proofs.reading.all_declared.Goals as goal

pub loop-left-preserved : goal.loop-left-preserved
loop-left-preserved c = record {
  form = grind (arith, common_steps);
  accepted = rw c.in_ok-push.ensures.ok (All-push IsAccepted c.loop-left.found c.in_ok-next.next c.loop-left.invariant.accepted c.in_ok-next.ensures.accepted);
  each = rw c.in_ok-push.ensures.ok (grind (arith, common_steps));
}
