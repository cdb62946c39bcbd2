use Rattle.std.proofs.Common.{refl}
use Rattle.js_frames.proofs.Steps.{stays, pushes, leads, both, still}
use Rattle.js_run_loops.proofs.for_loops.for_on.Goals as goal

pub returns-in_ok-work-in-None-clause-leads : goal.returns-in_ok-work-in-None-clause-leads
returns-in_ok-work-in-None-clause-leads c = leads (both (stays still refl (λ view w. rw c.in-None.is refl)) c.in_ok-work-in-None.ensures.leads.to)

pub returns-in_ok-push-in-Some-clause-leads : goal.returns-in_ok-push-in-Some-clause-leads
returns-in_ok-push-in-Some-clause-leads c = leads (pushes _ still c.in_ok-push-in-Some.ensures.ok (λ view w. rw c.in-Some.is refl))
