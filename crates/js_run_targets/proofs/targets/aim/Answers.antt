use Rattle.std.proofs.Common.{refl}
use Rattle.js_frames.proofs.Steps.{stays, pushes, leads, both, where_true, where_false, still}
use Rattle.js_run_targets.proofs.targets.aim.Goals as goal

pub returns-then-not-count-clause-leads : goal.returns-then-not-count-clause-leads
returns-then-not-count-clause-leads c = leads (stays c.count.ensures.quiet refl (λ view w. rw (c.in-Name.is, c.cut.ensures) (where_false _ _ c.if-not-count.true (c.count.ensures.goes view _ _))))

pub returns-in_ok-work-in-Name-clause-leads : goal.returns-in_ok-work-in-Name-clause-leads
returns-in_ok-work-in-Name-clause-leads c = leads (both (stays c.count.ensures.quiet refl (λ view w. rw c.in-Name.is (where_true _ _ c.if-not-count.false (c.count.ensures.goes view _ _)))) c.in_ok-work-in-Name.ensures.leads.to)

pub returns-in_ok-push-in-Access-clause-leads : goal.returns-in_ok-push-in-Access-clause-leads
returns-in_ok-push-in-Access-clause-leads c = leads (pushes _ still c.in_ok-push-in-Access.ensures.ok (λ view w. rw c.in-Access.is refl))
