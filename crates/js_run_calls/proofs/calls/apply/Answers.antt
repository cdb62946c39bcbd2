use Rattle.std.proofs.Common.{refl}
use Rattle.js_frames.proofs.Steps.{stays, pushes, leads, both, still}
use Rattle.js_run_calls.proofs.Layers.{new_leaves}
use Rattle.js_run_calls.proofs.calls.apply.Goals as goal

pub returns-in_ok-work-in-Call-clause-leads : goal.returns-in_ok-work-in-Call-clause-leads
returns-in_ok-work-in-Call-clause-leads c = leads (both (pushes _ still c.in_ok-push-in-Call.ensures.ok (λ view w. rw (c.in-Call.is, c.as_slice.ensures) refl)) c.in_ok-work-in-Call.ensures.leads.to)

pub returns-in-New-clause-leads : goal.returns-in-New-clause-leads
returns-in-New-clause-leads c = leads (stays still refl (λ view w. rw (c.in-New.is, c.left.ensures.gives view) (new_leaves _ _ _ _)))
