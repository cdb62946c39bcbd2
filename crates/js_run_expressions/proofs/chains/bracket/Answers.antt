use Rattle.std.proofs.Common.{refl}
use Rattle.js_frames.proofs.Steps.{stays, leads, still}
use Rattle.js_run_expressions.proofs.chains.bracket.Goals as goal

pub returns-in_ok-work-in-Callee-clause-leads : goal.returns-in_ok-work-in-Callee-clause-leads
returns-in_ok-work-in-Callee-clause-leads c = rw c.in-Callee.is (c.in_ok-work-in-Callee.ensures.leads _)

pub returns-in-Static-clause-leads : goal.returns-in-Static-clause-leads
returns-in-Static-clause-leads c = leads (stays still refl (λ view w. rw (c.in-Static.is, c.left.ensures.gives view) refl))

pub returns-in-Method-clause-leads : goal.returns-in-Method-clause-leads
returns-in-Method-clause-leads c = leads (stays still refl (λ view w. rw (c.in-Method.is, c.left-in-Method.ensures.gives view) refl))
