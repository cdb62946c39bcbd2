use Rattle.std.proofs.Common.{refl}
use Rattle.js_frames.proofs.Steps.{stays, leads, quiet_of}
use Rattle.js_machine.proofs.taking.resume.Goals as goal

pub returns-in_ok-work-in-Awaits-clause-leads : goal.returns-in_ok-work-in-Awaits-clause-leads
returns-in_ok-work-in-Awaits-clause-leads c = rw c.in-Awaits.is c.in_ok-work-in-Awaits.ensures.leads

pub returns-in_ok-work-in-Chain-clause-leads : goal.returns-in_ok-work-in-Chain-clause-leads
returns-in_ok-work-in-Chain-clause-leads c = rw c.in-Chain.is c.in_ok-work-in-Chain.ensures.leads

pub returns-in_ok-work-in-TargetBase-clause-leads : goal.returns-in_ok-work-in-TargetBase-clause-leads
returns-in_ok-work-in-TargetBase-clause-leads c = rw c.in-TargetBase.is c.in_ok-work-in-TargetBase.ensures.leads

pub returns-in_ok-work-in-WhileBody-clause-leads : goal.returns-in_ok-work-in-WhileBody-clause-leads
returns-in_ok-work-in-WhileBody-clause-leads c = rw c.in-WhileBody.is c.in_ok-work-in-WhileBody.ensures.leads

pub returns-in_ok-work-in-DoBody-clause-leads : goal.returns-in_ok-work-in-DoBody-clause-leads
returns-in_ok-work-in-DoBody-clause-leads c = rw c.in-DoBody.is c.in_ok-work-in-DoBody.ensures.leads

pub returns-in_ok-work-in-ForBody-clause-leads : goal.returns-in_ok-work-in-ForBody-clause-leads
returns-in_ok-work-in-ForBody-clause-leads c = rw c.in-ForBody.is c.in_ok-work-in-ForBody.ensures.leads

pub returns-in_ok-work-in-OfBody-clause-leads : goal.returns-in_ok-work-in-OfBody-clause-leads
returns-in_ok-work-in-OfBody-clause-leads c = rw c.in-OfBody.is c.in_ok-work-in-OfBody.ensures.leads

pub returns-in_ok-work-in-Rest-clause-leads : goal.returns-in_ok-work-in-Rest-clause-leads
returns-in_ok-work-in-Rest-clause-leads c = rw c.in-Rest.is c.in_ok-work-in-Rest.ensures.leads

pub returns-in_ok-work-in-ForDeclared-clause-leads : goal.returns-in_ok-work-in-ForDeclared-clause-leads
returns-in_ok-work-in-ForDeclared-clause-leads c = rw c.in-ForDeclared.is c.in_ok-work-in-ForDeclared.ensures.leads

pub returns-in_ok-work-in-Catching-clause-leads : goal.returns-in_ok-work-in-Catching-clause-leads
returns-in_ok-work-in-Catching-clause-leads c = rw c.in-Catching.is c.in_ok-work-in-Catching.ensures.leads

pub returns-in_ok-work-in-Finishing-clause-leads : goal.returns-in_ok-work-in-Finishing-clause-leads
returns-in_ok-work-in-Finishing-clause-leads c = rw c.in-Finishing.is c.in_ok-work-in-Finishing.ensures.leads

pub returns-in-Kept-clause-leads : goal.returns-in-Kept-clause-leads
returns-in-Kept-clause-leads c = rw c.in-Kept.is c.kept.ensures.leads

pub returns-in-Called-clause-leads : goal.returns-in-Called-clause-leads
returns-in-Called-clause-leads c = leads (stays (quiet_of c.returned.ensures.still) refl (λ view w. rw c.in-Called.is (c.returned.ensures.gives view)))
