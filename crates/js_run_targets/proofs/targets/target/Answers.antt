use Rattle.js_run_targets.proofs.targets.target.Goals as goal

pub returns-in_ok-work-in-Property-clause-leads : goal.returns-in_ok-work-in-Property-clause-leads
returns-in_ok-work-in-Property-clause-leads c = rw c.in-Property.is c.in_ok-work-in-Property.ensures.leads

pub returns-in_ok-work-in-Index-clause-leads : goal.returns-in_ok-work-in-Index-clause-leads
returns-in_ok-work-in-Index-clause-leads c = rw c.in-Index.is c.in_ok-work-in-Index.ensures.leads
