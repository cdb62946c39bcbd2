use Rattle.js_run_calls.proofs.calls.invoke.Goals as goal

pub returns-clause-leads : goal.returns-clause-leads
returns-clause-leads c = rw c.get.ensures at c.in_ok-work.ensures.leads
