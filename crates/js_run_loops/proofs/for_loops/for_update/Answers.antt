use Rattle.js_run_loops.proofs.for_loops.for_update.Goals as goal

pub returns-clause-leads : goal.returns-clause-leads
returns-clause-leads c = c.in_ok-work.ensures.leads
