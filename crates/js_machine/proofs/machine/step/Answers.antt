use Rattle.js_machine.proofs.machine.step.Goals as goal

pub returns-in_ok-next-in-Eval-clause-leads : goal.returns-in_ok-next-in-Eval-clause-leads
returns-in_ok-next-in-Eval-clause-leads c = rw c.in-Eval.is c.in_ok-next-in-Eval.ensures.leads

pub returns-in_ok-next-in-Exec-clause-leads : goal.returns-in_ok-next-in-Exec-clause-leads
returns-in_ok-next-in-Exec-clause-leads c = rw c.in-Exec.is c.in_ok-next-in-Exec.ensures.leads

pub returns-in_ok-next-in-Enter-clause-leads : goal.returns-in_ok-next-in-Enter-clause-leads
returns-in_ok-next-in-Enter-clause-leads c = rw c.in-Enter.is c.in_ok-next-in-Enter.ensures.leads

pub returns-in_ok-next-in-Declare-clause-leads : goal.returns-in_ok-next-in-Declare-clause-leads
returns-in_ok-next-in-Declare-clause-leads c = rw c.in-Declare.is c.in_ok-next-in-Declare.ensures.leads

pub returns-in_ok-next-in-Invoke-clause-leads : goal.returns-in_ok-next-in-Invoke-clause-leads
returns-in_ok-next-in-Invoke-clause-leads c = rw c.in-Invoke.is c.in_ok-next-in-Invoke.ensures.leads

pub returns-in_ok-step-in-Give-clause-leads : goal.returns-in_ok-step-in-Give-clause-leads
returns-in_ok-step-in-Give-clause-leads c = rw c.in-Give.is c.in_ok-step-in-Give.ensures.leads
