use Rattle.js_frames.proofs.Steps.{stays, pushes, leads, still}
use Rattle.js_run_calls.proofs.Layers.{body_statements, body_expression}
use Rattle.js_run_calls.proofs.bodies.enter_body.Goals as goal

pub returns-in-Statements-clause-leads : goal.returns-in-Statements-clause-leads
returns-in-Statements-clause-leads c = λ st. leads (stays still c.in_ok-push.ensures.ok (λ view w. rw c.in-Statements.is (body_statements _ _ _ _ _)))

pub returns-in_ok-push-in-Expression-clause-leads : goal.returns-in_ok-push-in-Expression-clause-leads
returns-in_ok-push-in-Expression-clause-leads c = λ st. leads (pushes _ still (rw c.in_ok-push.ensures.ok at c.in_ok-push-in-Expression.ensures.ok) (λ view w. rw c.in-Expression.is (body_expression _ _ _ _ _)))
