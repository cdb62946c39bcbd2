use Rattle.std.proofs.Common.{refl}
use Rattle.js_frames.proofs.Steps.{stays, pushes, leads, where_true, where_false}
use Rattle.js_frames.proofs.Statements as opens
use Rattle.js_run_loops.proofs.while_loops.begin_while.Goals as goal

pub returns-then-not-count-clause-leads : goal.returns-then-not-count-clause-leads
returns-then-not-count-clause-leads c = leads (stays c.count.ensures.quiet refl (λ view w. rw (opens.stmt_While, c.cut.ensures) (where_false _ _ c.if-not-count.true (c.count.ensures.goes view _ _))))

pub returns-clause-leads : goal.returns-clause-leads
returns-clause-leads c = leads (pushes _ c.count.ensures.quiet c.in_ok-push.ensures.ok (λ view w. rw opens.stmt_While (where_true _ _ c.if-not-count.false (c.count.ensures.goes view _ _))))
