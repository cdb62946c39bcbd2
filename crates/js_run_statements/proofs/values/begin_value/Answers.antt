use Rattle.std.proofs.Common.{refl}
use Rattle.js_frames.proofs.Steps.{stays, pushes, leads, where_true, where_false}
use Rattle.js_frames.proofs.Later.{frames_same}
use Rattle.js_run_statements.proofs.values.begin_value.Goals as goal

pub returns-then-not-count-clause-leads : goal.returns-then-not-count-clause-leads
returns-then-not-count-clause-leads c = leads (stays c.count.ensures.quiet refl (λ view w. rw c.cut.ensures (where_false _ _ c.if-not-count.true (c.count.ensures.goes view _ _))))

pub returns-clause-leads : goal.returns-clause-leads
returns-clause-leads c = leads (pushes _ c.count.ensures.quiet c.in_ok-push.ensures.ok (λ view w. where_true _ _ c.if-not-count.false (c.count.ensures.goes view _ _)))

pub returns-clause-fits : goal.returns-clause-fits
returns-clause-fits c = rw (c.in_ok-push.ensures.ok, c.count.ensures.quiet.table) ((c.requires.waiting, frames_same c.args.state.now c.count.new.self c.args.frames.now c.count.ensures.quiet.table c.requires.frames), tt)
