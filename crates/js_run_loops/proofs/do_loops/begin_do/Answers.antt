use Rattle.std.proofs.Common.{refl}
use Rattle.js_frames.proofs.Steps.{stays, leads, both, where_true, where_false}
use Rattle.js_frames.proofs.Statements as opens
use Rattle.js_frames.proofs.Later.{frames_same}
use Rattle.js_run_loops.proofs.do_loops.begin_do.Goals as goal

pub returns-then-not-count-clause-leads : goal.returns-then-not-count-clause-leads
returns-then-not-count-clause-leads c = leads (stays c.count.ensures.quiet refl (λ view w. rw (opens.stmt_Do, c.cut.ensures) (where_false _ _ c.if-not-count.true (c.count.ensures.goes view _ _))))

pub round-requires : goal.round-requires
round-requires c = frames_same c.args.state.now c.count.new.self c.args.frames.now c.count.ensures.quiet.table c.requires

pub returns-clause-leads : goal.returns-clause-leads
returns-clause-leads c = leads (both (stays c.count.ensures.quiet refl (λ view w. rw opens.stmt_Do (where_true _ _ c.if-not-count.false (c.count.ensures.goes view _ _)))) c.in_ok-work.ensures.leads.to)
