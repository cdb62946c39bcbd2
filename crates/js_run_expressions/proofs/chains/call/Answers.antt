use Rattle.std.proofs.Common.{refl}
use Rattle.js_frames.proofs.Steps.{stays, leads, both, where_true, where_false}
use Rattle.js_frames.proofs.Later.{frames_same}
use Rattle.js_frames.proofs.Later.{reference_same}
use Rattle.js_run_expressions.proofs.chains.call.Goals as goal

pub returns-then-not-count-clause-leads : goal.returns-then-not-count-clause-leads
returns-then-not-count-clause-leads c = leads (stays c.count.ensures.quiet refl (λ view w. rw c.cut.ensures (where_false _ _ c.if-not-count.true (c.count.ensures.goes view _ _))))

pub returns-clause-leads : goal.returns-clause-leads
returns-clause-leads c = leads (both (stays c.count.ensures.quiet refl (λ view w. rw (c.in_ok-gathered.ensures, c.new-values.ensures) (where_true _ _ c.if-not-count.false (c.count.ensures.goes view _ _)))) (c.in_ok-work.ensures.leads c.count.new.self).to)

pub returns-clause-fits : goal.returns-clause-fits
returns-clause-fits c = c.in_ok-work.ensures.fits c.count.new.self (frames_same c.args.state.now c.count.new.self c.args.frames.now c.count.ensures.quiet.table c.requires.frames) (rw (c.in_ok-gathered.ensures, c.new-values.ensures) (tt, reference_same c.args.state.now c.count.new.self c.args.reference c.count.ensures.quiet.table c.requires.reference))
