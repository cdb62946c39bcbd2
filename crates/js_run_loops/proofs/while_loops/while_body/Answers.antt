use Rattle.std.proofs.Common.{refl, suc}
use Rattle.js_frames.specs.Machine.{while_on}
use Rattle.js_state.specs.Seen.{place_of}
use Rattle.js_frames.proofs.Steps.{stays, pushes, leads, still}
use Rattle.js_run_loops.proofs.while_loops.while_body.Goals as goal

pub returns-in-Err-clause-leads : goal.returns-in-Err-clause-leads
returns-in-Err-clause-leads c = leads (stays still refl (λ view w. c.in-Err.ensures.goes view (place_of view c.args.state.now) (while_on w (suc w.loops) c.args.l)))

pub returns-in-Err-clause-fits : goal.returns-in-Err-clause-fits
returns-in-Err-clause-fits c = (c.requires.frames, c.in-Err.ensures.fits c.args.state.now.table c.requires.completion)

pub returns-in_ok-push-in-Ok-clause-leads : goal.returns-in_ok-push-in-Ok-clause-leads
returns-in_ok-push-in-Ok-clause-leads c = leads (pushes _ still c.in_ok-push-in-Ok.ensures.ok (λ view w. c.in-Ok.ensures.goes view (place_of view c.args.state.now) (while_on w (suc w.loops) c.args.l)))
