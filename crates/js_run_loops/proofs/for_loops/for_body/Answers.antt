use Rattle.std.proofs.Common.{refl, suc}
use Rattle.js_state.specs.Held.{scope_of}
use Rattle.js_frames.specs.Machine.{for_next}
use Rattle.js_state.specs.Seen.{place_of}
use Rattle.js_frames.proofs.Steps.{stays, leads, both, still}
use Rattle.js_run_loops.proofs.for_loops.for_body.Goals as goal

pub returns-in-Err-clause-leads : goal.returns-in-Err-clause-leads
returns-in-Err-clause-leads c = leads (stays still refl (λ view w. c.in-Err.ensures.goes view (place_of view c.args.state.now) (for_next w (suc w.loops) (suc w.loops) c.args.l (scope_of c.args.scope))))

pub returns-in-Err-clause-fits : goal.returns-in-Err-clause-fits
returns-in-Err-clause-fits c = (c.requires.frames, c.in-Err.ensures.fits c.args.state.now.table c.requires.completion)

pub returns-in_ok-work-in-Ok-clause-leads : goal.returns-in_ok-work-in-Ok-clause-leads
returns-in_ok-work-in-Ok-clause-leads c = leads (both (stays still refl (λ view w. c.in-Ok.ensures.goes view (place_of view c.args.state.now) (for_next w (suc w.loops) (suc w.loops) c.args.l (scope_of c.args.scope)))) c.in_ok-work-in-Ok.ensures.leads.to)
