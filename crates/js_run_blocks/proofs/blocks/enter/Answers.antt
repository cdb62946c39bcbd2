use Rattle.std.proofs.Common.{refl}
use Rattle.term_table.specs.Fitting.{Fits}
use Rattle.js_state.proofs.Found.{result_ok, result_err}
use Rattle.js_frames.proofs.Steps.{stays, leads, both, quiet_of}
use Rattle.js_frames.proofs.Passing.{stop_fits, err_stops}
use Rattle.js_frames.proofs.Later.{frames_same}
use Rattle.js_run_blocks.proofs.blocks.enter.Goals as goal

pub returns-in-Err-clause-leads : goal.returns-in-Err-clause-leads
returns-in-Err-clause-leads c = leads (stays (quiet_of c.in_ok-prepared.ensures.still) refl (λ view w. result_err view _ _ _ c.in-Err.is (c.in_ok-prepared.ensures.goes view _)))

pub returns-in-Err-clause-fits : goal.returns-in-Err-clause-fits
returns-in-Err-clause-fits c = (frames_same c.args.state.now c.prepare.new.state c.args.frames.now c.in_ok-prepared.ensures.still.table c.requires, stop_fits (Fits c.prepare.new.state.table) c.in-Err.completion (err_stops c.in_ok-prepared.ensures.stops c.in-Err.is))

pub returns-in_ok-work-in-Ok-clause-leads : goal.returns-in_ok-work-in-Ok-clause-leads
returns-in_ok-work-in-Ok-clause-leads c = leads (both (stays (quiet_of c.in_ok-prepared.ensures.still) refl (λ view w. result_ok view _ _ _ _ c.in-Ok.is (c.in_ok-prepared.ensures.goes view _))) (c.in_ok-work-in-Ok.ensures.leads c.prepare.new.state).to)

pub returns-in_ok-work-in-Ok-clause-fits : goal.returns-in_ok-work-in-Ok-clause-fits
returns-in_ok-work-in-Ok-clause-fits c = c.in_ok-work-in-Ok.ensures.fits c.prepare.new.state (frames_same c.args.state.now c.prepare.new.state c.args.frames.now c.in_ok-prepared.ensures.still.table c.requires)
