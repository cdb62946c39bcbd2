use Rattle.std.proofs.Common.{refl}
use Rattle.term_table.specs.Fitting.{Fits}
use Rattle.js_frames.proofs.Steps.{stays, pushes, leads, quiet_of}
use Rattle.js_frames.proofs.Passing.{stop_fits, err_stops}
use Rattle.js_frames.proofs.Later.{frames_same}
use Rattle.js_state.proofs.Found.{result_ok, result_err}
use Rattle.js_run_loops.proofs.heads.declare_names.Goals as goal

pub returns-in-Err-clause-leads : goal.returns-in-Err-clause-leads
returns-in-Err-clause-leads c = leads (stays (quiet_of c.in_ok-opened.ensures.still) refl (λ view w. result_err view _ _ _ c.in-Err.is (c.in_ok-opened.ensures.goes view _)))

pub returns-in-Err-clause-fits : goal.returns-in-Err-clause-fits
returns-in-Err-clause-fits c = (frames_same c.args.state.now c.open_names.new.state c.args.frames.now c.in_ok-opened.ensures.still.table c.requires, stop_fits (Fits c.open_names.new.state.table) c.in-Err.completion (err_stops c.in_ok-opened.ensures.stops c.in-Err.is))

pub returns-in_ok-push-in-Ok-clause-leads : goal.returns-in_ok-push-in-Ok-clause-leads
returns-in_ok-push-in-Ok-clause-leads c = leads (pushes _ (quiet_of c.in_ok-opened.ensures.still) c.in_ok-push-in-Ok.ensures.ok (λ view w. result_ok view _ _ _ _ c.in-Ok.is (c.in_ok-opened.ensures.goes view _)))

pub returns-in_ok-push-in-Ok-clause-fits : goal.returns-in_ok-push-in-Ok-clause-fits
returns-in_ok-push-in-Ok-clause-fits c = rw c.in_ok-push-in-Ok.ensures.ok ((tt, frames_same c.args.state.now c.open_names.new.state c.args.frames.now c.in_ok-opened.ensures.still.table c.requires), tt)
