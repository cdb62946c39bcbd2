use Rattle.std.proofs.Common.{refl}
use Rattle.term_table.specs.Fitting.{Fits}
use Rattle.js_state.proofs.Found.{result_ok, result_err}
use Rattle.js_frames.proofs.Steps.{stays, leads, quiet_of, still}
use Rattle.js_frames.proofs.Passing.{stop_fits, err_stops}
use Rattle.js_frames.proofs.Later.{frames_same}
use Rattle.js_run_statements.proofs.tries.enter_catch.Goals as goal

pub returns-in-None-clause-leads : goal.returns-in-None-clause-leads
returns-in-None-clause-leads c = leads (stays still refl (λ view w. rw (c.in-None.is, c.as_slice.ensures) refl))

pub returns-in-Err-clause-leads : goal.returns-in-Err-clause-leads
returns-in-Err-clause-leads c = leads (stays (quiet_of c.in_ok-opened-in-Some.ensures.still) refl (λ view w. rw c.in-Some.is (result_err view _ _ _ c.in-Err.is (c.in_ok-opened-in-Some.ensures.goes view _))))

pub returns-in-Err-clause-fits : goal.returns-in-Err-clause-fits
returns-in-Err-clause-fits c = (frames_same c.args.state.now c.open_cell.new.self c.args.frames.now c.in_ok-opened-in-Some.ensures.still.table c.requires.frames, stop_fits (Fits c.open_cell.new.self.table) c.in-Err.completion (err_stops c.in_ok-opened-in-Some.ensures.stops c.in-Err.is))

pub returns-in-Ok-clause-leads : goal.returns-in-Ok-clause-leads
returns-in-Ok-clause-leads c = leads (stays (quiet_of c.in_ok-opened-in-Some.ensures.still) refl (λ view w. rw (c.in-Some.is, c.as_slice-in-Ok.ensures) (result_ok view _ _ _ _ c.in-Ok.is (c.in_ok-opened-in-Some.ensures.goes view _))))

pub returns-in-Ok-clause-fits : goal.returns-in-Ok-clause-fits
returns-in-Ok-clause-fits c = (frames_same c.args.state.now c.open_cell.new.self c.args.frames.now c.in_ok-opened-in-Some.ensures.still.table c.requires.frames, tt)
