use Rattle.std.proofs.Common.{refl}
use Rattle.term_table.specs.Fitting.{Fits}
use Rattle.js_frames.proofs.Steps.{stays, pushes, leads, both, quiet_of}
use Rattle.js_frames.proofs.Passing.{stop_fits, err_stops}
use Rattle.js_frames.proofs.Later.{frames_same}
use Rattle.js_state.proofs.Found.{result_ok, result_err}
use Rattle.js_run_loops.proofs.for_loops.for_next.Goals as goal

pub returns-in-Err-clause-leads : goal.returns-in-Err-clause-leads
returns-in-Err-clause-leads c = leads (stays (quiet_of c.in_ok-next.ensures.still) refl (λ view w. result_err view _ _ _ c.in-Err.is (c.in_ok-next.ensures.goes view _)))

pub returns-in-Err-clause-fits : goal.returns-in-Err-clause-fits
returns-in-Err-clause-fits c = (frames_same c.args.state.now c.next_scope.new.state c.args.frames.now c.in_ok-next.ensures.still.table c.requires, stop_fits (Fits c.next_scope.new.state.table) c.in-Err.completion (err_stops c.in_ok-next.ensures.stops c.in-Err.is))

pub for_on-requires : goal.for_on-requires
for_on-requires c = frames_same c.args.state.now c.next_scope.new.state c.args.frames.now c.in_ok-next.ensures.still.table c.requires

pub returns-in_ok-work-in-None-clause-leads : goal.returns-in_ok-work-in-None-clause-leads
returns-in_ok-work-in-None-clause-leads c = leads (both (stays (quiet_of c.in_ok-next.ensures.still) refl (λ view w. rw c.in-None.is (result_ok view _ _ _ _ c.in-Ok.is (c.in_ok-next.ensures.goes view _)))) c.in_ok-work-in-None.ensures.leads.to)

pub returns-in_ok-push-in-Some-clause-leads : goal.returns-in_ok-push-in-Some-clause-leads
returns-in_ok-push-in-Some-clause-leads c = leads (pushes _ (quiet_of c.in_ok-next.ensures.still) c.in_ok-push-in-Some.ensures.ok (λ view w. rw c.in-Some.is (result_ok view _ _ _ _ c.in-Ok.is (c.in_ok-next.ensures.goes view _))))

pub returns-in_ok-push-in-Some-clause-fits : goal.returns-in_ok-push-in-Some-clause-fits
returns-in_ok-push-in-Some-clause-fits c = rw c.in_ok-push-in-Some.ensures.ok ((tt, frames_same c.args.state.now c.next_scope.new.state c.args.frames.now c.in_ok-next.ensures.still.table c.requires), tt)
