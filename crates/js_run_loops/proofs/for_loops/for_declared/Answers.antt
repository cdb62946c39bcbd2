use Rattle.std.proofs.Common.{refl, suc}
use Rattle.js_meaning.specs.Loops.{next_scope}
use Rattle.js_state.specs.Held.{scope_of}
use Rattle.js_state.specs.Seen.{place_of}
use Rattle.js_frames.specs.Machine.{copied, for_on}
use Rattle.term_table.specs.Fitting.{Fits}
use Rattle.js_frames.proofs.Steps.{stays, leads, both, quiet_of, still}
use Rattle.js_frames.proofs.Passing.{normal_passes, stop_fits, err_stops}
use Rattle.js_frames.proofs.Later.{frames_same}
use Rattle.js_state.proofs.Found.{result_ok, result_err}
use Rattle.js_run_loops.proofs.for_loops.for_declared.Goals as goal

pub returns-in-Err-clause-leads : goal.returns-in-Err-clause-leads
returns-in-Err-clause-leads c = leads (stays (quiet_of c.in_ok-next-in-Normal.ensures.still) refl (λ view w. rw c.in-Normal.is (result_err view _ _ _ c.in-Err.is (c.in_ok-next-in-Normal.ensures.goes view _))))

pub returns-in-Err-clause-fits : goal.returns-in-Err-clause-fits
returns-in-Err-clause-fits c = (frames_same c.args.state.now c.next_scope.new.state c.args.frames.now c.in_ok-next-in-Normal.ensures.still.table c.requires.frames, stop_fits (Fits c.next_scope.new.state.table) c.in-Err.end (err_stops c.in_ok-next-in-Normal.ensures.stops c.in-Err.is))

pub for_on-requires : goal.for_on-requires
for_on-requires c = frames_same c.args.state.now c.next_scope.new.state c.args.frames.now c.in_ok-next-in-Normal.ensures.still.table c.requires.frames

pub returns-in_ok-work-in-Ok-clause-leads : goal.returns-in_ok-work-in-Ok-clause-leads
returns-in_ok-work-in-Ok-clause-leads c = leads (both (stays (quiet_of c.in_ok-next-in-Normal.ensures.still) refl (λ view w. rw c.in-Normal.is (result_ok view _ _ _ _ c.in-Ok.is (c.in_ok-next-in-Normal.ensures.goes view _)))) c.in_ok-work-in-Ok.ensures.leads.to)

pub returns-in_default-clause-leads : goal.returns-in_default-clause-leads
returns-in_default-clause-leads c = leads (stays still refl (λ view w. normal_passes view (λ st. next_scope (copied c.args.l.head.now) (scope_of c.args.scope) (scope_of c.args.l.outer) st (for_on w (suc w.loops) c.args.l)) (place_of view c.args.state.now) c.args.completion c.in_default.not-Normal))
