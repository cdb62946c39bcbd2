use Rattle.std.proofs.Common.{refl}
use Rattle.js_frames.proofs.Steps.{stays, leads, both, quiet_of}
use Rattle.js_frames.proofs.Later.{frames_same}
use Rattle.js_state.proofs.Found.{result_ok, result_err}
use Rattle.js_run_loops.proofs.of_loops.of_items.Goals as goal

pub returns-in-Err-clause-leads : goal.returns-in-Err-clause-leads
returns-in-Err-clause-leads c = leads (stays (quiet_of c.in_ok-found.ensures.still) refl (λ view w. result_err view _ _ _ c.in-Err.is (c.in_ok-found.ensures.goes view _)))

pub returns-in-Err-clause-fits : goal.returns-in-Err-clause-fits
returns-in-Err-clause-fits c = (frames_same c.args.state.now c.iterated.new.state c.args.frames.now c.in_ok-found.ensures.still.table c.requires.frames, rw c.in-Err.is at c.in_ok-found.ensures.fits)

pub of_next-requires : goal.of_next-requires
of_next-requires c = frames_same c.args.state.now c.iterated.new.state c.args.frames.now c.in_ok-found.ensures.still.table c.requires.frames

pub returns-in_ok-work-in-Ok-clause-leads : goal.returns-in_ok-work-in-Ok-clause-leads
returns-in_ok-work-in-Ok-clause-leads c = leads (both (stays (quiet_of c.in_ok-found.ensures.still) refl (λ view w. result_ok view _ _ _ _ c.in-Ok.is (c.in_ok-found.ensures.goes view _))) c.in_ok-work-in-Ok.ensures.leads.to)
