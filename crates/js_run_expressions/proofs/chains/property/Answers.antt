use Rattle.std.proofs.Common.{refl, ◌∙◌, ap}
use Rattle.term_table.specs.Fitting.{Fits}
use Rattle.js_meaning.specs.Running.{on_reference, bind}
use Rattle.js_frames.specs.Machine.{on_chain}
use Rattle.js_frames.proofs.Steps.{stays, pushes, leads, quiet_both, quiet_of, where_true, where_false, still}
use Rattle.js_frames.proofs.Passing.{stop_fits, err_stops}
use Rattle.js_frames.proofs.Later.{frames_same}
use Rattle.js_state.proofs.Found.{result_ok, result_err}
use Rattle.js_run_expressions.proofs.chains.property.Goals as goal

pub returns-in-Err-clause-leads : goal.returns-in-Err-clause-leads
returns-in-Err-clause-leads c = leads (stays still refl (λ view w. result_err view _ _ _ c.in-Err.is (c.settle-settled.ensures.goes view _)))

pub returns-in-Err-clause-fits : goal.returns-in-Err-clause-fits
returns-in-Err-clause-fits c = (c.requires.frames, stop_fits (Fits c.args.state.now.table) c.in-Err.completion (err_stops c.settle-settled.ensures.stops c.in-Err.is))

pub returns-then-not-count-clause-leads : goal.returns-then-not-count-clause-leads
returns-then-not-count-clause-leads c = leads (stays c.count.ensures.quiet refl (λ view w. rw c.cut.ensures (result_ok view _ _ _ _ c.in-Ok.is (c.settle-settled.ensures.goes view _) ∙ where_false _ _ c.if-not-count.true (c.count.ensures.goes view _ _))))

pub returns-clause-leads : goal.returns-clause-leads
returns-clause-leads c = leads (pushes _ (quiet_both c.count.ensures.quiet (quiet_of c.in_ok-completion-in-Ok.ensures.still)) c.in_ok-push-in-Ok.ensures.ok (λ view w. result_ok view _ _ _ _ c.in-Ok.is (c.settle-settled.ensures.goes view _) ∙ where_true _ _ c.if-not-count.false (c.count.ensures.goes view _ _) ∙ ap (λ o. bind o (on_reference (on_chain w c.args.rest.now c.args.scope))) (c.in_ok-completion-in-Ok.ensures.gives view)))

pub returns-clause-fits : goal.returns-clause-fits
returns-clause-fits c = rw c.in_ok-push-in-Ok.ensures.ok ((tt, frames_same c.args.state.now c.property.new.self c.args.frames.now (c.in_ok-completion-in-Ok.ensures.still.table ∙ c.count.ensures.quiet.table) c.requires.frames), c.in_ok-completion-in-Ok.ensures.fits)
