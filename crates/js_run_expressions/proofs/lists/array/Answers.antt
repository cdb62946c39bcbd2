use Rattle.std.proofs.Common.{refl, ◌∙◌}
use Rattle.term_table.specs.Fitting.{Fits}
use Rattle.js_frames.proofs.Steps.{stays, leads, both, quiet_both, quiet_of, where_true, where_false}
use Rattle.js_frames.proofs.Passing.{stop_fits, err_stops}
use Rattle.js_frames.proofs.Later.{frames_same}
use Rattle.js_frames.proofs.Opens as opens
use Rattle.js_state.proofs.Found.{result_ok, result_err}
use Rattle.js_run_expressions.proofs.lists.array.Goals as goal

pub returns-then-not-count-clause-leads : goal.returns-then-not-count-clause-leads
returns-then-not-count-clause-leads c = leads (stays c.count.ensures.quiet refl (λ view w. rw (opens.expr_Array, c.cut.ensures) (where_false _ _ c.if-not-count.true (c.count.ensures.goes view _ _))))

pub returns-in-Err-clause-leads : goal.returns-in-Err-clause-leads
returns-in-Err-clause-leads c = leads (stays (quiet_both c.count.ensures.quiet (quiet_of c.in_ok-made.ensures.still)) refl (λ view w. rw opens.expr_Array (where_true _ _ c.if-not-count.false (c.count.ensures.goes view _ _) ∙ result_err view _ _ _ c.in-Err.is (c.in_ok-made.ensures.goes view _))))

pub returns-in-Err-clause-fits : goal.returns-in-Err-clause-fits
returns-in-Err-clause-fits c = (frames_same c.args.state.now c.new_array.new.self c.args.frames.now (c.in_ok-made.ensures.still.table ∙ c.count.ensures.quiet.table) c.requires, stop_fits (Fits c.new_array.new.self.table) c.in-Err.completion (err_stops c.in_ok-made.ensures.stops c.in-Err.is))

pub returns-in_ok-work-in-Ok-clause-leads : goal.returns-in_ok-work-in-Ok-clause-leads
returns-in_ok-work-in-Ok-clause-leads c = leads (both (stays (quiet_both c.count.ensures.quiet (quiet_of c.in_ok-made.ensures.still)) refl (λ view w. rw opens.expr_Array (where_true _ _ c.if-not-count.false (c.count.ensures.goes view _ _) ∙ result_ok view _ _ _ _ c.in-Ok.is (c.in_ok-made.ensures.goes view _)))) (c.in_ok-work-in-Ok.ensures.leads c.new_array.new.self).to)

pub returns-in_ok-work-in-Ok-clause-fits : goal.returns-in_ok-work-in-Ok-clause-fits
returns-in_ok-work-in-Ok-clause-fits c = c.in_ok-work-in-Ok.ensures.fits c.new_array.new.self (frames_same c.args.state.now c.new_array.new.self c.args.frames.now (c.in_ok-made.ensures.still.table ∙ c.count.ensures.quiet.table) c.requires)
