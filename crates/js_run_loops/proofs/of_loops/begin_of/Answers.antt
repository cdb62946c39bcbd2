use Rattle.std.proofs.Common.{refl, ◌∙◌}
use Rattle.term_table.specs.Fitting.{Fits}
use Rattle.js_frames.proofs.Steps.{stays, pushes, leads, quiet_both, quiet_of, where_true, where_false}
use Rattle.js_frames.proofs.Passing.{stop_fits, err_stops}
use Rattle.js_frames.proofs.Later.{frames_same}
use Rattle.js_frames.proofs.Statements as opens
use Rattle.js_state.proofs.Found.{result_ok, result_err}
use Rattle.js_state.specs.Held.{scope_of}
use Rattle.js_state.specs.Seen.{place_of}
use Rattle.js_frames.specs.Machine.{calling}
use Rattle.js_run_loops.proofs.Rounds.{of_begins}
use Rattle.js_run_loops.proofs.of_loops.begin_of.Goals as goal

pub returns-then-not-count-clause-leads : goal.returns-then-not-count-clause-leads
returns-then-not-count-clause-leads c = leads (stays c.count.ensures.quiet refl (λ view w. rw (opens.stmt_ForOf, c.cut.ensures) (where_false _ _ c.if-not-count.true (c.count.ensures.goes view _ _))))

pub returns-in-Err-clause-leads : goal.returns-in-Err-clause-leads
returns-in-Err-clause-leads c = leads (stays (quiet_both c.count.ensures.quiet (quiet_of c.in_ok-opened.ensures.still)) refl (λ view w. of_begins c.args.site c.args.kind c.args.name.now c.args.items.now c.args.body.now (calling w) w.loops (scope_of c.args.scope) (place_of view c.args.state.now) c.is_let-is_mutable.result c.is_let-is_mutable.ensures ∙ where_true _ _ c.if-not-count.false (c.count.ensures.goes view _ _) ∙ result_err view _ _ _ c.in-Err.is (c.in_ok-opened.ensures.goes view _)))

pub returns-in-Err-clause-fits : goal.returns-in-Err-clause-fits
returns-in-Err-clause-fits c = (frames_same c.args.state.now c.open_cell.new.self c.args.frames.now (c.in_ok-opened.ensures.still.table ∙ c.count.ensures.quiet.table) c.requires, stop_fits (Fits c.open_cell.new.self.table) c.in-Err.completion (err_stops c.in_ok-opened.ensures.stops c.in-Err.is))

pub returns-in_ok-push-in-Ok-clause-leads : goal.returns-in_ok-push-in-Ok-clause-leads
returns-in_ok-push-in-Ok-clause-leads c = leads (pushes _ (quiet_both c.count.ensures.quiet (quiet_of c.in_ok-opened.ensures.still)) c.in_ok-push-in-Ok.ensures.ok (λ view w. of_begins c.args.site c.args.kind c.args.name.now c.args.items.now c.args.body.now (calling w) w.loops (scope_of c.args.scope) (place_of view c.args.state.now) c.is_let-is_mutable.result c.is_let-is_mutable.ensures ∙ where_true _ _ c.if-not-count.false (c.count.ensures.goes view _ _) ∙ result_ok view _ _ _ _ c.in-Ok.is (c.in_ok-opened.ensures.goes view _)))

pub returns-in_ok-push-in-Ok-clause-fits : goal.returns-in_ok-push-in-Ok-clause-fits
returns-in_ok-push-in-Ok-clause-fits c = rw c.in_ok-push-in-Ok.ensures.ok ((tt, frames_same c.args.state.now c.open_cell.new.self c.args.frames.now (c.in_ok-opened.ensures.still.table ∙ c.count.ensures.quiet.table) c.requires), tt)
