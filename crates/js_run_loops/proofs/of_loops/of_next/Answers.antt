use Rattle.std.proofs.Common.{refl, suc, ◌∙◌, ap, arith}
use Rattle.term_table.specs.Fitting.{Fits}
use Rattle.js_frames.specs.Idle.{is_idle}
use Rattle.js_frames.proofs.Going.{exec_few}
use Rattle.js_frames.proofs.Steps.{stays, rounds, leads, quiet_both, quiet_of, where_true, where_false, still}
use Rattle.js_frames.proofs.Passing.{stop_fits, err_stops}
use Rattle.js_frames.proofs.Later.{frames_same, fits_same}
use Rattle.js_state.specs.Seen.{place_of}
use Rattle.js_state.proofs.Found.{result_ok, result_err}
use Rattle.js_run_loops.proofs.Rounds.{of_ends, of_goes, found_as}
use Rattle.js_run_loops.proofs.of_loops.of_next.Goals as goal

pub returns-in-None-clause-leads : goal.returns-in-None-clause-leads
returns-in-None-clause-leads c = leads (stays still refl (λ view w. of_ends w c.args.l c.args.index (place_of view c.args.state.now) (found_as view _ _ _ (c.in_ok-found.ensures.found view) c.in-None.is)))

pub returns-then-not-take_turn-clause-leads : goal.returns-then-not-take_turn-clause-leads
returns-then-not-take_turn-clause-leads c = leads (stays c.take_turn.ensures.quiet refl (λ view w. rw c.cut.ensures (of_goes w c.args.l c.args.index _ (place_of view c.args.state.now) (found_as view _ _ _ (c.in_ok-found.ensures.found view) c.in-Some.is) ∙ where_false _ _ c.if-not-take_turn.true (c.take_turn.ensures.goes view _ _))))

pub open_cell-requires : goal.open_cell-requires
open_cell-requires c = fits_same c.args.state.now c.take_turn.new.self c.in-Some.item c.take_turn.ensures.quiet.table (rw c.in-Some.is at c.in_ok-found.ensures.fits)

pub returns-in-Err-clause-leads : goal.returns-in-Err-clause-leads
returns-in-Err-clause-leads c = leads (stays (quiet_both c.take_turn.ensures.quiet (quiet_of c.in_ok-opened.ensures.still)) refl (λ view w. (of_goes w c.args.l c.args.index _ (place_of view c.args.state.now) (found_as view _ _ _ (c.in_ok-found.ensures.found view) c.in-Some.is) ∙ where_true _ _ c.if-not-take_turn.false (c.take_turn.ensures.goes view _ _) ∙ result_err view _ _ _ c.in-Err.is (c.in_ok-opened.ensures.goes view _))))

pub returns-in-Err-clause-fits : goal.returns-in-Err-clause-fits
returns-in-Err-clause-fits c = (frames_same c.args.state.now c.open_cell.new.self c.args.frames.now (c.in_ok-opened.ensures.still.table ∙ c.take_turn.ensures.quiet.table) c.requires, stop_fits (Fits c.open_cell.new.self.table) c.in-Err.completion (err_stops c.in_ok-opened.ensures.stops c.in-Err.is))

pub returns-in_ok-push-in-Ok-clause-leads : goal.returns-in_ok-push-in-Ok-clause-leads
returns-in_ok-push-in-Ok-clause-leads c = leads (rounds _ (quiet_both c.take_turn.ensures.quiet (quiet_of c.in_ok-opened.ensures.still)) (ap suc c.in_ok-opened.ensures.still.turns ∙ c.take_turn.ensures.taken c.if-not-take_turn.false) c.in_ok-push-in-Ok.ensures.ok (λ view n k. rw c.get.ensures (of_goes (record { calls = n; loops = suc k }) c.args.l c.args.index _ (place_of view c.args.state.now) (found_as view _ _ _ (c.in_ok-found.ensures.found view) c.in-Some.is) ∙ where_true _ _ c.if-not-take_turn.false (c.take_turn.ensures.goes view _ _) ∙ result_ok view _ _ _ _ c.in-Ok.is (c.in_ok-opened.ensures.goes view _))))

pub returns-in_ok-push-in-Ok-clause-fits : goal.returns-in_ok-push-in-Ok-clause-fits
returns-in_ok-push-in-Ok-clause-fits c = rw c.in_ok-push-in-Ok.ensures.ok ((tt, frames_same c.args.state.now c.open_cell.new.self c.args.frames.now (c.in_ok-opened.ensures.still.table ∙ c.take_turn.ensures.quiet.table) c.requires), tt)

pub overflow_add-index : goal.overflow_add-index
overflow_add-index c = let within = (rw c.in-Some.is at c.in_ok-found.ensures.within) in omega (arith, within)

pub returns-in_ok-push-in-Ok-clause-falls : goal.returns-in_ok-push-in-Ok-clause-falls
returns-in_ok-push-in-Ok-clause-falls c =
    let taken = c.take_turn.ensures.taken c.if-not-take_turn.false in
    let few = exec_few (is_idle c.get.result.now) in
    rw (c.in_ok-push-in-Ok.ensures.ok, c.in_ok-opened.ensures.still.nodes, c.take_turn.ensures.nodes) (omega (arith, taken, few, c.in_ok-opened.ensures.still.turns))
