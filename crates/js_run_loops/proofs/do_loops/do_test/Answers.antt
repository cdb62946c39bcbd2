use Rattle.std.proofs.Common.{refl, suc}
use Rattle.term_table.specs.Fitting.{Fits}
use Rattle.js_meaning.specs.Loops.{again_if}
use Rattle.js_frames.specs.Machine.{do_on}
use Rattle.js_frames.proofs.Steps.{stays, leads, both, still}
use Rattle.js_frames.proofs.Passing.{tells, stop_fits, err_stops}
use Rattle.js_frames.proofs.Later.{frames_same}
use Rattle.js_run_loops.proofs.do_loops.do_test.Goals as goal

pub returns-in-Err-clause-leads : goal.returns-in-Err-clause-leads
returns-in-Err-clause-leads c = leads (both (tells c.in_ok-told.told (λ view w b st. again_if (do_on w (suc w.loops) c.args.l) b st) c.in_ok-told.ensures.does c.in_ok-told.ensures.stops c.in_ok-told.ensures.level.turns) (stays still refl (λ view w. rw c.in-Err.is refl)))

pub returns-in-Err-clause-fits : goal.returns-in-Err-clause-fits
returns-in-Err-clause-fits c = (frames_same c.args.state.now c.test.new.self c.args.frames.now c.in_ok-told.ensures.table c.requires.frames, stop_fits (Fits c.test.new.self.table) c.in-Err.completion (err_stops c.in_ok-told.ensures.stops c.in-Err.is))

pub returns-then-not-holds-clause-leads : goal.returns-then-not-holds-clause-leads
returns-then-not-holds-clause-leads c = leads (both (tells c.in_ok-told.told (λ view w b st. again_if (do_on w (suc w.loops) c.args.l) b st) c.in_ok-told.ensures.does c.in_ok-told.ensures.stops c.in_ok-told.ensures.level.turns) (stays still refl (λ view w. rw (c.in-Ok.is, c.if-not-holds.true) refl)))

pub returns-then-not-holds-clause-fits : goal.returns-then-not-holds-clause-fits
returns-then-not-holds-clause-fits c = (frames_same c.args.state.now c.test.new.self c.args.frames.now c.in_ok-told.ensures.table c.requires.frames, tt)

pub round-requires : goal.round-requires
round-requires c = frames_same c.args.state.now c.test.new.self c.args.frames.now c.in_ok-told.ensures.table c.requires.frames

pub returns-clause-leads : goal.returns-clause-leads
returns-clause-leads c = leads (both (tells c.in_ok-told.told (λ view w b st. again_if (do_on w (suc w.loops) c.args.l) b st) c.in_ok-told.ensures.does c.in_ok-told.ensures.stops c.in_ok-told.ensures.level.turns) (both (stays still refl (λ view w. rw (c.in-Ok.is, c.if-not-holds.false) refl)) c.in_ok-work.ensures.leads.to))
