use Rattle.std.proofs.Common.{refl}
use Rattle.term_table.specs.Fitting.{Fits}
use Rattle.js_meaning.specs.Loops.{round_if}
use Rattle.js_meaning.specs.Meaning.{stmt}
use Rattle.js_state.specs.Held.{scope_of}
use Rattle.js_frames.specs.Machine.{doing, for_next}
use Rattle.js_frames.proofs.Steps.{stays, leads, both, still}
use Rattle.js_frames.proofs.Passing.{tells, stop_fits, err_stops}
use Rattle.js_frames.proofs.Later.{frames_same}
use Rattle.js_run_loops.proofs.for_loops.for_test.Goals as goal

pub returns-in-Err-clause-leads : goal.returns-in-Err-clause-leads
returns-in-Err-clause-leads c = leads (both (tells c.in_ok-told.told (λ view w b st. round_if c.args.l.site (doing w (stmt c.args.l.body.now) c.args.scope) (for_next w w.loops w.loops c.args.l (scope_of c.args.scope)) b st) c.in_ok-told.ensures.does c.in_ok-told.ensures.stops c.in_ok-told.ensures.level.turns) (stays still refl (λ view w. rw c.in-Err.is refl)))

pub returns-in-Err-clause-fits : goal.returns-in-Err-clause-fits
returns-in-Err-clause-fits c = (frames_same c.args.state.now c.test.new.self c.args.frames.now c.in_ok-told.ensures.table c.requires.frames, stop_fits (Fits c.test.new.self.table) c.in-Err.completion (err_stops c.in_ok-told.ensures.stops c.in-Err.is))

pub returns-then-not-holds-clause-leads : goal.returns-then-not-holds-clause-leads
returns-then-not-holds-clause-leads c = leads (both (tells c.in_ok-told.told (λ view w b st. round_if c.args.l.site (doing w (stmt c.args.l.body.now) c.args.scope) (for_next w w.loops w.loops c.args.l (scope_of c.args.scope)) b st) c.in_ok-told.ensures.does c.in_ok-told.ensures.stops c.in_ok-told.ensures.level.turns) (stays still refl (λ view w. rw (c.in-Ok.is, c.if-not-holds.true) refl)))

pub returns-then-not-holds-clause-fits : goal.returns-then-not-holds-clause-fits
returns-then-not-holds-clause-fits c = (frames_same c.args.state.now c.test.new.self c.args.frames.now c.in_ok-told.ensures.table c.requires.frames, tt)

pub round-requires : goal.round-requires
round-requires c = frames_same c.args.state.now c.test.new.self c.args.frames.now c.in_ok-told.ensures.table c.requires.frames

pub returns-clause-leads : goal.returns-clause-leads
returns-clause-leads c = leads (both (tells c.in_ok-told.told (λ view w b st. round_if c.args.l.site (doing w (stmt c.args.l.body.now) c.args.scope) (for_next w w.loops w.loops c.args.l (scope_of c.args.scope)) b st) c.in_ok-told.ensures.does c.in_ok-told.ensures.stops c.in_ok-told.ensures.level.turns) (both (stays still refl (λ view w. rw (c.in-Ok.is, c.if-not-holds.false) refl)) c.in_ok-work.ensures.leads.to))
