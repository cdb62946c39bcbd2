use Rattle.std.proofs.Common.{refl}
use Rattle.term_table.specs.Fitting.{Fits}
use Rattle.js_meaning.specs.Running.{bind, its_value}
use Rattle.js_meaning.specs.Meaning.{expr, chosen}
use Rattle.js_frames.specs.Machine.{doing}
use Rattle.js_frames.proofs.Steps.{stays, pushes, leads, both, still}
use Rattle.js_frames.proofs.Passing.{tells, stop_fits, err_stops}
use Rattle.js_frames.proofs.Later.{frames_same}
use Rattle.js_run_expressions.proofs.operators.choose.Goals as goal

pub returns-in-Err-clause-leads : goal.returns-in-Err-clause-leads
returns-in-Err-clause-leads c = leads (both (tells c.in_ok-told.told (λ view w b st. bind (doing w (chosen b (expr c.args.consequent.now) (expr c.args.alternate.now)) c.args.scope st) its_value) c.in_ok-told.ensures.does c.in_ok-told.ensures.stops c.in_ok-told.ensures.level.turns) (stays still refl (λ view w. rw c.in-Err.is refl)))

pub returns-in-Err-clause-fits : goal.returns-in-Err-clause-fits
returns-in-Err-clause-fits c = (frames_same c.args.state.now c.test.new.self c.args.frames.now c.in_ok-told.ensures.table c.requires.frames, stop_fits (Fits c.test.new.self.table) c.in-Err.completion (err_stops c.in_ok-told.ensures.stops c.in-Err.is))

pub returns-then-holds-clause-leads : goal.returns-then-holds-clause-leads
returns-then-holds-clause-leads c = leads (both (tells c.in_ok-told.told (λ view w b st. bind (doing w (chosen b (expr c.args.consequent.now) (expr c.args.alternate.now)) c.args.scope st) its_value) c.in_ok-told.ensures.does c.in_ok-told.ensures.stops c.in_ok-told.ensures.level.turns) (pushes _ still c.in_ok-push.ensures.ok (λ view w. rw (c.in-Ok.is, c.if-holds.true) refl)))

pub returns-then-holds-clause-fits : goal.returns-then-holds-clause-fits
returns-then-holds-clause-fits c = rw c.in_ok-push.ensures.ok ((tt, frames_same c.args.state.now c.test.new.self c.args.frames.now c.in_ok-told.ensures.table c.requires.frames), tt)

pub returns-clause-leads : goal.returns-clause-leads
returns-clause-leads c = leads (both (tells c.in_ok-told.told (λ view w b st. bind (doing w (chosen b (expr c.args.consequent.now) (expr c.args.alternate.now)) c.args.scope st) its_value) c.in_ok-told.ensures.does c.in_ok-told.ensures.stops c.in_ok-told.ensures.level.turns) (pushes _ still c.in_ok-push.ensures.ok (λ view w. rw (c.in-Ok.is, c.if-holds.false) refl)))

pub returns-clause-fits : goal.returns-clause-fits
returns-clause-fits c = rw c.in_ok-push.ensures.ok ((tt, frames_same c.args.state.now c.test.new.self c.args.frames.now c.in_ok-told.ensures.table c.requires.frames), tt)
