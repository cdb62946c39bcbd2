use Rattle.std.proofs.Common.{refl, ◌∙◌, ap, take, drop, length, ◌-◌}
use Rattle.term_table.specs.Fitting.{Fits}
use Rattle.term_table.specs.Views.{at}
use Rattle.js_meaning.specs.Running.{on_value, bind}
use Rattle.js_meaning.specs.Operators.{goes_on}
use Rattle.js_meaning.specs.Parts.{decided}
use Rattle.js_meaning.specs.Meaning.{expr}
use Rattle.js_state.specs.Held.{scope_of}
use Rattle.js_state.specs.Seen.{place_of}
use Rattle.js_frames.specs.Machine.{calling, on_logical}
use Rattle.js_frames.proofs.Steps.{stays, pushes, leads, both, where_true, where_false, still}
use Rattle.js_frames.proofs.Passing.{tells, list_none, list_more, stop_fits, err_stops}
use Rattle.js_frames.proofs.Later.{frames_same, fits_same}
use Rattle.js_run_expressions.proofs.operators.logical.Goals as goal

pub returns-in-empty-clause-leads : goal.returns-in-empty-clause-leads
returns-in-empty-clause-leads c = leads (stays still refl (λ view w. ap (λ ls. on_logical w ls c.args.scope (at view c.args.value) (place_of view c.args.state.now)) (list_none c.args.links.now c.in-empty.len_below)))

pub returns-then-not-count-clause-leads : goal.returns-then-not-count-clause-leads
returns-then-not-count-clause-leads c = leads (stays c.count.ensures.quiet refl (λ view w. rw c.cut.ensures (ap (λ ls. on_logical w ls c.args.scope (at view c.args.value) (place_of view c.args.state.now)) (list_more c.args.links.now c.first-item.result c.in-len1-up.len_at_least c.first-item.is) ∙ where_false _ _ c.if-not-count.true (c.count.ensures.goes view _ _))))

pub returns-in-Err-clause-leads : goal.returns-in-Err-clause-leads
returns-in-Err-clause-leads c = leads (both (stays c.count.ensures.quiet refl (λ view w. ap (λ ls. on_logical w ls c.args.scope (at view c.args.value) (place_of view c.args.state.now)) (list_more c.args.links.now c.first-item.result c.in-len1-up.len_at_least c.first-item.is) ∙ where_true _ _ c.if-not-count.false (c.count.ensures.goes view _ _))) (both (tells c.in_ok-told-in-len1-up.told (λ view w b st. bind (decided (goes_on c.first-item.result.op b) (expr c.first-item.result.right) (at view c.args.value) (calling w) w.loops (scope_of c.args.scope) st) (on_value (on_logical w (take (length c.args.links.now - 1) (drop 1 c.args.links.now)) c.args.scope))) c.in_ok-told-in-len1-up.ensures.does c.in_ok-told-in-len1-up.ensures.stops c.in_ok-told-in-len1-up.ensures.level.turns) (stays still refl (λ view w. rw c.in-Err.is refl))))

pub returns-in-Err-clause-fits : goal.returns-in-Err-clause-fits
returns-in-Err-clause-fits c = (frames_same c.args.state.now c.decide.new.self c.args.frames.now (c.in_ok-told-in-len1-up.ensures.table ∙ c.count.ensures.quiet.table) c.requires.frames, stop_fits (Fits c.decide.new.self.table) c.in-Err.completion (err_stops c.in_ok-told-in-len1-up.ensures.stops c.in-Err.is))

pub returns-then-not-goes_on-clause-leads : goal.returns-then-not-goes_on-clause-leads
returns-then-not-goes_on-clause-leads c = leads (both (stays c.count.ensures.quiet refl (λ view w. ap (λ ls. on_logical w ls c.args.scope (at view c.args.value) (place_of view c.args.state.now)) (list_more c.args.links.now c.first-item.result c.in-len1-up.len_at_least c.first-item.is) ∙ where_true _ _ c.if-not-count.false (c.count.ensures.goes view _ _))) (both (tells c.in_ok-told-in-len1-up.told (λ view w b st. bind (decided (goes_on c.first-item.result.op b) (expr c.first-item.result.right) (at view c.args.value) (calling w) w.loops (scope_of c.args.scope) st) (on_value (on_logical w (take (length c.args.links.now - 1) (drop 1 c.args.links.now)) c.args.scope))) c.in_ok-told-in-len1-up.ensures.does c.in_ok-told-in-len1-up.ensures.stops c.in_ok-told-in-len1-up.ensures.level.turns) (pushes _ still c.in_ok-push-in-len1-up.ensures.ok (λ view w. rw (c.in-Ok.is, ← c.if-not-goes_on.ensures) refl))))

pub returns-then-not-goes_on-clause-fits : goal.returns-then-not-goes_on-clause-fits
returns-then-not-goes_on-clause-fits c = rw c.in_ok-push-in-len1-up.ensures.ok ((tt, frames_same c.args.state.now c.decide.new.self c.args.frames.now (c.in_ok-told-in-len1-up.ensures.table ∙ c.count.ensures.quiet.table) c.requires.frames), fits_same c.args.state.now c.decide.new.self c.args.value (c.in_ok-told-in-len1-up.ensures.table ∙ c.count.ensures.quiet.table) c.requires.value)

pub returns-else-not-goes_on-clause-leads : goal.returns-else-not-goes_on-clause-leads
returns-else-not-goes_on-clause-leads c = leads (both (stays c.count.ensures.quiet refl (λ view w. ap (λ ls. on_logical w ls c.args.scope (at view c.args.value) (place_of view c.args.state.now)) (list_more c.args.links.now c.first-item.result c.in-len1-up.len_at_least c.first-item.is) ∙ where_true _ _ c.if-not-count.false (c.count.ensures.goes view _ _))) (both (tells c.in_ok-told-in-len1-up.told (λ view w b st. bind (decided (goes_on c.first-item.result.op b) (expr c.first-item.result.right) (at view c.args.value) (calling w) w.loops (scope_of c.args.scope) st) (on_value (on_logical w (take (length c.args.links.now - 1) (drop 1 c.args.links.now)) c.args.scope))) c.in_ok-told-in-len1-up.ensures.does c.in_ok-told-in-len1-up.ensures.stops c.in_ok-told-in-len1-up.ensures.level.turns) (pushes _ still c.in_ok-push-in-len1-up.ensures.ok (λ view w. rw (c.in-Ok.is, ← c.if-not-goes_on.ensures) refl))))

pub returns-else-not-goes_on-clause-fits : goal.returns-else-not-goes_on-clause-fits
returns-else-not-goes_on-clause-fits c = rw c.in_ok-push-in-len1-up.ensures.ok ((tt, frames_same c.args.state.now c.decide.new.self c.args.frames.now (c.in_ok-told-in-len1-up.ensures.table ∙ c.count.ensures.quiet.table) c.requires.frames), tt)
