use Rattle.std.proofs.Common.{refl, ap, take, drop, length, ◌-◌, arith}
use Rattle.std.specs.Option.{option_map}
use Rattle.term_table.specs.Fitting.{Fits}
use Rattle.term_table.specs.Views.{at}
use Rattle.js_ast.specs.declared.statement.Arm.{out-Arm}
use Rattle.js_meaning.specs.Running.{Outcome}
use Rattle.js_meaning.specs.Meaning.{chosen, optional, stmt}
use Rattle.js_state.specs.Seen.{place_of}
use Rattle.js_frames.specs.Machine.{doing, beside, on_arms, after_test}
use Rattle.js_frames.specs.Idle.{is_idle}
use Rattle.js_frames.proofs.Going.{exec_few}
use Rattle.js_frames.proofs.Steps.{stays, leads, both, still}
use Rattle.js_frames.proofs.Passing.{tells, list_none, list_more, stop_fits, err_stops}
use Rattle.js_frames.proofs.Later.{frames_same}
use Rattle.js_run_statements.proofs.arms.arm_test.Goals as goal

pub returns-in-empty-clause-leads : goal.returns-in-empty-clause-leads
returns-in-empty-clause-leads c = leads (stays still refl (λ view w. ap {B = Outcome} (λ xs. after_test w xs c.args.alternate.now c.args.scope (at view c.args.value) (place_of view c.args.state.now)) (list_none c.args.arms.now c.in-empty.len_below)))

pub returns-in-Err-clause-leads : goal.returns-in-Err-clause-leads
returns-in-Err-clause-leads c = leads (both (stays still refl (λ view w. ap {B = Outcome} (λ xs. after_test w xs c.args.alternate.now c.args.scope (at view c.args.value) (place_of view c.args.state.now)) (list_more c.args.arms.now c.first-item.result c.in-len1-up.len_at_least c.first-item.is))) (both (tells c.in_ok-told-in-len1-up.told (λ view w b st. doing w (chosen b (stmt (out-Arm c.first-item.result).consequent) (on_arms (take (length c.args.arms.now - 1) (drop 1 c.args.arms.now)) (optional (option_map beside c.args.alternate.now)))) c.args.scope st) c.in_ok-told-in-len1-up.ensures.does c.in_ok-told-in-len1-up.ensures.stops c.in_ok-told-in-len1-up.ensures.level.turns) (stays still refl (λ view w. rw c.in-Err.is refl))))

pub returns-in-Err-clause-fits : goal.returns-in-Err-clause-fits
returns-in-Err-clause-fits c = (frames_same c.args.state.now c.test.new.self c.args.frames.now c.in_ok-told-in-len1-up.ensures.table c.requires.frames, stop_fits (Fits c.test.new.self.table) c.in-Err.completion (err_stops c.in_ok-told-in-len1-up.ensures.stops c.in-Err.is))

pub returns-then-holds-clause-leads : goal.returns-then-holds-clause-leads
returns-then-holds-clause-leads c = leads (both (stays still refl (λ view w. ap {B = Outcome} (λ xs. after_test w xs c.args.alternate.now c.args.scope (at view c.args.value) (place_of view c.args.state.now)) (list_more c.args.arms.now c.first-item.result c.in-len1-up.len_at_least c.first-item.is))) (both (tells c.in_ok-told-in-len1-up.told (λ view w b st. doing w (chosen b (stmt (out-Arm c.first-item.result).consequent) (on_arms (take (length c.args.arms.now - 1) (drop 1 c.args.arms.now)) (optional (option_map beside c.args.alternate.now)))) c.args.scope st) c.in_ok-told-in-len1-up.ensures.does c.in_ok-told-in-len1-up.ensures.stops c.in_ok-told-in-len1-up.ensures.level.turns) (stays still refl (λ view w. rw (c.in-Ok.is, c.if-holds.true, c.get.ensures) refl))))

pub returns-then-holds-clause-fits : goal.returns-then-holds-clause-fits
returns-then-holds-clause-fits c = (frames_same c.args.state.now c.test.new.self c.args.frames.now c.in_ok-told-in-len1-up.ensures.table c.requires.frames, tt)

pub arms_from-requires : goal.arms_from-requires
arms_from-requires c = frames_same c.args.state.now c.test.new.self c.args.frames.now c.in_ok-told-in-len1-up.ensures.table c.requires.frames

pub returns-in_ok-work-in-len1-up-clause-leads : goal.returns-in_ok-work-in-len1-up-clause-leads
returns-in_ok-work-in-len1-up-clause-leads c = leads (both (stays still refl (λ view w. ap {B = Outcome} (λ xs. after_test w xs c.args.alternate.now c.args.scope (at view c.args.value) (place_of view c.args.state.now)) (list_more c.args.arms.now c.first-item.result c.in-len1-up.len_at_least c.first-item.is))) (both (tells c.in_ok-told-in-len1-up.told (λ view w b st. doing w (chosen b (stmt (out-Arm c.first-item.result).consequent) (on_arms (take (length c.args.arms.now - 1) (drop 1 c.args.arms.now)) (optional (option_map beside c.args.alternate.now)))) c.args.scope st) c.in_ok-told-in-len1-up.ensures.does c.in_ok-told-in-len1-up.ensures.stops c.in_ok-told-in-len1-up.ensures.level.turns) (both (stays still refl (λ view w. rw (c.in-Ok.is, c.if-holds.false) refl)) c.in_ok-work-in-len1-up.ensures.leads.to)))

pub returns-then-holds-clause-falls : goal.returns-then-holds-clause-falls
returns-then-holds-clause-falls c =
    let few = exec_few (is_idle c.get.result.now) in
    let level = c.in_ok-told-in-len1-up.ensures.level in
    rw level.nodes (omega (arith, few, level.turns))
