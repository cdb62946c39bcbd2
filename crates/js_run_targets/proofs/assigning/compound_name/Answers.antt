use Rattle.std.proofs.Common.{refl, ◌∙◌, ap}
use Rattle.js_meaning.specs.Running.{on_value, bind}
use Rattle.js_meaning.specs.Meaning.{expr}
use Rattle.js_state.specs.Held.{scope_of}
use Rattle.js_frames.specs.Machine.{calling}
use Rattle.js_frames.proofs.Steps.{stays, pushes, leads, quiet_of}
use Rattle.js_state.proofs.Found.{result_ok, result_err}
use Rattle.js_meaning.specs.Parts.{name_aim, put_aim, apply}
use Rattle.js_run_targets.proofs.assigning.compound_name.Goals as goal

pub returns-in-Err-clause-leads : goal.returns-in-Err-clause-leads
returns-in-Err-clause-leads c = leads (stays (quiet_of c.in_ok-read.ensures.still) refl (λ view w. ap (λ o. bind o (on_value (λ x st. bind (expr c.args.value.now (calling w) w.loops (scope_of c.args.scope) st) (on_value (λ y st. bind (apply c.args.op c.args.site x y st) (on_value (put_aim (scope_of c.args.scope) (name_aim c.args.name.now.site c.args.name.now.name)))))))) (c.in_ok-read.ensures.gives view) ∙ result_err view _ _ _ c.in-Err.is (c.value.ensures.goes view (λ x st. bind (expr c.args.value.now (calling w) w.loops (scope_of c.args.scope) st) (on_value (λ y st. bind (apply c.args.op c.args.site x y st) (on_value (put_aim (scope_of c.args.scope) (name_aim c.args.name.now.site c.args.name.now.name)))))))))

pub returns-in_ok-push-in-Ok-clause-leads : goal.returns-in_ok-push-in-Ok-clause-leads
returns-in_ok-push-in-Ok-clause-leads c = leads (pushes _ (quiet_of c.in_ok-read.ensures.still) c.in_ok-push-in-Ok.ensures.ok (λ view w. ap (λ o. bind o (on_value (λ x st. bind (expr c.args.value.now (calling w) w.loops (scope_of c.args.scope) st) (on_value (λ y st. bind (apply c.args.op c.args.site x y st) (on_value (put_aim (scope_of c.args.scope) (name_aim c.args.name.now.site c.args.name.now.name)))))))) (c.in_ok-read.ensures.gives view) ∙ result_ok view _ _ _ _ c.in-Ok.is (c.value.ensures.goes view (λ x st. bind (expr c.args.value.now (calling w) w.loops (scope_of c.args.scope) st) (on_value (λ y st. bind (apply c.args.op c.args.site x y st) (on_value (put_aim (scope_of c.args.scope) (name_aim c.args.name.now.site c.args.name.now.name)))))))))
