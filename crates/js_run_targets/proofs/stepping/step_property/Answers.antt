use Rattle.std.proofs.Common.{arith, refl, ◌∙◌, ap}
use Rattle.term_table.specs.Views.{at}
use Rattle.js_meaning.specs.Running.{on_value, bind, play, done}
use Rattle.js_state.specs.Held.{scope_of}
use Rattle.js_frames.proofs.Steps.{stays, leads, both, plays, quiet_of, still}
use Rattle.js_state.proofs.Found.{result_ok, result_err}
use Rattle.js_meaning.specs.Running.{given}
use Rattle.js_meaning.specs.Operators.{step_row}
use Rattle.js_meaning.specs.Parts.{property_aim, put_aim, step_value}
use Rattle.js_run_targets.proofs.stepping.step_property.Goals as goal

pub returns-in-Err-clause-leads : goal.returns-in-Err-clause-leads
returns-in-Err-clause-leads c = λ fs. leads (stays (quiet_of c.in_ok-read.ensures.still) refl (λ view w. ap (λ o. bind o (on_value (λ x st. bind (play (step_row c.args.op c.args.site x) st) (on_value (λ y st. bind (put_aim (scope_of c.args.scope) (property_aim c.args.at (at view c.args.base) c.args.name.now) y st) (on_value (λ z st. done st (given (step_value c.args.is_prefix x z))))))))) (c.in_ok-read.ensures.gives view) ∙ result_err view _ _ _ c.in-Err.is (c.value.ensures.goes view (λ x st. bind (play (step_row c.args.op c.args.site x) st) (on_value (λ y st. bind (put_aim (scope_of c.args.scope) (property_aim c.args.at (at view c.args.base) c.args.name.now) y st) (on_value (λ z st. done st (given (step_value c.args.is_prefix x z))))))))))

pub returns-in-Err-value-clause-leads : goal.returns-in-Err-value-clause-leads
returns-in-Err-value-clause-leads c = λ fs. leads (both (stays (quiet_of c.in_ok-read.ensures.still) refl (λ view w. ap (λ o. bind o (on_value (λ x st. bind (play (step_row c.args.op c.args.site x) st) (on_value (λ y st. bind (put_aim (scope_of c.args.scope) (property_aim c.args.at (at view c.args.base) c.args.name.now) y st) (on_value (λ z st. done st (given (step_value c.args.is_prefix x z))))))))) (c.in_ok-read.ensures.gives view) ∙ result_ok view _ _ _ _ c.in-Ok.is (c.value.ensures.goes view (λ x st. bind (play (step_row c.args.op c.args.site x) st) (on_value (λ y st. bind (put_aim (scope_of c.args.scope) (property_aim c.args.at (at view c.args.base) c.args.name.now) y st) (on_value (λ z st. done st (given (step_value c.args.is_prefix x z)))))))))) (both (plays (λ view w. on_value (λ y st. bind (put_aim (scope_of c.args.scope) (property_aim c.args.at (at view c.args.base) c.args.name.now) y st) (on_value (λ z st. done st (given (step_value c.args.is_prefix (at view c.in-Ok.old) z)))))) c.in_ok-next.ensures.does (omega (arith, c.in_ok-next.ensures.level.turns)) (λ view w st e. refl)) (stays still refl (λ view w. result_err view _ _ _ c.in-Err-value.is (c.value-2.ensures.goes view (λ y st. bind (put_aim (scope_of c.args.scope) (property_aim c.args.at (at view c.args.base) c.args.name.now) y st) (on_value (λ z st. done st (given (step_value c.args.is_prefix (at view c.in-Ok.old) z))))))))))

pub returns-clause-leads : goal.returns-clause-leads
returns-clause-leads c = λ fs. leads (both (stays (quiet_of c.in_ok-read.ensures.still) refl (λ view w. ap (λ o. bind o (on_value (λ x st. bind (play (step_row c.args.op c.args.site x) st) (on_value (λ y st. bind (put_aim (scope_of c.args.scope) (property_aim c.args.at (at view c.args.base) c.args.name.now) y st) (on_value (λ z st. done st (given (step_value c.args.is_prefix x z))))))))) (c.in_ok-read.ensures.gives view) ∙ result_ok view _ _ _ _ c.in-Ok.is (c.value.ensures.goes view (λ x st. bind (play (step_row c.args.op c.args.site x) st) (on_value (λ y st. bind (put_aim (scope_of c.args.scope) (property_aim c.args.at (at view c.args.base) c.args.name.now) y st) (on_value (λ z st. done st (given (step_value c.args.is_prefix x z)))))))))) (both (plays (λ view w. on_value (λ y st. bind (put_aim (scope_of c.args.scope) (property_aim c.args.at (at view c.args.base) c.args.name.now) y st) (on_value (λ z st. done st (given (step_value c.args.is_prefix (at view c.in-Ok.old) z)))))) c.in_ok-next.ensures.does (omega (arith, c.in_ok-next.ensures.level.turns)) (λ view w st e. refl)) (stays (quiet_of c.in_ok-put.ensures.still) refl (λ view w. result_ok view _ _ _ _ c.in-Ok-value.is (c.value-2.ensures.goes view (λ y st. bind (put_aim (scope_of c.args.scope) (property_aim c.args.at (at view c.args.base) c.args.name.now) y st) (on_value (λ z st. done st (given (step_value c.args.is_prefix (at view c.in-Ok.old) z)))))) ∙ ap (λ o. bind o (on_value (λ z st. done st (given (step_value c.args.is_prefix (at view c.in-Ok.old) z))))) (c.in_ok-put.ensures.gives view) ∙ c.stepped.ensures.gives view))))
