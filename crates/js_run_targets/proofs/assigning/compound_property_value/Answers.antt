use Rattle.std.proofs.Common.{arith, refl, ◌∙◌}
use Rattle.term_table.specs.Views.{at}
use Rattle.js_meaning.specs.Running.{on_value}
use Rattle.js_frames.proofs.Steps.{stays, leads, both, plays, quiet_of, still}
use Rattle.js_frames.proofs.Later.{frames_later, frames_same}
use Rattle.js_state.proofs.Found.{result_ok, result_err}
use Rattle.std.proofs.Common.{None}
use Rattle.js_meaning.specs.Values.{undefined}
use Rattle.js_meaning.specs.Parts.{property_aim, put_aim}
use Rattle.js_run_targets.proofs.assigning.compound_property_value.Goals as goal

pub returns-in-Err-clause-leads : goal.returns-in-Err-clause-leads
returns-in-Err-clause-leads c = leads (both (plays (λ view w. on_value (put_aim (record { cell = None; this = undefined }) (property_aim c.args.at (at view c.args.base) c.args.name.now))) c.in_ok-made.ensures.does (omega (arith, c.in_ok-made.ensures.level.turns)) (λ view w st e. refl)) (stays still refl (λ view w. result_err view _ _ _ c.in-Err.is (c.value.ensures.goes view (put_aim (record { cell = None; this = undefined }) (property_aim c.args.at (at view c.args.base) c.args.name.now))))))

pub returns-in-Err-clause-fits : goal.returns-in-Err-clause-fits
returns-in-Err-clause-fits c = (frames_later c.args.state.now c.operate.new.self c.args.frames.now c.in_ok-made.ensures.does.grown c.requires.frames, c.in-Err.ensures.fits)

pub returns-clause-leads : goal.returns-clause-leads
returns-clause-leads c = leads (both (plays (λ view w. on_value (put_aim (record { cell = None; this = undefined }) (property_aim c.args.at (at view c.args.base) c.args.name.now))) c.in_ok-made.ensures.does (omega (arith, c.in_ok-made.ensures.level.turns)) (λ view w st e. refl)) (stays (quiet_of c.in_ok-completion-in-Ok.ensures.still) refl (λ view w. result_ok view _ _ _ _ c.in-Ok.is (c.value.ensures.goes view (put_aim (record { cell = None; this = undefined }) (property_aim c.args.at (at view c.args.base) c.args.name.now))) ∙ (rw c.get.ensures at (c.in_ok-completion-in-Ok.ensures.gives view)))))

pub returns-clause-fits : goal.returns-clause-fits
returns-clause-fits c = (frames_same c.operate.new.self c.set.new.self c.args.frames.now c.in_ok-completion-in-Ok.ensures.still.table (frames_later c.args.state.now c.operate.new.self c.args.frames.now c.in_ok-made.ensures.does.grown c.requires.frames), c.in_ok-completion-in-Ok.ensures.fits)
