use Rattle.std.proofs.Common.{refl}
use Rattle.term_table.specs.Views.{at}
use Rattle.js_frames.proofs.Steps.{stays, leads, still}
use Rattle.js_run_targets.proofs.Stops.{step_stops, compound_stops}
use Rattle.js_meaning.specs.Values.{undefined}
use Rattle.js_run_targets.proofs.targets.target_key.Goals as goal

pub returns-in-Step-clause-gives : goal.returns-in-Step-clause-gives
returns-in-Step-clause-gives c = λ fs. leads (stays still refl (λ view w. rw c.in-Step.is (step_stops w _ _ _ c.args.scope c.args.site c.args.is_static (at view c.args.base) (at view c.args.key) _ _ (c.bracket_value.ensures.gives view undefined))))

pub returns-in-None-clause-gives : goal.returns-in-None-clause-gives
returns-in-None-clause-gives c = λ fs. leads (stays still refl (λ view w. rw (c.in-Assign.is, c.in-None.is, c.left.ensures.gives view) refl))

pub returns-clause-gives : goal.returns-clause-gives
returns-clause-gives c = λ fs. leads (stays still refl (λ view w. rw (c.in-Assign.is, c.in-Some.is) (compound_stops w _ _ c.in-Assign.value c.args.scope c.args.site c.args.is_static (at view c.args.base) (at view c.args.key) _ _ (c.bracket_value-in-Some.ensures.gives view undefined))))
