use Rattle.std.proofs.Common.{refl}
use Rattle.js_frames.proofs.Steps.{stays, leads, still}
use Rattle.std.proofs.Common.{[]}
use Rattle.js_meaning.specs.Values.{undefined}
use Rattle.js_run_targets.proofs.targets.bracket_target.Goals as goal

pub returns-in_ok-work-in-Callee-clause-leads : goal.returns-in_ok-work-in-Callee-clause-leads
returns-in_ok-work-in-Callee-clause-leads c = rw c.in-Callee.is (c.in_ok-work-in-Callee.ensures.leads undefined)

pub returns-in_ok-work-in-Intrinsic-clause-leads : goal.returns-in_ok-work-in-Intrinsic-clause-leads
returns-in_ok-work-in-Intrinsic-clause-leads c = rw c.in-Intrinsic.is (c.in_ok-work-in-Intrinsic.ensures.leads c.args.goal c.args.is_static 0 [])

pub returns-in-Static-clause-leads : goal.returns-in-Static-clause-leads
returns-in-Static-clause-leads c = leads (stays still refl (λ view w. rw (c.in-Static.is, c.left.ensures.gives view) refl))

pub returns-in-Method-clause-leads : goal.returns-in-Method-clause-leads
returns-in-Method-clause-leads c = leads (stays still refl (λ view w. rw (c.in-Method.is, c.left-in-Method.ensures.gives view) refl))
