use Rattle.std.proofs.Common.{refl}
use Rattle.js_frames.proofs.Steps.{pushes, leads, still}
use Rattle.js_frames.proofs.Later.{frames_later}
use Rattle.js_run_targets.proofs.targets.at_name.Goals as goal

pub returns-in_ok-completion-in-Step-clause-fits : goal.returns-in_ok-completion-in-Step-clause-fits
returns-in_ok-completion-in-Step-clause-fits c = (frames_later c.args.state.now c.step_name.new.state c.args.frames.now c.in_ok-completion-in-Step.ensures.grown c.requires, c.in_ok-completion-in-Step.ensures.fits)

pub returns-in_ok-completion-in-Step-clause-leads : goal.returns-in_ok-completion-in-Step-clause-leads
returns-in_ok-completion-in-Step-clause-leads c = rw c.in-Step.is (c.in_ok-completion-in-Step.ensures.leads c.args.frames.now)

pub returns-in_ok-push-in-None-clause-leads : goal.returns-in_ok-push-in-None-clause-leads
returns-in_ok-push-in-None-clause-leads c = leads (pushes _ still c.in_ok-push-in-None.ensures.ok (λ view w. rw (c.in-Assign.is, c.in-None.is) refl))

pub returns-in_ok-work-in-Some-clause-leads : goal.returns-in_ok-work-in-Some-clause-leads
returns-in_ok-work-in-Some-clause-leads c = rw (c.in-Assign.is, c.in-Some.is) c.in_ok-work-in-Some.ensures.leads
