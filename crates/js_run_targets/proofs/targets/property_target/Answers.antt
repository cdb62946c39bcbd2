use Rattle.std.proofs.Common.{refl}
use Rattle.term_table.specs.Fitting.{Fits}
use Rattle.js_frames.proofs.Steps.{stays, leads, still}
use Rattle.js_frames.proofs.Passing.{stop_fits}
use Rattle.js_frames.proofs.Later.{frames_same}
use Rattle.js_meaning.specs.Values.{undefined}
use Rattle.js_run_targets.proofs.targets.property_target.Goals as goal

pub returns-in_ok-work-in-Callee-clause-leads : goal.returns-in_ok-work-in-Callee-clause-leads
returns-in_ok-work-in-Callee-clause-leads c = rw c.in-Callee.is (c.in_ok-work-in-Callee.ensures.leads undefined)

pub returns-in-Intrinsic-clause-leads : goal.returns-in-Intrinsic-clause-leads
returns-in-Intrinsic-clause-leads c = leads (stays c.builtin_property.ensures.quiet refl (λ view w. rw c.in-Intrinsic.is (c.builtin_property.ensures.gives view)))

pub returns-in-Intrinsic-clause-fits : goal.returns-in-Intrinsic-clause-fits
returns-in-Intrinsic-clause-fits c = (frames_same c.args.state.now c.builtin_property.new.state c.args.frames.now c.builtin_property.ensures.quiet.table c.requires.frames, stop_fits (Fits c.builtin_property.new.state.table) c.builtin_property.result c.builtin_property.ensures.stops)

pub returns-in-Static-clause-leads : goal.returns-in-Static-clause-leads
returns-in-Static-clause-leads c = leads (stays still refl (λ view w. rw (c.in-Static.is, c.left.ensures.gives view) refl))

pub returns-in-Method-clause-leads : goal.returns-in-Method-clause-leads
returns-in-Method-clause-leads c = leads (stays still refl (λ view w. rw (c.in-Method.is, c.left-in-Method.ensures.gives view) refl))
