use Rattle.std.proofs.Common.{refl, map}
use Rattle.term_table.specs.Views.{at}
use Rattle.js_frames.specs.Machine.{calling}
use Rattle.js_frames.proofs.Steps.{stays, leads, still}
use Rattle.js_run_calls.proofs.Layers.{builtin_leaves}
use Rattle.js_run_calls.proofs.calls.call_reference.Goals as goal

pub returns-in_ok-work-in-Callee-clause-leads : goal.returns-in_ok-work-in-Callee-clause-leads
returns-in_ok-work-in-Callee-clause-leads c = rw c.in-Callee.is c.in_ok-work-in-Callee.ensures.leads

pub returns-in_default-clause-leads : goal.returns-in_default-clause-leads
returns-in_default-clause-leads c = leads (stays still refl (λ view w. rw (c.left.ensures.gives view) (builtin_leaves view (calling w) _ c.args.reference.now (map (at view) c.args.values.now) _ c.in_default.not-Callee)))
