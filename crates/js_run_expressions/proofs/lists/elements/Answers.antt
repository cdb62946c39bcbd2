use Rattle.std.proofs.Common.{refl, ◌∙◌, ap}
use Rattle.js_meaning.specs.Parts.{elements}
use Rattle.js_meaning.specs.Meaning.{expr}
use Rattle.js_state.specs.Held.{scope_of}
use Rattle.js_state.specs.Seen.{place_of}
use Rattle.js_frames.specs.Machine.{calling}
use Rattle.js_frames.proofs.Steps.{stays, pushes, leads, still}
use Rattle.js_frames.proofs.Passing.{gives_object, list_none, list_more}
use Rattle.js_run_expressions.proofs.lists.elements.Goals as goal

pub returns-in-empty-clause-leads : goal.returns-in-empty-clause-leads
returns-in-empty-clause-leads c = λ st. leads (stays still refl (λ view w. rw c.object.ensures (ap (λ es. elements expr c.args.site es (calling w) w.loops (scope_of c.args.scope) c.args.id (place_of view st)) (list_none c.args.items.now c.in-empty.len_below) ∙ gives_object view (place_of view st) c.args.id)))

pub returns-in_ok-push-in-len1-up-clause-leads : goal.returns-in_ok-push-in-len1-up-clause-leads
returns-in_ok-push-in-len1-up-clause-leads c = λ st. leads (pushes _ still c.in_ok-push-in-len1-up.ensures.ok (λ view w. ap (λ es. elements expr c.args.site es (calling w) w.loops (scope_of c.args.scope) c.args.id (place_of view st)) (list_more c.args.items.now c.first-item.result c.in-len1-up.len_at_least c.first-item.is)))
