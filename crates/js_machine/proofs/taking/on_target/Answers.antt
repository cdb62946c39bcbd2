use Rattle.std.proofs.Common.{refl}
use Rattle.js_meaning.specs.Meaning.{expr}
use Rattle.js_meaning.specs.Parts.{aim_access}
use Rattle.js_state.specs.Held.{scope_of}
use Rattle.js_frames.specs.Machine.{calling, reached}
use Rattle.js_frames.proofs.Steps.{stays, leads, both, still}
use Rattle.js_machine.proofs.taking.on_target.Goals as goal

pub returns-in_ok-work-in-Ok-clause-leads : goal.returns-in_ok-work-in-Ok-clause-leads
returns-in_ok-work-in-Ok-clause-leads c = leads (both (stays still refl (λ view w. c.in-Ok.ensures.goes view (aim_access expr c.args.access.now (calling w) w.loops (scope_of c.args.scope) (reached w c.args.goal c.args.scope)))) c.in_ok-work-in-Ok.ensures.leads.to)

pub returns-in-Err-clause-leads : goal.returns-in-Err-clause-leads
returns-in-Err-clause-leads c = leads (stays still refl (λ view w. c.in-Err.ensures.goes view (aim_access expr c.args.access.now (calling w) w.loops (scope_of c.args.scope) (reached w c.args.goal c.args.scope))))
