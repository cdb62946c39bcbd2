use Rattle.std.proofs.Common.{refl}
use Rattle.js_frames.specs.Machine.{on_chain}
use Rattle.js_frames.proofs.Steps.{stays, leads, both, still}
use Rattle.js_machine.proofs.taking.on_chain.Goals as goal

pub returns-in_ok-work-in-Ok-clause-leads : goal.returns-in_ok-work-in-Ok-clause-leads
returns-in_ok-work-in-Ok-clause-leads c = leads (both (stays still refl (λ view w. c.in-Ok.ensures.goes view (on_chain w c.args.suffixes.now c.args.scope))) c.in_ok-work-in-Ok.ensures.leads.to)

pub returns-in-Err-clause-leads : goal.returns-in-Err-clause-leads
returns-in-Err-clause-leads c = leads (stays still refl (λ view w. c.in-Err.ensures.goes view (on_chain w c.args.suffixes.now c.args.scope)))
