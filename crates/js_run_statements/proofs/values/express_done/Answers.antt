use Rattle.std.proofs.Common.{refl}
use Rattle.js_frames.proofs.Steps.{stays, leads, still}
use Rattle.js_run_statements.proofs.values.express_done.Goals as goal

pub returns-clause-leads : goal.returns-clause-leads
returns-clause-leads c = leads (stays still refl (λ view w. refl))
