use Rattle.std.proofs.Common.{refl, arith}
use Rattle.js_state.specs.Seen.{place_of, completion_at}
use Rattle.js_frames.proofs.Steps.{stays, leads, still}
use Rattle.js_frames.proofs.Passing.{kept_passes}
use Rattle.js_run_statements.proofs.Testing.{given_cost}
use Rattle.js_run_statements.proofs.tries.kept.Goals as goal

pub returns-in-Normal-clause-leads : goal.returns-in-Normal-clause-leads
returns-in-Normal-clause-leads c = leads (stays still refl (λ view w. rw c.in-Normal.is refl))

pub returns-in-Normal-clause-falls : goal.returns-in-Normal-clause-falls
returns-in-Normal-clause-falls c = rw c.in-Normal.is (omega (arith, given_cost c.args.earlier))

pub returns-in_default-clause-leads : goal.returns-in_default-clause-leads
returns-in_default-clause-leads c = leads (stays still refl (λ view w. kept_passes view (completion_at view c.args.earlier) (place_of view c.args.state.now) c.args.completion c.in_default.not-Normal))
