use Rattle.std.proofs.Common.{ap}
use Rattle.js_meaning.specs.Running.{on_reference, bind}
use Rattle.js_frames.specs.Machine.{on_chain}
use Rattle.js_frames.proofs.Steps.{pushes, leads, still}
use Rattle.js_run_expressions.proofs.chains.index_key.Goals as goal

pub returns-clause-leads : goal.returns-clause-leads
returns-clause-leads c = leads (pushes _ still c.in_ok-push.ensures.ok (λ view w. ap (λ o. bind o (on_reference (on_chain w c.args.suffixes.now c.args.scope))) (c.in_ok-completion.ensures.gives view _)))
