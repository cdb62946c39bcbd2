use Rattle.std.proofs.Common.{refl}
use Rattle.js_meaning.specs.Blocks.{run_all}
use Rattle.js_meaning.specs.Meaning.{stmts}
use Rattle.js_state.specs.Seen.{place_of}
use Rattle.js_frames.specs.Machine.{doing}
use Rattle.js_frames.proofs.Steps.{stays, leads, both, still}
use Rattle.js_frames.proofs.Passing.{normal_passes}
use Rattle.js_run_blocks.proofs.blocks.rest.Goals as goal

pub returns-in_ok-work-in-Normal-clause-leads : goal.returns-in_ok-work-in-Normal-clause-leads
returns-in_ok-work-in-Normal-clause-leads c = leads (both (stays still refl (λ view w. rw c.in-Normal.is refl)) (c.in_ok-work-in-Normal.ensures.leads c.args.state.now).to)

pub returns-in_default-clause-leads : goal.returns-in_default-clause-leads
returns-in_default-clause-leads c = leads (stays still refl (λ view w. normal_passes view (doing w (run_all (stmts c.args.body.now)) c.args.scope) (place_of view c.args.state.now) c.args.completion c.in_default.not-Normal))

pub returns-in_ok-work-in-Normal-clause-fits : goal.returns-in_ok-work-in-Normal-clause-fits
returns-in_ok-work-in-Normal-clause-fits c = c.in_ok-work-in-Normal.ensures.fits c.args.state.now c.requires.frames
