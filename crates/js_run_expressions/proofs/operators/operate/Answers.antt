use Rattle.std.proofs.Common.{arith, refl}
use Rattle.js_meaning.specs.Running.{on_value}
use Rattle.js_frames.specs.Machine.{on_links}
use Rattle.js_frames.proofs.Steps.{pushes, leads, both, plays, still}
use Rattle.js_frames.proofs.Later.{frames_later}
use Rattle.js_run_expressions.proofs.operators.operate.Goals as goal

pub returns-clause-leads : goal.returns-clause-leads
returns-clause-leads c = leads (both (plays (λ view w. on_value (on_links w c.args.links.now c.args.scope)) c.in_ok-completion.ensures.does (omega (arith, c.in_ok-completion.ensures.level.turns)) (λ view w st e. refl)) (pushes _ still c.in_ok-push.ensures.ok (λ view w. refl)))

pub returns-clause-fits : goal.returns-clause-fits
returns-clause-fits c = rw c.in_ok-push.ensures.ok ((tt, frames_later c.args.state.now c.operate.new.self c.args.frames.now c.in_ok-completion.ensures.does.grown c.requires.frames), c.in_ok-completion.ensures.fits)
