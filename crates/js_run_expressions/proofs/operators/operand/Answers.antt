use Rattle.js_frames.proofs.Steps.{leads}
use Rattle.js_frames.proofs.Later.{plays_out, frames_later}
use Rattle.js_run_expressions.proofs.operators.operand.Goals as goal

pub returns-clause-leads : goal.returns-clause-leads
returns-clause-leads c = leads (plays_out c.in_ok-completion.ensures.does c.in_ok-completion.ensures.level.turns)

pub returns-clause-fits : goal.returns-clause-fits
returns-clause-fits c = (frames_later c.args.state.now c.unary.new.self c.args.frames.now c.in_ok-completion.ensures.does.grown c.requires.frames, c.in_ok-completion.ensures.fits)
