use Rattle.std.proofs.Common.{refl}
use Rattle.js_frames.proofs.Steps.{stays, leads, quiet_of}
use Rattle.js_frames.proofs.Later.{frames_same}
use Rattle.js_run_targets.proofs.assigning.name_value.Goals as goal

pub returns-clause-leads : goal.returns-clause-leads
returns-clause-leads c = leads (stays (quiet_of c.in_ok-completion.ensures.still) refl (λ view w. c.in_ok-completion.ensures.gives view))

pub returns-clause-fits : goal.returns-clause-fits
returns-clause-fits c = (frames_same c.args.state.now c.put_name.new.self c.args.frames.now c.in_ok-completion.ensures.still.table c.requires.frames, c.in_ok-completion.ensures.fits)
