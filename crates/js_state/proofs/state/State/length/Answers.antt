use Rattle.js_state.proofs.state.State.length.Goals as goal

pub returns-clause-fits : goal.returns-clause-fits
returns-clause-fits c = c.whole.ensures.fits _
