use Rattle.std.proofs.Common.{refl}
use Rattle.term_table.specs.Fitting.{Fits}
use Rattle.term_table.specs.Views.{at}
use Rattle.js_frames.proofs.Steps.{stays, leads, both, still}
use Rattle.js_state.proofs.Lists.{map_push, all_push}
use Rattle.js_run_expressions.proofs.lists.argument.Goals as goal

pub returns-clause-leads : goal.returns-clause-leads
returns-clause-leads c = leads (both (stays still refl (λ view w. rw (c.in_ok-more.ensures, map_push (at view) c.args.gathered.values c.args.value) refl)) (c.in_ok-work.ensures.leads c.args.state.now).to)

pub returns-clause-fits : goal.returns-clause-fits
returns-clause-fits c = c.in_ok-work.ensures.fits c.args.state.now c.requires.frames (rw c.in_ok-more.ensures (all_push (Fits c.args.state.now.table) c.args.gathered.values c.args.value c.requires.gathered.0 c.requires.value, c.requires.gathered.1))
