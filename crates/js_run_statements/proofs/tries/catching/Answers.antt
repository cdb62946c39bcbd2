use Rattle.std.proofs.Common.{refl, ap}
use Rattle.std.specs.Option.{option_map}
use Rattle.term_table.specs.Views.{at}
use Rattle.js_meaning.specs.Running.{Outcome}
use Rattle.js_meaning.specs.Loops.{open_catch}
use Rattle.js_meaning.specs.Parts.{Meaning}
use Rattle.js_state.specs.Held.{scope_of}
use Rattle.js_state.specs.Seen.{place_of}
use Rattle.js_frames.specs.Machine.{calling, catch_of}
use Rattle.js_frames.proofs.Steps.{stays, leads, leads_from, still}
use Rattle.js_frames.proofs.Passing.{catch_passes}
use Rattle.js_frames.proofs.Statements.{block_same}
use Rattle.js_run_statements.proofs.tries.catching.Goals as goal

pub returns-in-None-clause-leads : goal.returns-in-None-clause-leads
returns-in-None-clause-leads c = leads (stays still refl (λ view w. rw c.in-None.is refl))

pub returns-in_ok-work-in-Throw-clause-leads : goal.returns-in_ok-work-in-Throw-clause-leads
returns-in_ok-work-in-Throw-clause-leads c = leads_from c.in_ok-work-in-Throw.ensures.leads (λ view w. rw (c.in-Some.is, c.in-Throw.is) (ap {B = Outcome} (λ (m : Meaning). open_catch c.in-Some.catch.name (at view c.in-Throw.value) (scope_of c.args.scope) (place_of view c.args.state.now) (m (calling w) w.loops)) (block_same c.in-Some.catch.body)))

pub returns-in_default-clause-leads : goal.returns-in_default-clause-leads
returns-in_default-clause-leads c = leads (stays still refl (λ view w. catch_passes view w (option_map catch_of c.args.catch.now) (scope_of c.args.scope) (place_of view c.args.state.now) c.args.completion c.in_default.not-Throw))
