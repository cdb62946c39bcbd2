use Rattle.std.proofs.Common.{refl, ◌∙◌, ap, map}
use Rattle.js_meaning.specs.Running.{Outcome, bind}
use Rattle.js_meaning.specs.Loops.{kept}
use Rattle.js_meaning.specs.Parts.{Meaning}
use Rattle.js_state.specs.Held.{scope_of}
use Rattle.js_state.specs.Seen.{place_of, completion_at}
use Rattle.js_frames.specs.Machine.{calling, beside}
use Rattle.js_frames.proofs.Steps.{stays, pushes, leads, still}
use Rattle.js_frames.proofs.Passing.{finish_none, finish_some}
use Rattle.js_frames.proofs.Statements.{block_same}
use Rattle.js_run_statements.proofs.tries.finishing.Goals as goal

pub returns-in-None-clause-leads : goal.returns-in-None-clause-leads
returns-in-None-clause-leads c = leads (stays still refl (λ view w. rw c.in-None.is (finish_none view w (scope_of c.args.scope) (place_of view c.args.state.now) c.args.completion)))

pub returns-in-Stop-clause-leads : goal.returns-in-Stop-clause-leads
returns-in-Stop-clause-leads c = leads (stays still refl (λ view w. rw c.in-Stop.is refl))

pub returns-in_ok-push-in_default-clause-leads : goal.returns-in_ok-push-in_default-clause-leads
returns-in_ok-push-in_default-clause-leads c = leads (pushes _ still c.in_ok-push-in_default.ensures.ok (λ view w. rw (c.in-Some.is, c.as_slice.ensures) (finish_some view w (map beside c.in-Some.body) (scope_of c.args.scope) (place_of view c.args.state.now) c.args.completion c.in_default.not-Stop ∙ ap {B = Outcome} (λ (m : Meaning). bind (m (calling w) w.loops (scope_of c.args.scope) (place_of view c.args.state.now)) (kept (completion_at view c.args.completion))) (block_same c.in-Some.body))))

pub returns-in_ok-push-in_default-clause-fits : goal.returns-in_ok-push-in_default-clause-fits
returns-in_ok-push-in_default-clause-fits c = rw c.in_ok-push-in_default.ensures.ok ((c.requires.completion, c.requires.frames), tt)
