use Rattle.std.proofs.Common.{refl, ◌∙◌, ap}
use Rattle.term_table.specs.Views.{at}
use Rattle.js_meaning.specs.Running.{on_value, on_reference, bind}
use Rattle.js_meaning.specs.Meaning.{expr}
use Rattle.js_state.specs.Held.{scope_of}
use Rattle.js_state.specs.Seen.{place_of}
use Rattle.js_frames.specs.Machine.{calling, on_chain}
use Rattle.js_frames.proofs.Steps.{stays, pushes, leads, where_true, where_false}
use Rattle.js_meaning.specs.Running.{Outcome}
use Rattle.js_meaning.specs.Values.{Value, Place}
use Rattle.js_frames.proofs.Passing.{brackets}
use Rattle.js_run_expressions.proofs.chains.index.Goals as goal

pub returns-then-not-count-clause-leads : goal.returns-then-not-count-clause-leads
returns-then-not-count-clause-leads c = λ this. leads (stays c.count.ensures.quiet refl (λ view w. rw c.cut.ensures (where_false _ _ c.if-not-count.true (c.count.ensures.goes view _ _))))

pub returns-clause-leads : goal.returns-clause-leads
returns-clause-leads c = λ this. leads (pushes _ c.count.ensures.quiet c.in_ok-push.ensures.ok (λ view w. where_true _ _ c.if-not-count.false (c.count.ensures.goes view _ _) ∙ ap {B = Outcome} (λ (g : Value → Place → Outcome). bind (expr c.args.key.now (calling w) w.loops (scope_of c.args.scope) (place_of view c.count.new.self)) (on_value (λ y st. bind (g y st) (on_reference (on_chain w c.args.rest.now c.args.scope))))) (brackets c.args.site c.args.is_static (at view c.args.base) this)))
