use Rattle.std.proofs.Common.{ap, sym, ◌∙◌, refl, arith}
use Rattle.js_meaning.specs.Parts.{Meaning}
use Rattle.js_meaning.specs.Running.{Outcome}
use Rattle.js_state.specs.Seen.{place_of}
use Rattle.js_frames.specs.Machine.{doing}
use Rattle.js_frames.proofs.Steps.{leads_from, leads, stays, still}
use Rattle.js_run_statements.proofs.statements.exec.Goals as goal

pub returns-then-is_idle-clause-leads : goal.returns-then-is_idle-clause-leads
returns-then-is_idle-clause-leads c = leads (stays still refl (λ view w. ap {B = Outcome} (λ (m : Meaning). doing w m c.args.scope (place_of view c.args.state.now)) (c.is_idle.ensures.does c.if-is_idle.true)))

pub returns-then-is_idle-clause-falls : goal.returns-then-is_idle-clause-falls
returns-then-is_idle-clause-falls c = rw (← c.is_idle.ensures.idle, c.if-is_idle.true) (omega arith)

pub returns-clause-leads : goal.returns-clause-leads
returns-clause-leads c = leads_from c.in_ok-work.ensures.leads (λ view w. ap {B = Outcome} (λ m. doing w m c.args.scope (place_of view c.args.state.now)) (sym c.begun-part.ensures.means))

pub returns-clause-falls : goal.returns-clause-falls
returns-clause-falls c = rw (← c.is_idle.ensures.idle, c.if-is_idle.false) (c.in_ok-work.ensures.falls (c.begun-part.ensures.counts (sym c.is_idle.ensures.idle ∙ c.if-is_idle.false)))
