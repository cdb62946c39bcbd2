use Rattle.std.proofs.Common.{refl, ◌∙◌, sym}
use Rattle.js_frames.proofs.Steps.{stays, leads, where_true, where_false}
use Rattle.js_run_statements.proofs.statements.counted.Goals as goal

pub returns-then-not-count-clause-leads : goal.returns-then-not-count-clause-leads
returns-then-not-count-clause-leads c fs go h = leads (stays c.count.ensures.quiet refl (λ view w. rw c.cut.ensures (where_false _ _ c.if-not-count.true (c.count.ensures.goes view _ (go view w)))))

pub returns-clause-leads : goal.returns-clause-leads
returns-clause-leads c fs go h = leads (stays c.count.ensures.quiet refl (λ view w. where_true _ _ c.if-not-count.false (c.count.ensures.goes view _ (go view w)) ∙ sym (h view w c.count.new.self)))
