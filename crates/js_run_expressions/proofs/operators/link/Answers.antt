use Rattle.std.proofs.Common.{refl, ◌∙◌, ap}
use Rattle.term_table.specs.Views.{at}
use Rattle.js_state.specs.Seen.{place_of}
use Rattle.js_frames.specs.Machine.{on_links}
use Rattle.js_frames.proofs.Steps.{stays, pushes, leads, where_true, where_false, still}
use Rattle.js_frames.proofs.Passing.{list_none, list_more}
use Rattle.js_run_expressions.proofs.operators.link.Goals as goal

pub returns-in-empty-clause-leads : goal.returns-in-empty-clause-leads
returns-in-empty-clause-leads c = leads (stays still refl (λ view w. ap (λ ls. on_links w ls c.args.scope (at view c.args.value) (place_of view c.args.state.now)) (list_none c.args.links.now c.in-empty.len_below)))

pub returns-then-not-count-clause-leads : goal.returns-then-not-count-clause-leads
returns-then-not-count-clause-leads c = leads (stays c.count.ensures.quiet refl (λ view w. rw c.cut.ensures (ap (λ ls. on_links w ls c.args.scope (at view c.args.value) (place_of view c.args.state.now)) (list_more c.args.links.now c.first-item.result c.in-len1-up.len_at_least c.first-item.is) ∙ where_false _ _ c.if-not-count.true (c.count.ensures.goes view _ _))))

pub returns-in_ok-push-in-len1-up-clause-leads : goal.returns-in_ok-push-in-len1-up-clause-leads
returns-in_ok-push-in-len1-up-clause-leads c = leads (pushes _ c.count.ensures.quiet c.in_ok-push-in-len1-up.ensures.ok (λ view w. ap (λ ls. on_links w ls c.args.scope (at view c.args.value) (place_of view c.args.state.now)) (list_more c.args.links.now c.first-item.result c.in-len1-up.len_at_least c.first-item.is) ∙ where_true _ _ c.if-not-count.false (c.count.ensures.goes view _ _)))
