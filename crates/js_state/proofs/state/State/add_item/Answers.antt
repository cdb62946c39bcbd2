use Rattle.std.proofs.Common.{sym, ap, ◌∙◌, arith}
use Rattle.js_state.proofs.Stored.{item_kept, item_gone}
use Rattle.js_state.proofs.state.State.add_item.Goals as goal

pub returns-then-items-ge-MOST_ITEMS-clause-goes : goal.returns-then-items-ge-MOST_ITEMS-clause-goes
returns-then-items-ge-MOST_ITEMS-clause-goes c view go = item_gone view c.args.self.now c.args.site c.args.id _ go _ (omega (arith, c.if-items-ge-MOST_ITEMS.true, c.items.ensures.count)) (c.left.ensures.gives view)

pub returns-clause-goes : goal.returns-clause-goes
returns-clause-goes c view go = item_kept view c.args.self.now c.args.site c.args.id _ go (omega (arith, c.if-items-ge-MOST_ITEMS.false, c.items.ensures.count)) ∙ ap go (sym (c.in_ok-push_item.ensures.pushed view))
