use Rattle.std.proofs.Common.{sym, ap, ◌∙◌}
use Rattle.js_state.proofs.Stored.{room_kept, room_gone}
use Rattle.js_state.proofs.state.State.add_property.Goals as goal

pub returns-then-not-has_room-clause-goes : goal.returns-then-not-has_room-clause-goes
returns-then-not-has_room-clause-goes c view go = room_gone view c.args.self.now c.args.site c.args.id c.args.key.now _ go _ (sym c.if-not-has_room.true ∙ c.has_room.ensures view) (c.left.ensures.gives view)

pub returns-clause-goes : goal.returns-clause-goes
returns-clause-goes c view go = room_kept view c.args.self.now c.args.site c.args.id c.args.key.now _ go (sym c.if-not-has_room.false ∙ c.has_room.ensures view) ∙ ap go (sym (c.in_ok-store.ensures.stored view))
