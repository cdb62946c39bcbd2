use Rattle.std.proofs.Common.{refl}
use Rattle.js_state.proofs.Looked.{own_looks}
use Rattle.js_state.proofs.Stored.{own_count}
use Rattle.js_state.proofs.state.State.has_room.Goals as goal

pub returns-in-Some : goal.returns-in-Some
returns-in-Some c view = rw (← c.self.view_is, own_looks view c.self.inside.closures c.self.inside.heap.objects c.args.id c.args.key.now, ← c.in-Some.ensures) refl

pub returns-in-None : goal.returns-in-None
returns-in-None c view = rw (← c.self.view_is, own_looks view c.self.inside.closures c.self.inside.heap.objects c.args.id c.args.key.now, ← c.in-None.ensures, own_count view c.self.inside.closures c.self.inside.heap.objects c.args.id, c.properties.ensures) refl
