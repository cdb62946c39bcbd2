use Rattle.std.proofs.Common.{◌≡◌, length, arith, map}
use Rattle.js_state.specs.Held.{held_object}
use Rattle.js_state.specs.Inside.{contents_of}
use Rattle.js_state.proofs.Lists.{length_map}
use Rattle.js_state.proofs.Made.{made, full, held_pushed}
use Rattle.js_state.proofs.state.State.new_object.Goals as goal

pub returns-in_ok-id-clause-goes : goal.returns-in_ok-id-clause-goes
returns-in_ok-id-clause-goes c view go =
    let n : length (map (held_object c.self.inside.closures) c.self.inside.heap.objects) ≡ length c.self.inside.heap.objects = length_map (held_object c.self.inside.closures) c.self.inside.heap.objects in
    rw (← c.self.view_is, c.in_ok-id.ensures.ok, c.in_ok-id.ensures.id, held_pushed c.self.inside.closures c.self.inside.heap.objects c.args.class c.requires, ← n)
    (made view c.args.site _ (contents_of c.self.inside) go (omega (arith, n, c.if-objects-lt-OBJECT_LIMIT.true, c.objects.ensures.count)))

pub returns-else-objects-lt-OBJECT_LIMIT-clause-goes :
    goal.returns-else-objects-lt-OBJECT_LIMIT-clause-goes
returns-else-objects-lt-OBJECT_LIMIT-clause-goes c view go =
    let n : length (map (held_object c.self.inside.closures) c.self.inside.heap.objects) ≡ length c.self.inside.heap.objects = length_map (held_object c.self.inside.closures) c.self.inside.heap.objects in
    full view c.args.site _ c.args.self.now go _ (rw (← c.self.view_is) (omega (arith, n, c.if-objects-lt-OBJECT_LIMIT.false, c.objects.ensures.count))) (c.left.ensures.gives view)
