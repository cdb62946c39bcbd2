use Rattle.std.proofs.Common.{◌≡◌, length, arith, map}
use Rattle.term_table.specs.Fitting.{Fits}
use Rattle.js_state.specs.Held.{held_object}
use Rattle.js_state.specs.Inside.{contents_of}
use Rattle.js_state.proofs.Lists.{length_map}
use Rattle.js_state.proofs.Made.{made, held_function, sound_function}
use Rattle.js_state.proofs.state.State.new_function.Goals as goal

pub invariant_of-self-in-Ok : goal.invariant_of-self-in-Ok
invariant_of-self-in-Ok c =
    record {
      sound = rw (c.in_ok-push.ensures.ok, c.in-Ok.ensures.ok) (sound_function _ _ _ _ _ _ _ 0 c.len-code.ensures c.self.invariant.sound);
      left = c.self.invariant.left;
      few = c.self.invariant.few;
      made = c.self.invariant.made;
      limit = c.self.invariant.limit;
    }

pub returns-in-Ok-clause-goes : goal.returns-in-Ok-clause-goes
returns-in-Ok-clause-goes c view go =
    let n : length (map (held_object c.self.inside.closures) c.self.inside.heap.objects) ≡ length c.self.inside.heap.objects = length_map (held_object c.self.inside.closures) c.self.inside.heap.objects in
    let h = held_function (Fits c.self.inside.table) c.self.inside.closures c.args.closure c.self.inside.heap.objects c.len-code.result 0 c.len-code.ensures c.self.invariant.sound.objects in
    rw (← c.self.view_is, c.in-Ok.ensures.ok, c.in-Ok.ensures.id, c.in_ok-push.ensures.ok, h, ← n)
    (made view c.args.site _ (contents_of c.self.inside) go (omega (arith, n, c.if-objects-lt-OBJECT_LIMIT.true, c.objects.ensures.count)))
