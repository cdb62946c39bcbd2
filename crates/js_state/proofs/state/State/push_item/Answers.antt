use Rattle.std.proofs.Common.{ap, length}
use Rattle.js_state.specs.Inside.{contents_of}
use Rattle.js_state.specs.Seen.{place_of}
use Rattle.js_state.proofs.Looked.{held_index}
use Rattle.js_state.proofs.Stored.{pushed, sound_pushed}
use Rattle.js_state.proofs.state.State.push_item.Goals as goal

pub invariant_of-self : goal.invariant_of-self
invariant_of-self c =
    record {
      sound = rw c.in_ok-push_item.ensures.ok (sound_pushed c.self.inside.names (length c.self.inside.closures) c.self.inside.heap c.self.inside.table c.self.inside.inputs c.args.id c.args.value c.self.invariant.sound (rw (← c.self.view_is) at c.requires.fits) (rw (← c.self.view_is, held_index c.self.inside.closures c.self.inside.heap.objects c.args.id) at c.requires.room));
      left = c.self.invariant.left;
      few = c.self.invariant.few;
      made = c.self.invariant.made;
      limit = c.self.invariant.limit;
    }

pub returns-in_ok-push_item-clause-pushed : goal.returns-in_ok-push_item-clause-pushed
returns-in_ok-push_item-clause-pushed c view =
    rw (← c.self.view_is, c.in_ok-push_item.ensures.ok)
    (ap (λ os. record (place_of view (contents_of c.self.inside)) { objects = os }) (pushed view c.self.inside.closures c.self.inside.heap c.args.id c.args.value))
