use Rattle.std.proofs.Common.{ap, length}
use Rattle.js_state.specs.Inside.{contents_of}
use Rattle.js_state.specs.Seen.{place_of}
use Rattle.js_state.proofs.Stored.{stored, sound_stored}
use Rattle.js_state.proofs.state.State.store.Goals as goal

pub invariant_of-self : goal.invariant_of-self
invariant_of-self c =
    record {
      sound = rw (c.in_ok-set.ensures.ok, c.in_ok-key.ensures) (sound_stored c.self.inside.names (length c.self.inside.closures) c.self.inside.heap c.self.inside.table c.self.inside.inputs c.args.id c.args.key.now c.args.value c.self.invariant.sound (rw (← c.self.view_is) at c.requires));
      left = c.self.invariant.left;
      few = c.self.invariant.few;
      made = c.self.invariant.made;
      limit = c.self.invariant.limit;
    }

pub returns-in_ok-set-clause-stored : goal.returns-in_ok-set-clause-stored
returns-in_ok-set-clause-stored c view =
    rw (← c.self.view_is, c.in_ok-set.ensures.ok, c.in_ok-key.ensures)
    (ap (λ os. record (place_of view (contents_of c.self.inside)) { objects = os }) (stored view c.self.inside.closures c.self.inside.heap c.args.id c.args.key.now c.args.value))
