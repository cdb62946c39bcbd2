use Rattle.std.proofs.Common.{arith}
use Rattle.js_state.proofs.Counted.{event_kept}
use Rattle.js_state.proofs.state.State.take_event.Goals as goal

pub invariant_of-self-2 : goal.invariant_of-self-2
invariant_of-self-2 c =
    let h = event_kept c.self.inside.moves c.push.new.self c.args.event c.args.choice c.in_ok-push.ensures.ok in
    record {
      sound = c.self.invariant.sound;
      left = c.self.invariant.left;
      few = c.self.invariant.few;
      made = omega (arith, h, c.self.invariant.made);
      limit = omega (arith, c.self.invariant.limit, c.if-self-ge-EVENT_LIMIT.false);
    }
