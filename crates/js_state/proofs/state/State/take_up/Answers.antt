use Rattle.std.proofs.Common.{arith}
use Rattle.js_state.proofs.Counted.{guard_kept, event_kept}
use Rattle.js_state.proofs.state.State.take_up.Goals as goal

pub invariant_of-self : goal.invariant_of-self
invariant_of-self c =
    let h = guard_kept c.self.inside.moves c.push.new.self c.in-Guard.term c.stamped-exit.result c.in_ok-push-in-Guard.ensures.ok in
    record {
      sound = c.self.invariant.sound;
      left = c.self.invariant.left;
      few = c.self.invariant.few;
      made = omega (arith, h, c.self.invariant.made);
      limit = c.self.invariant.limit;
    }

pub invariant_of-self-in-Continue-branch-2 : goal.invariant_of-self-in-Continue-branch-2
invariant_of-self-in-Continue-branch-2 c =
    let h = event_kept c.self.inside.moves c.push-in-Event.new.self c.in-Event.event c.in-Event.choice c.in_ok-push-in-Event.ensures.ok in
    record {
      sound = c.self.invariant.sound;
      left = c.self.invariant.left;
      few = c.self.invariant.few;
      made = omega (arith, h, c.self.invariant.made);
      limit = omega (arith, c.self.invariant.limit, c.if-self-ge-EVENT_LIMIT.false);
    }
