use Rattle.std.proofs.Common.{arith}
use Rattle.js_state.proofs.Counted.{failed_kept}
use Rattle.js_state.proofs.state.State.fail.Goals as goal

pub invariant_of-self : goal.invariant_of-self
invariant_of-self c =
    let h = failed_kept c.self.inside.moves c.push.new.self c.args.term c.args.exit c.in_ok-push.ensures.ok in
    record {
      sound = c.self.invariant.sound;
      left = c.self.invariant.left;
      few = c.self.invariant.few;
      made = omega (arith, h, c.self.invariant.made);
      limit = c.self.invariant.limit;
    }
