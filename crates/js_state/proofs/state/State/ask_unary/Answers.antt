use Rattle.std.proofs.Common.{length}
use Rattle.js_state.proofs.Plays.{agreed}
use Rattle.js_state.proofs.Made.{sound_more}
use Rattle.js_state.proofs.state.State.ask_unary.Goals as goal

pub invariant_of-self-2 : goal.invariant_of-self-2
invariant_of-self-2 c =
    record {
      sound = sound_more c.self.inside.names (length c.self.inside.closures) c.self.inside.heap c.self.inside.table c.unary.new.table c.self.inside.inputs c.self.invariant.sound;
      left = c.self.invariant.left;
      few = c.self.invariant.few;
      made = c.self.invariant.made;
      limit = c.self.invariant.limit;
    }

pub returns-clause-shows : goal.returns-clause-shows
returns-clause-shows c objects view a = (c.in_ok-outcome.ensures.meets objects).shows view (agreed view _ a)
