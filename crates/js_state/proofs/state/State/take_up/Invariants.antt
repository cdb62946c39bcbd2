use Rattle.std.proofs.Common.{◌≡◌, ◌-◌, ◌++◌, length}
use Rattle.js_state.specs.Playing.{Unmoved, taken_up, events_after, cut_by}
use Rattle.js_state.proofs.state.State.take_up.Given as goal

abbrev pub invariant-loop-next : goal.invariant-loop-next
invariant-loop-next l = record {
  unmoved : Unmoved l.fn.self l.self;
  moves : l.self.moves ++ taken_up l.fn.self.keeps (l.fn.self.allowed - l.fn.self.turns) l.fn.self.ended l.self.events l.left ≡ l.fn.self.moves ++ taken_up l.fn.self.keeps (l.fn.self.allowed - l.fn.self.turns) l.fn.self.ended l.fn.self.events l.fn.moves;
  events : events_after l.self.events l.left ≡ events_after l.fn.self.events l.fn.moves;
  is_cut : cut_by l.self.events l.left ≡ cut_by l.fn.self.events l.fn.moves;
}

abbrev pub decreases-loop-next : goal.decreases-loop-next
decreases-loop-next l = length l.left
