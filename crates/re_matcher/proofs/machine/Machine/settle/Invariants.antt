use Rattle.std.proofs.Common.{◌≡◌, ◌≤◌, Some, ◌∷◌, [], length, slice_get}
use Rattle.re_matcher.specs.Runs.{somes}
use Rattle.re_matcher.specs.Pending.{state, waiting, IsSound}
use Rattle.re_matcher.proofs.machine.Machine.settle.Given as goal

abbrev pub invariant-choices : goal.invariant-choices
invariant-choices l = record {
  same : slice_get (somes (waiting l.fn.flags l.text l.self.frames l.self.choices (Some (state l.spot) ∷ []))) 0 ≡ slice_get (somes (waiting l.fn.flags l.text l.initial.self.frames l.initial.self.choices (Some (state l.spot) ∷ []))) 0;
  less : length (waiting l.fn.flags l.text l.self.frames l.self.choices (Some (state l.spot) ∷ [])) ≤ length (waiting l.fn.flags l.text l.initial.self.frames l.initial.self.choices (Some (state l.spot) ∷ []));
  sound : IsSound l.fn.flags l.text l.self.frames l.self.choices;
}

abbrev pub decreases-choices : goal.decreases-choices
decreases-choices l = length l.self.choices
