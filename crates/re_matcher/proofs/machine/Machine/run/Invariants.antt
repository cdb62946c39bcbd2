use Rattle.std.proofs.Common.{◌≡◌, length, slice_get, []}
use Rattle.re_matcher.specs.Runs.{somes}
use Rattle.re_matcher.specs.Pending.{waiting, IsSound}
use Rattle.re_matcher.proofs.machine.Machine.run.Given as goal

abbrev pub invariant-steps : goal.invariant-steps
invariant-steps l = record {
  same : slice_get (somes (waiting l.flags l.text l.self.frames l.self.choices [])) 0 ≡ slice_get (somes (waiting l.flags l.text l.initial.self.frames l.initial.self.choices [])) 0;
  sound : IsSound l.flags l.text l.self.frames l.self.choices;
}

-- the steps that are left
abbrev pub decreases-steps : goal.decreases-steps
decreases-steps l = length (waiting l.flags l.text l.self.frames l.self.choices [])
