use Rattle.std.proofs.Common.{◌+◌}
use Rattle.js_frames.specs.Credit.{Earns, credits, credit_of_work}
use Rattle.js_frames.specs.Fitting.{FitAll}
use Rattle.js_frames.specs.Machine.{Goes, thread}
use Rattle.js_frames.specs.Weight.{weight}
use Rattle.js_machine.proofs.machine.drive.Given as goal

abbrev pub invariant-steps : goal.invariant-steps
invariant-steps l = record {
  leads : Goes l.fn.state l.fn.frames (λ view. thread view l.fn.start l.fn.state) l.state l.frames (λ view. thread view l.work l.state);
  earns : Earns l.fn.state l.state (credits l.fn.frames + credit_of_work l.fn.start) (credits l.frames + credit_of_work l.work);
  fits : FitAll l.state l.frames l.work;
}

abbrev pub decreases-steps : goal.decreases-steps
decreases-steps l = weight l.state.nodes l.state.turns l.frames l.work
