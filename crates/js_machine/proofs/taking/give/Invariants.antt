use Rattle.std.proofs.Common.{◌≡◌, ◌≤◌, ◌+◌, length}
use Rattle.js_state.specs.Spending.{credit_of_given}
use Rattle.js_frames.specs.Credit.{credits}
use Rattle.js_frames.specs.Fitting.{FitAll}
use Rattle.js_frames.specs.Machine.{Goes, thread}
use Rattle.js_frames.specs.Weight.{cost_of_frames, cost_of_given}
use Rattle.js_frames.specs.declared.frames.Work.TheVariants.{Give}
use Rattle.js_machine.proofs.taking.give.Given as goal

abbrev pub invariant-up : goal.invariant-up
invariant-up l = record {
  leads : Goes l.fn.state l.fn.frames (λ view. thread view (Give l.fn.completion) l.fn.state) l.fn.state l.frames (λ view. thread view (Give l.completion) l.fn.state);
  same : l.state ≡ l.fn.state;
  cost : cost_of_frames l.frames + cost_of_given l.completion ≤ cost_of_frames l.fn.frames + cost_of_given l.fn.completion;
  credit : credits l.frames + credit_of_given l.completion ≤ credits l.fn.frames + credit_of_given l.fn.completion;
  fits : FitAll l.fn.state l.frames (Give l.completion);
}

abbrev pub decreases-up : goal.decreases-up
decreases-up l = length l.frames
