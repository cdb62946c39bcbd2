use Rattle.std.proofs.Common.{◌≡◌}
use Rattle.js_meaning.specs.Meaning.{expr}
use Rattle.js_state.specs.Seen.{place_of}
use Rattle.js_frames.specs.Credit.{credits}
use Rattle.js_frames.specs.Fitting.{FitFrames}
use Rattle.js_frames.specs.Machine.{Goes, doing}
use Rattle.js_frames.specs.Weight.{cost_of_frames}
use Rattle.js_run_expressions.proofs.expressions.eval.Given as goal

abbrev pub invariant-down : goal.invariant-down
invariant-down l = record {
  leads : Goes l.fn.state l.fn.frames (λ view w. doing w (expr l.fn.tree) l.fn.scope (place_of view l.fn.state)) l.fn.state l.frames (λ view w. doing w (expr l.part) l.fn.scope (place_of view l.fn.state));
  same : l.state ≡ l.fn.state;
  cost : cost_of_frames l.frames ≡ cost_of_frames l.fn.frames;
  credit : credits l.frames ≡ credits l.fn.frames;
  fits : FitFrames l.fn.state l.frames;
}
