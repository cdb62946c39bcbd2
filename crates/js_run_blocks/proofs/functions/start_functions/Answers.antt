use Rattle.std.proofs.Common.{refl, ◌∙◌, ap}
use Rattle.js_meaning.specs.Running.{Outcome}
use Rattle.js_meaning.specs.Blocks.{start_functions}
use Rattle.js_state.specs.Held.{scope_of}
use Rattle.js_state.specs.Seen.{place_of}
use Rattle.js_state.proofs.Found.{result_ok, result_err}
use Rattle.js_frames.proofs.Steps.{still_both}
use Rattle.js_frames.proofs.Passing.{list_none, list_more}
use Rattle.js_run_blocks.proofs.functions.start_functions.Goals as goal

pub functions-init : goal.functions-init
functions-init c = record { goes = λ view go. refl; still = record { turns = refl; nodes = refl; moves = refl; table = refl; keeps = refl; spends = refl } }

pub returns-in-Err-clause-goes : goal.returns-in-Err-clause-goes
returns-in-Err-clause-goes c view go =
    c.functions.invariant.goes view go
    ∙ ap {B = Outcome} (λ ss. start_functions ss (scope_of c.args.scope) (place_of view c.functions.state) go) (list_more c.functions.left.now c.first-item.result c.in-len1-up.len_at_least c.first-item.is)
    ∙ result_err view _ _ _ c.in-Err.is (c.in_ok-started.ensures.goes view _)

pub returns-in-Err-clause-still : goal.returns-in-Err-clause-still
returns-in-Err-clause-still c = still_both c.functions.invariant.still c.in_ok-started.ensures.still

pub functions-preserved : goal.functions-preserved
functions-preserved c = record {
  goes = λ view go. c.functions.invariant.goes view go ∙ ap {B = Outcome} (λ ss. start_functions ss (scope_of c.args.scope) (place_of view c.functions.state) go) (list_more c.functions.left.now c.first-item.result c.in-len1-up.len_at_least c.first-item.is) ∙ result_ok view _ _ _ _ c.in-Ok.is (c.in_ok-started.ensures.goes view _);
  still = still_both c.functions.invariant.still c.in_ok-started.ensures.still;
}

pub returns-clause-goes : goal.returns-clause-goes
returns-clause-goes c view go =
    c.functions.invariant.goes view go
    ∙ ap {B = Outcome} (λ ss. start_functions ss (scope_of c.args.scope) (place_of view c.functions.state) go) (list_none c.functions.left.now c.in_default.len_below)
