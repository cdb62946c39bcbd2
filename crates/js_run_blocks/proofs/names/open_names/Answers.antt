use Rattle.std.proofs.Common.{refl, ◌∙◌, ap, take, drop, length, ◌-◌}
use Rattle.js_meaning.specs.Running.{Outcome}
use Rattle.js_meaning.specs.Blocks.{declared_of, open_names}
use Rattle.js_state.specs.Held.{scope_of}
use Rattle.js_state.specs.Seen.{place_of}
use Rattle.js_state.proofs.Found.{result_ok, result_err}
use Rattle.js_frames.proofs.Steps.{still_both}
use Rattle.js_frames.proofs.Passing.{list_none, list_more}
use Rattle.js_run_blocks.proofs.Opened.{opens_one}
use Rattle.js_run_blocks.proofs.names.open_names.Goals as goal

pub names-init : goal.names-init
names-init c = record { goes = λ view go. refl; still = record { turns = refl; nodes = refl; moves = refl; table = refl; keeps = refl; spends = refl } }

pub returns-in-Err-clause-goes : goal.returns-in-Err-clause-goes
returns-in-Err-clause-goes c view go =
    c.names.invariant.goes view go
    ∙ ap {B = Outcome} (λ ds. open_names (declared_of c.args.kind ds) (scope_of c.names.inner) (place_of view c.names.state) go) (list_more c.names.left.now c.first-item.result c.in-len1-up.len_at_least c.first-item.is)
    ∙ result_err view _ _ _ c.in-Err.is (opens_one view c.args.kind c.first-item.result (take (length c.names.left.now - 1) (drop 1 c.names.left.now)) _ c.names.inner c.names.state c.open_cell.new.self _ go c.is_let-is_mutable.ensures (c.in_ok-opened.ensures.goes view))

pub returns-in-Err-clause-still : goal.returns-in-Err-clause-still
returns-in-Err-clause-still c = still_both c.names.invariant.still c.in_ok-opened.ensures.still

pub names-preserved : goal.names-preserved
names-preserved c = record {
  goes = λ view go. c.names.invariant.goes view go ∙ ap {B = Outcome} (λ ds. open_names (declared_of c.args.kind ds) (scope_of c.names.inner) (place_of view c.names.state) go) (list_more c.names.left.now c.first-item.result c.in-len1-up.len_at_least c.first-item.is) ∙ result_ok view _ _ _ _ c.in-Ok.is (opens_one view c.args.kind c.first-item.result (take (length c.names.left.now - 1) (drop 1 c.names.left.now)) _ c.names.inner c.names.state c.open_cell.new.self _ go c.is_let-is_mutable.ensures (c.in_ok-opened.ensures.goes view));
  still = still_both c.names.invariant.still c.in_ok-opened.ensures.still;
}

pub returns-clause-goes : goal.returns-clause-goes
returns-clause-goes c view go =
    c.names.invariant.goes view go
    ∙ ap {B = Outcome} (λ ds. open_names (declared_of c.args.kind ds) (scope_of c.names.inner) (place_of view c.names.state) go) (list_none c.names.left.now c.in_default.len_below)
