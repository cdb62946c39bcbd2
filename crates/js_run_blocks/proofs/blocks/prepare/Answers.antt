use Rattle.std.proofs.Common.{◌∙◌}
use Rattle.js_state.proofs.Found.{result_ok, result_err}
use Rattle.js_frames.proofs.Steps.{still_both}
use Rattle.js_run_blocks.proofs.blocks.prepare.Goals as goal

pub returns-in-Err-clause-goes : goal.returns-in-Err-clause-goes
returns-in-Err-clause-goes c view go = result_err view _ _ _ c.in-Err.is (c.in_ok-opened.ensures.goes view _)

pub returns-in-Ok-started-clause-goes : goal.returns-in-Ok-started-clause-goes
returns-in-Ok-started-clause-goes c view go = result_ok view _ _ _ _ c.in-Ok.is (c.in_ok-opened.ensures.goes view _) ∙ result_ok view _ _ _ _ c.in-Ok-started.is (c.in_ok-started.ensures.goes view _)

pub returns-in-Err-started-clause-goes : goal.returns-in-Err-started-clause-goes
returns-in-Err-started-clause-goes c view go = result_ok view _ _ _ _ c.in-Ok.is (c.in_ok-opened.ensures.goes view _) ∙ result_err view _ _ _ c.in-Err-started.is (c.in_ok-started.ensures.goes view _)

pub returns-in-Ok-started-clause-still : goal.returns-in-Ok-started-clause-still
returns-in-Ok-started-clause-still c = still_both c.in_ok-opened.ensures.still c.in_ok-started.ensures.still

pub returns-in-Err-started-clause-still : goal.returns-in-Err-started-clause-still
returns-in-Err-started-clause-still c = still_both c.in_ok-opened.ensures.still c.in_ok-started.ensures.still
