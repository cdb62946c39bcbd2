use Rattle.std.proofs.Common.{◌∙◌, sym, ap, take, drop, length, ◌-◌}
use Rattle.js_meaning.specs.Blocks.{run_all}
use Rattle.js_meaning.specs.Meaning.{stmts}
use Rattle.js_meaning.specs.Running.{Outcome}
use Rattle.js_frames.proofs.Passing.{list_more}
use Rattle.js_run_blocks.proofs.Started.{run_skips}
use Rattle.js_run_blocks.proofs.blocks.from_counted.Goals as goal

pub loop-left-preserved : goal.loop-left-preserved
loop-left-preserved c calls k scope st =
    run_skips c.first-item.result (take (length c.loop-left.left.now - 1) (drop 1 c.loop-left.left.now)) calls k scope st (c.is_idle.ensures.does c.if-not-is_idle.false)
    ∙ ap {B = Outcome} (λ ss. run_all (stmts ss) calls k scope st) (sym (list_more c.loop-left.left.now c.first-item.result c.in-len1-up.len_at_least c.first-item.is))
    ∙ c.loop-left.invariant calls k scope st
