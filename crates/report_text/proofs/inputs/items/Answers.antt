use Rattle.std.proofs.Common.{sym}
use Rattle.js_units.proofs.Reading.{gathers_more, gathers_end}
use Rattle.report_text.specs.Inputs.{item_at}
use Rattle.report_text.proofs.ReadInputs.{item_shortens}
use Rattle.report_text.proofs.inputs.items.Goals as goal

pub loop-found-smaller : goal.loop-found-smaller
loop-found-smaller c = item_shortens _ _ _ (sym (rw c.in-Some.is at c.in_ok-next.ensures))

pub loop-found-preserved : goal.loop-found-preserved
loop-found-preserved c =
    rw (c.in_ok-push-in-Some.ensures.ok)
    (gathers_more item_at item_shortens _ _ _ _ _ c.loop-found.invariant (sym (rw c.in-Some.is at c.in_ok-next.ensures)))

pub returns-in-None : goal.returns-in-None
returns-in-None c = sym (gathers_end item_at _ _ _ c.loop-found.invariant (sym (rw c.in-None.is at c.in_ok-next.ensures)))
