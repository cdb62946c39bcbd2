use Rattle.std.proofs.Common.{sym}
use Rattle.js_units.proofs.Reading.{gathers_more, gathers_end}
use Rattle.report_text.specs.Queries.{child_at}
use Rattle.report_text.proofs.ReadQueries.{child_shortens}
use Rattle.report_text.proofs.queries.children.Goals as goal

pub loop-found-smaller : goal.loop-found-smaller
loop-found-smaller c = child_shortens _ _ _ (sym (rw c.in-Some.is at c.in_ok-next.ensures))

pub loop-found-preserved : goal.loop-found-preserved
loop-found-preserved c =
    rw (c.in_ok-push-in-Some.ensures.ok)
    (gathers_more child_at child_shortens _ _ _ _ _ c.loop-found.invariant (sym (rw c.in-Some.is at c.in_ok-next.ensures)))

pub returns-in-None : goal.returns-in-None
returns-in-None c = sym (gathers_end child_at _ _ _ c.loop-found.invariant (sym (rw c.in-None.is at c.in_ok-next.ensures)))
