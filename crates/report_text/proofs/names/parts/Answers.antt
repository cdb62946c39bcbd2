use Rattle.std.proofs.Common.{ℕ, List, sym, subst}
use Rattle.js_units.proofs.Reading.{Gathers, gathers_more, gathers_end}
use Rattle.report_text.specs.Parts.{part_at}
use Rattle.report_text.proofs.ReadParts.{part_shortens}
use Rattle.report_text.proofs.names.parts.Goals as goal

pub loop-next-smaller : goal.loop-next-smaller
loop-next-smaller c = part_shortens _ _ _ (sym c.in-Some.ensures)

pub loop-next-preserved : goal.loop-next-preserved
loop-next-preserved c =
    subst (λ (q : List ℕ). Gathers part_at c.args.bytes.now q c.in-Some.behind.now) (sym c.in_ok-push.ensures.ok)
    (gathers_more part_at part_shortens _ _ _ _ _ c.loop-next.invariant (sym c.in-Some.ensures))

pub returns : goal.returns
returns c = sym (gathers_end part_at _ _ _ c.loop-next.invariant (sym c.in_default.ensures))
