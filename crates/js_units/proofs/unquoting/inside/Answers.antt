use Rattle.std.proofs.Common.{ℕ, List, sym, ap, subst, ◌∙◌}
use Rattle.js_units.specs.Unquoted.{unit_at, closed}
use Rattle.js_units.proofs.Reading.{Gathers, gathers_more, gathers_end}
use Rattle.js_units.proofs.ReadBack.{unit_shortens}
use Rattle.js_units.proofs.unquoting.inside.Goals as goal

pub loop-next-smaller : goal.loop-next-smaller
loop-next-smaller c = unit_shortens _ _ _ (sym c.in-Some.ensures)

pub loop-next-preserved : goal.loop-next-preserved
loop-next-preserved c =
    subst (λ (q : List ℕ). Gathers unit_at c.args.bytes.now q c.in-Some.behind.now) (sym c.in_ok-push.ensures.ok)
    (gathers_more unit_at unit_shortens _ _ _ _ _ c.loop-next.invariant (sym c.in-Some.ensures))

pub returns : goal.returns
returns c = c.close.ensures ∙ ap (λ (q : List ℕ × List ℕ). closed q.0 q.1) (sym (gathers_end unit_at _ _ _ c.loop-next.invariant (sym c.in_default.ensures)))
