use Rattle.std.proofs.Common.{ℕ, List, sym, subst}
use Rattle.proof_text.specs.Reading.{hint_at}
use Rattle.js_units.proofs.Reading.{Gathers, gathers_more, gathers_end}
use Rattle.proof_text.proofs.Listed.{hint_shortens}
use Rattle.proof_text.proofs.literals.hints.Goals as goal

pub loop-number-smaller : goal.loop-number-smaller
loop-number-smaller c = hint_shortens _ _ _ (sym c.in-Some.ensures)

pub loop-number-preserved : goal.loop-number-preserved
loop-number-preserved c =
    subst (λ (q : List ℕ). Gathers hint_at c.args.bytes.now q c.in-Some.behind.now) (sym c.in_ok-push.ensures.ok)
    (gathers_more hint_at hint_shortens _ _ _ _ _ c.loop-number.invariant (sym c.in-Some.ensures))

pub returns : goal.returns
returns c = sym (gathers_end hint_at _ _ _ c.loop-number.invariant (sym c.in_default.ensures))
