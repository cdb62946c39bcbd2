use Rattle.std.proofs.Common.{arith, refl, ◌∙◌}
use Rattle.js_frames.proofs.Steps.{pushes, leads, both, still}
use Rattle.js_frames.proofs.Opens as opens
use Rattle.js_frames.proofs.Steps.{starts}
use Rattle.js_run_expressions.proofs.expressions.eval.Goals as goal

pub down-init : goal.down-init
down-init c = record { leads = starts; same = refl; cost = refl; credit = refl; fits = c.requires }

pub down-preserved-in-Call : goal.down-preserved-in-Call
down-preserved-in-Call c = record { leads = both c.down.invariant.leads (pushes _ still c.in_ok-push-in-Call.ensures.ok (λ view w. rw (← c.get.ensures, c.in-Call.is, opens.expr_Call, ← c.as_slice-suffixes.ensures) refl)); same = c.down.invariant.same; cost = rw c.in_ok-push-in-Call.ensures.ok (omega (arith, c.down.invariant.cost)); credit = rw c.in_ok-push-in-Call.ensures.ok (omega (arith, c.down.invariant.credit)); fits = rw c.in_ok-push-in-Call.ensures.ok (tt, c.down.invariant.fits) }

pub down-preserved-in-Binary : goal.down-preserved-in-Binary
down-preserved-in-Binary c = record { leads = both c.down.invariant.leads (pushes _ still c.in_ok-push-in-Binary.ensures.ok (λ view w. rw (← c.get.ensures, c.in-Binary.is, opens.expr_Binary, ← c.as_slice-links.ensures) refl)); same = c.down.invariant.same; cost = rw c.in_ok-push-in-Binary.ensures.ok (omega (arith, c.down.invariant.cost)); credit = rw c.in_ok-push-in-Binary.ensures.ok (omega (arith, c.down.invariant.credit)); fits = rw c.in_ok-push-in-Binary.ensures.ok (tt, c.down.invariant.fits) }

pub down-preserved : goal.down-preserved
down-preserved c = record { leads = both c.down.invariant.leads (pushes _ still c.in_ok-push-in-Logical.ensures.ok (λ view w. rw (← c.get.ensures, c.in-Logical.is, opens.expr_Logical, ← c.as_slice-links-in-Logical.ensures) refl)); same = c.down.invariant.same; cost = rw c.in_ok-push-in-Logical.ensures.ok (omega (arith, c.down.invariant.cost)); credit = rw c.in_ok-push-in-Logical.ensures.ok (omega (arith, c.down.invariant.credit)); fits = rw c.in_ok-push-in-Logical.ensures.ok (tt, c.down.invariant.fits) }

pub begin-requires : goal.begin-requires
begin-requires c = record { frames = rw c.down.invariant.same c.down.invariant.fits; call = λ first ss e. c.in_default.not-Call first ss (c.get.ensures ∙ e); binary = λ first ls e. c.in_default.not-Binary first ls (c.get.ensures ∙ e); logical = λ first ls e. c.in_default.not-Logical first ls (c.get.ensures ∙ e) }

pub returns-in_default-clause-leads : goal.returns-in_default-clause-leads
returns-in_default-clause-leads c = leads (both c.down.invariant.leads (rw c.down.invariant.same at c.in_ok-work-in_default.ensures.leads.to))

pub returns-in_default-clause-falls : goal.returns-in_default-clause-falls
returns-in_default-clause-falls c = let h = (rw c.down.invariant.same at c.in_ok-work-in_default.ensures.falls) in omega (arith, h, c.down.invariant.cost)

pub returns-in_default-clause-earns : goal.returns-in_default-clause-earns
returns-in_default-clause-earns c = let h = (rw c.down.invariant.same at c.in_ok-work-in_default.ensures.earns) in omega (arith, h, c.down.invariant.credit)
