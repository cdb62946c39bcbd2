use Rattle.std.proofs.Common.{refl, arith}
use Rattle.js_frames.proofs.Steps.{stays, leads, both, still, starts, pops}
use Rattle.js_machine.proofs.taking.give.Goals as goal

pub up-init : goal.up-init
up-init c = record { leads = starts; same = refl; cost = omega arith; credit = omega arith; fits = c.requires }

pub resume-requires-clause-frames : goal.resume-requires-clause-frames
resume-requires-clause-frames c = rw c.up.invariant.same ((rw c.in-Some.ensures at c.up.invariant.fits.0).1)

pub returns-then-acts-clause-leads : goal.returns-then-acts-clause-leads
returns-then-acts-clause-leads c = leads (both (both c.up.invariant.leads (pops c.up.completion c.in-Some.ensures)) (rw c.up.invariant.same at c.in_ok-work-in-Some.ensures.leads.to))

pub up-preserved : goal.up-preserved
up-preserved c =
    let cost = (rw c.in-Some.ensures at c.up.invariant.cost) in
    let credit = (rw c.in-Some.ensures at c.up.invariant.credit) in
    record {
      leads = both (both c.up.invariant.leads (pops c.up.completion c.in-Some.ensures)) (stays still refl (rw c.up.invariant.same at c.hand_on-completion.ensures.gives));
      same = c.up.invariant.same;
      cost = omega (arith, cost, c.hand_on-completion.ensures.cost);
      credit = omega (arith, credit, c.hand_on-completion.ensures.credit);
      fits = ((rw c.in-Some.ensures at c.up.invariant.fits.0).1, rw c.up.invariant.same at c.hand_on-completion.ensures.fits);
    }
