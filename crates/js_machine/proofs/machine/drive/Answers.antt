use Rattle.std.proofs.Common.{arith}
use Rattle.js_frames.proofs.Steps.{leads, both, starts, emptied}
use Rattle.js_machine.proofs.machine.drive.Goals as goal

pub steps-init : goal.steps-init
steps-init c = record { leads = starts; earns = omega arith; fits = c.requires }

pub returns-in-Ended-clause-leads : goal.returns-in-Ended-clause-leads
returns-in-Ended-clause-leads c =
    leads (emptied (rw c.in-Ended.is at c.in_ok-completion.ensures.ended) (both c.steps.invariant.leads (rw c.in-Ended.is at c.in_ok-completion.ensures.leads.to)))

pub steps-preserved : goal.steps-preserved
steps-preserved c =
    let earns = (rw c.in-Next.is at c.in_ok-completion.ensures.earns) in
    record {
      leads = both c.steps.invariant.leads (rw c.in-Next.is at c.in_ok-completion.ensures.leads.to);
      earns = omega (arith, earns, c.steps.invariant.earns);
      fits = rw c.in-Next.is at c.in_ok-completion.ensures.fits;
    }
