use Rattle.path_core.proofs.Order.{within_begins, first_within}
use Rattle.path_core.proofs.inputs.first_input.Goals as goal

pub returns-clause-first : goal.returns-clause-first
returns-clause-first c =
    let r = within_begins c.args.bounds.now.inputs c.requires in
    (r.0, rw (c.in_ok-values.ensures, c.as_slice.ensures) r.1)

pub returns-clause-within : goal.returns-clause-within
returns-clause-within c =
    let r = within_begins c.args.bounds.now.inputs c.requires in
    first_within c.args.bounds.now.inputs c.in_ok-values.values r.0 (rw (c.in_ok-values.ensures, c.as_slice.ensures) r.1)
