use Rattle.std.proofs.Common.{sym, ◌∙◌}
use Rattle.path_core.proofs.Order.{within_length, is_next, is_last, moved_within}
use Rattle.path_core.proofs.inputs.next_input.Goals as goal

pub next_values-requires : goal.next_values-requires
next_values-requires c =
    let w = c.requires.within in
    rw (c.as_slice.ensures, c.as_slice-2.ensures) (within_length c.args.bounds.now.inputs w.0 c.args.input.now.values w.1 w.2)

pub returns-in-Some-clause-more : goal.returns-in-Some-clause-more
returns-in-Some-clause-more c = λ ok.
    is_next c.args.bounds.now.inputs c.args.input.now.values c.in-Some.values c.requires.ranges (sym (rw (c.as_slice.ensures, c.as_slice-2.ensures) at (sym c.in-Some.is ∙ c.in_ok-next.ensures)))

pub returns-in-Some-clause-within : goal.returns-in-Some-clause-within
returns-in-Some-clause-within c =
    moved_within c.args.bounds.now.inputs c.args.input.now.values c.in-Some.values c.requires.within (is_next c.args.bounds.now.inputs c.args.input.now.values c.in-Some.values c.requires.ranges (sym (rw (c.as_slice.ensures, c.as_slice-2.ensures) at (sym c.in-Some.is ∙ c.in_ok-next.ensures))))

pub returns-in-None-clause-last : goal.returns-in-None-clause-last
returns-in-None-clause-last c = λ ok.
    is_last c.args.bounds.now.inputs c.args.input.now.values c.requires.ranges (sym (rw (c.as_slice.ensures, c.as_slice-2.ensures) at (sym c.in-None.is ∙ c.in_ok-next.ensures)))
