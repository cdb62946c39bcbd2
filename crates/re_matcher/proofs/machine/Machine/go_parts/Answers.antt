use Rattle.re_matcher.specs.Pending.{state}
use Rattle.re_matcher.proofs.Waiting.{pushes_as, no_parts, some_parts}
use Rattle.re_matcher.proofs.machine.Machine.go_parts.Goals as goal

pub returns-in_ok-go_on-in-empty : goal.returns-in_ok-go_on-in-empty
returns-in_ok-go_on-in-empty c =
    pushes_as c.args.flags c.args.text.now _ _ _ _ _ _ _ c.in_ok-go_on-in-empty.ensures (no_parts _ _ _ _ c.in-empty.len_below)

pub returns-in_ok-go_two-in-len1-up : goal.returns-in_ok-go_two-in-len1-up
returns-in_ok-go_two-in-len1-up c =
    pushes_as c.args.flags c.args.text.now _ _ _ _ _ _ _ c.in_ok-go_two-in-len1-up.ensures
    (some_parts c.args.flags c.args.text.now c.args.parts.now c.part-item.result (state c.args.spot) c.part-item.is c.in-len1-up.len_at_least)
