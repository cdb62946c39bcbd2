use Rattle.std.proofs.Common.{◌-◌, ◌+◌, sym, ◌∙◌, arith}
use Rattle.path_core.proofs.Order.{found_at}
use Rattle.path_core.proofs.inputs.next_values.Goals as goal

pub returns-in-Some : goal.returns-in-Some
returns-in-Some c =
    rw c.in_ok-moved.ensures (sym (found_at c.args.declared.now c.args.values.now (c.loop-at.at - 1) c.loop-at.at (c.loop-at.at - 1 + 1) c.index-declared-at.result c.index-values-at.result c.in-Some.next (omega arith) (omega arith) (omega arith) c.requires c.loop-at.invariant.none c.index-values-at.is (sym c.in-Some.is ∙ c.in_ok-found.ensures)))
