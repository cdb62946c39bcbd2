use Rattle.std.proofs.Common.{◌≡◌, ◌≤◌, ◌-◌, suc}
use Rattle.path_core.proofs.Counting.{texts_from}
use Rattle.path_core.proofs.texts.texts_count.Given as goal

abbrev pub invariant-loop-from : goal.invariant-loop-from
invariant-loop-from l = record {
  begun : l.least ≤ l.from;
  ended : l.from ≤ suc l.most;
  counted : l.total ≡ texts_from l.alphabet l.from (suc l.most - l.from);
}

abbrev pub decreases-loop-from : goal.decreases-loop-from
decreases-loop-from l = l.from
