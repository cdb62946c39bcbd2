use Rattle.std.proofs.Common.{◌≡◌}
use Rattle.js_early.proofs.script.in_trees.Given as goal

abbrev pub invariant-loop-tree : goal.invariant-loop-tree
invariant-loop-tree l = l.search.least ≡ l.fn.search.least

abbrev pub decreases-loop-tree : goal.decreases-loop-tree
decreases-loop-tree l = l.search.weight
