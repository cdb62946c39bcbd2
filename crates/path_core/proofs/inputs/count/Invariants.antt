use Rattle.std.proofs.Common.{◌≡◌, length}
use Rattle.std.specs.Prelude.{All}
use Rattle.path_core.specs.Inputs.{IsRange}
use Rattle.path_core.proofs.Counting.{product_from}
use Rattle.path_core.proofs.inputs.count.Given as goal

abbrev pub invariant-loop-left : goal.invariant-loop-left
invariant-loop-left l = record {
  ranges : All (λ d. IsRange d.kind) l.left;
  counted : product_from l.total l.left ≡ product_from 1 l.bounds.inputs;
}

abbrev pub decreases-loop-left : goal.decreases-loop-left
decreases-loop-left l = length l.left
