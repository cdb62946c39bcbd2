use Rattle.std.proofs.Common.{◌≡◌, ◌+◌, drop}
use Rattle.std.specs.List.{flat_map, sum_by}
use Rattle.js_early.specs.Parts.{least_with, arm_places}
use Rattle.js_early.specs.Weight.{arm_weight}
use Rattle.js_early.proofs.statements.in_arms.Given as goal

abbrev pub invariant-loop-arm : goal.invariant-loop-arm
invariant-loop-arm l =
    (least_with l.search.least (flat_map arm_places (drop l.arm-index l.arms)) ≡ least_with l.fn.search.least (flat_map arm_places l.fn.arms))
    × (l.search.weight + sum_by arm_weight (drop l.arm-index l.arms) ≡ l.fn.search.weight + sum_by arm_weight l.fn.arms)
