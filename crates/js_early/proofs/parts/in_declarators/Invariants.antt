use Rattle.std.proofs.Common.{◌≡◌, ◌+◌, drop}
use Rattle.js_early.specs.Parts.{least_with, declarators_places}
use Rattle.js_early.specs.Weight.{declarators_weight}
use Rattle.js_early.proofs.parts.in_declarators.Given as goal

abbrev pub invariant-loop-declarator : goal.invariant-loop-declarator
invariant-loop-declarator l =
    (least_with l.search.least (declarators_places (drop l.declarator-index l.declarators)) ≡ least_with l.fn.search.least (declarators_places l.fn.declarators))
    × (l.search.weight + declarators_weight (drop l.declarator-index l.declarators) ≡ l.fn.search.weight + declarators_weight l.fn.declarators)
