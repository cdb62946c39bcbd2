use Rattle.std.proofs.Common.{◌≡◌, ◌+◌, drop}
use Rattle.std.specs.List.{flat_map, sum_by}
use Rattle.js_early.specs.Parts.{least_with, expr_places}
use Rattle.js_early.specs.Weight.{expr_weight}
use Rattle.js_early.proofs.parts.in_exprs.Given as goal

abbrev pub invariant-loop-expr : goal.invariant-loop-expr
invariant-loop-expr l =
    (least_with l.search.least (flat_map expr_places (drop l.expr-index l.exprs)) ≡ least_with l.fn.search.least (flat_map expr_places l.fn.exprs))
    × (l.search.weight + sum_by expr_weight (drop l.expr-index l.exprs) ≡ l.fn.search.weight + sum_by expr_weight l.fn.exprs)
