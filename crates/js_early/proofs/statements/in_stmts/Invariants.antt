use Rattle.std.proofs.Common.{◌≡◌, ◌+◌, drop}
use Rattle.js_early.specs.Parts.{least_with, stmts_places}
use Rattle.js_early.specs.Weight.{stmts_weight}
use Rattle.js_early.proofs.statements.in_stmts.Given as goal

abbrev pub invariant-loop-stmt : goal.invariant-loop-stmt
invariant-loop-stmt l =
    (least_with l.search.least (stmts_places (drop l.stmt-index l.body)) ≡ least_with l.fn.search.least (stmts_places l.fn.body))
    × (l.search.weight + stmts_weight (drop l.stmt-index l.body) ≡ l.fn.search.weight + stmts_weight l.fn.body)
