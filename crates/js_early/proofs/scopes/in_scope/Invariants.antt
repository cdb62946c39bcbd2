use Rattle.std.proofs.Common.{◌≡◌, List, drop, map}
use Rattle.js_ast.specs.declared.parts.Identifier.{Identifier}
use Rattle.js_early.specs.Early.{scope, repeated}
use Rattle.js_early.specs.Parts.{least_with}
use Rattle.js_early.specs.Scopes.{Holds}
use Rattle.js_early.proofs.scopes.in_scope.Given as goal

abbrev pub invariant-loop-name : goal.invariant-loop-name
invariant-loop-name l =
    (earlier : List Identifier) × Holds l.seen earlier
    × (least_with l.found (repeated earlier (map (λ r. r.now) (drop l.name-index l.name-items))) ≡ least_with l.fn.found (scope l.fn.names))
