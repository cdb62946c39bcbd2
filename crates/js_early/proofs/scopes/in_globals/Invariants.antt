use Rattle.std.proofs.Common.{◌≡◌, drop, map}
use Rattle.js_early.specs.Parts.{least_with, globals_in}
use Rattle.js_early.proofs.scopes.in_globals.Given as goal

abbrev pub invariant-loop-name : goal.invariant-loop-name
invariant-loop-name l = least_with l.found (globals_in (map (λ r. r.now) (drop l.name-index l.name-items))) ≡ least_with l.fn.found (globals_in l.fn.names)
