use Rattle.std.proofs.Common.{◌≡◌, ◌++◌, drop}
use Rattle.js_early.specs.Parts.{declared_in}
use Rattle.js_early.proofs.scopes.Names.push_body.Given as goal

abbrev pub invariant-loop-stmt : goal.invariant-loop-stmt
invariant-loop-stmt l = l.self ++ declared_in (drop l.stmt-index l.body) ≡ l.fn.self ++ declared_in l.body
