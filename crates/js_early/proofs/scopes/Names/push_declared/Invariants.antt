use Rattle.std.proofs.Common.{◌≡◌, ◌++◌, drop}
use Rattle.js_early.specs.Early.{names_of}
use Rattle.js_early.proofs.scopes.Names.push_declared.Given as goal

abbrev pub invariant-loop-declarator : goal.invariant-loop-declarator
invariant-loop-declarator l = l.self ++ names_of (drop l.declarator-index l.declarators) ≡ l.fn.self ++ names_of l.declarators
