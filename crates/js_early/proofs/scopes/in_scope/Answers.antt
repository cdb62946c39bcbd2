use Rattle.std.proofs.Common.{◌≡◌, [], drop, sym, ◌∙◌, arith}
use Rattle.std.proofs.lemmas.List.{drop_all}
use Rattle.js_early.proofs.Least.{least_none}
use Rattle.js_early.proofs.scopes.in_scope.Goals as goal

pub returns : goal.returns
returns c =
    let e : drop c.loop-name.name-index c.as_slice-name-items.result.now ≡ [] = drop_all c.loop-name.name-index c.as_slice-name-items.result.now (omega arith) in
    sym (least_none c.loop-name.found) ∙ rw e at c.loop-name.invariant.2
