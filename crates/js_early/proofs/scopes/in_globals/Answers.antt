use Rattle.std.proofs.Common.{sym, ◌∙◌, arith}
use Rattle.js_early.proofs.Least.{named_step, named_all}
use Rattle.js_early.proofs.scopes.in_globals.Goals as goal

pub loop-name-preserved : goal.loop-name-preserved
loop-name-preserved c = named_step c.as_slice-name-items.result.now c.loop-name.name-index c.name-item.result _ _ (omega arith) c.name-item.is c.in_global.ensures ∙ c.loop-name.invariant

pub returns : goal.returns
returns c = sym (named_all c.as_slice-name-items.result.now c.loop-name.name-index c.loop-name.found (omega arith)) ∙ c.loop-name.invariant
