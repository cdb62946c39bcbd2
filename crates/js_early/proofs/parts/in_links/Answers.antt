use Rattle.std.proofs.Common.{◌∙◌, arith}
use Rattle.js_early.specs.Parts.{expr_places}
use Rattle.js_early.specs.Weight.{expr_weight}
use Rattle.js_early.proofs.Least.{least_step}
use Rattle.js_early.proofs.Turns.{weight_step}
use Rattle.js_early.proofs.parts.in_links.Goals as goal

pub loop-link-preserved : goal.loop-link-preserved
loop-link-preserved g c = (
  least_step (λ k. expr_places k.right) c.args.links.now c.loop-link.link-index c.link-item.result _ _ (omega arith) c.link-item.is (rw c.get.ensures at c.in_ok-expression.ensures.least) ∙ c.loop-link.invariant.0,
  weight_step (λ k. expr_weight k.right) c.args.links.now c.loop-link.link-index c.link-item.result _ _ (omega arith) c.link-item.is (rw c.get.ensures at c.in_ok-expression.ensures.weight) ∙ c.loop-link.invariant.1,
)
