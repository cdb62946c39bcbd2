use Rattle.std.proofs.Common.{◌∙◌, arith}
use Rattle.js_early.specs.Parts.{expr_places}
use Rattle.js_early.specs.Weight.{expr_weight}
use Rattle.js_early.proofs.Least.{least_step}
use Rattle.js_early.proofs.Turns.{weight_step}
use Rattle.js_early.proofs.parts.in_exprs.Goals as goal

pub loop-expr-preserved : goal.loop-expr-preserved
loop-expr-preserved c = (
  least_step expr_places c.args.exprs.now c.loop-expr.expr-index c.expr-item.result _ _ (omega arith) c.expr-item.is (rw c.get.ensures at c.in_ok-expression.ensures.least) ∙ c.loop-expr.invariant.0,
  weight_step expr_weight c.args.exprs.now c.loop-expr.expr-index c.expr-item.result _ _ (omega arith) c.expr-item.is (rw c.get.ensures at c.in_ok-expression.ensures.weight) ∙ c.loop-expr.invariant.1,
)
