use Rattle.std.proofs.Common.{◌∙◌, arith}
use Rattle.js_ast.specs.declared.expression.Expr.{Expr}
use Rattle.js_ast.specs.declared.parts.Declarator.{Declarator}
use Rattle.js_early.specs.Parts.{optional_places}
use Rattle.js_early.specs.Weight.{optional_weight}
use Rattle.js_early.proofs.Least.{least_step}
use Rattle.js_early.proofs.Turns.{weight_step}
use Rattle.js_early.proofs.parts.in_declarators.Goals as goal

pub loop-declarator-preserved : goal.loop-declarator-preserved
loop-declarator-preserved c = (
  least_step (λ (d : Declarator Expr). optional_places d.value) c.args.declarators.now c.loop-declarator.declarator-index c.declarator-item.result _ _ (omega arith) c.declarator-item.is c.in_ok-in_optional.ensures.least ∙ c.loop-declarator.invariant.0,
  weight_step (λ (d : Declarator Expr). optional_weight d.value) c.args.declarators.now c.loop-declarator.declarator-index c.declarator-item.result _ _ (omega arith) c.declarator-item.is c.in_ok-in_optional.ensures.weight ∙ c.loop-declarator.invariant.1,
)
