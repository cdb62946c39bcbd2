use Rattle.std.proofs.Common.{◌∙◌, arith}
use Rattle.js_early.specs.Parts.{arm_places}
use Rattle.js_early.specs.Weight.{arm_weight}
use Rattle.js_early.proofs.Least.{least_then, least_step}
use Rattle.js_early.proofs.Turns.{weight_step}
use Rattle.js_early.proofs.Opens.{arm_opens}
use Rattle.js_early.proofs.Weighs.{arm_weighs}
use Rattle.js_early.proofs.statements.in_arms.Goals as goal

pub loop-arm-preserved : goal.loop-arm-preserved
loop-arm-preserved c =
    let test = rw c.get.ensures at c.in_ok-expression.ensures.weight in
    let consequent = rw c.get-in-loop-arm.ensures at c.in_ok-statement.ensures.weight in
    let whole = arm_weighs c.arm-item.result in (
      least_step arm_places c.args.arms.now c.loop-arm.arm-index c.arm-item.result _ _ (omega arith) c.arm-item.is
          (rw arm_opens (least_then _ _ _ _ _ (rw c.get.ensures at c.in_ok-expression.ensures.least) (rw c.get-in-loop-arm.ensures at c.in_ok-statement.ensures.least))) ∙ c.loop-arm.invariant.0,
      weight_step arm_weight c.args.arms.now c.loop-arm.arm-index c.arm-item.result _ _ (omega arith) c.arm-item.is (omega arith) ∙ c.loop-arm.invariant.1,
    )
