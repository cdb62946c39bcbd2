use Rattle.std.proofs.Common.{◌∙◌, arith}
use Rattle.js_ast.specs.declared.statement.Stmt.{Stmt}
use Rattle.js_early.specs.Early.{stmt_found}
use Rattle.js_early.specs.Weight.{stmt_weight}
use Rattle.js_early.proofs.Least.{least_step}
use Rattle.js_early.proofs.Turns.{weight_step}
use Rattle.js_early.proofs.statements.in_stmts.Goals as goal

pub loop-stmt-preserved : goal.loop-stmt-preserved
loop-stmt-preserved c = (
  least_step (λ (s : Stmt). (stmt_found s).places) c.args.body.now c.loop-stmt.stmt-index c.stmt-item.result _ _ (omega arith) c.stmt-item.is c.in_ok-statement.ensures.least ∙ c.loop-stmt.invariant.0,
  weight_step stmt_weight c.args.body.now c.loop-stmt.stmt-index c.stmt-item.result _ _ (omega arith) c.stmt-item.is c.in_ok-statement.ensures.weight ∙ c.loop-stmt.invariant.1,
)
