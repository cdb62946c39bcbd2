-- One layer of what a tree does.
use Rattle.std.proofs.Common.{◌≡◌}
use Rattle.js_ast.specs.declared.expression.Expr.{Expr, para-roll-Expr, roll-Expr, map-Expr}
use Rattle.js_ast.specs.declared.expression.Expr.TheOpen.{Expr-F, Stmt-F, Arm-F}
use Rattle.js_ast.specs.declared.statement.Stmt.{Stmt, para-roll-Stmt, roll-Stmt, map-Stmt}
use Rattle.js_ast.specs.declared.statement.Arm.{Arm, para-roll-Arm, roll-Arm, map-Arm}
use Rattle.js_meaning.specs.Parts.{Meaning}
use Rattle.js_meaning.specs.Meaning.{Arms, of_expr, of_stmt, of_arm, expr, stmt, arm}

abbrev pub with_expr : Expr → Expr × Meaning
with_expr x = (x, expr x)

abbrev pub with_stmt : Stmt → Stmt × Meaning
with_stmt s = (s, stmt s)

abbrev pub with_arm : Arm → Arm × Arms
with_arm a = (a, arm a)

pub opens_expr : (f : Expr-F Expr Stmt Arm) →
    expr (roll-Expr f) ≡ of_expr (map-Expr Expr Stmt Arm (Expr × Meaning) (Stmt × Meaning) (Arm × Arms) with_expr with_stmt with_arm f)
unfolding expr stmt arm
opens_expr f = para-roll-Expr Meaning Meaning Arms of_expr of_stmt of_arm f

pub opens_stmt : (f : Stmt-F Expr Stmt Arm) →
    stmt (roll-Stmt f) ≡ of_stmt (map-Stmt Expr Stmt Arm (Expr × Meaning) (Stmt × Meaning) (Arm × Arms) with_expr with_stmt with_arm f)
unfolding expr stmt arm
opens_stmt f = para-roll-Stmt Meaning Meaning Arms of_expr of_stmt of_arm f

pub opens_arm : (f : Arm-F Expr Stmt Arm) →
    arm (roll-Arm f) ≡ of_arm (map-Arm Expr Stmt Arm (Expr × Meaning) (Stmt × Meaning) (Arm × Arms) with_expr with_stmt with_arm f)
unfolding expr stmt arm
opens_arm f = para-roll-Arm Meaning Meaning Arms of_expr of_stmt of_arm f
