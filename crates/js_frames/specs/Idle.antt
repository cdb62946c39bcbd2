-- Statements that count no node: an `if` with no arms, with no alternative or with such a one. No script spells one.
use Rattle.std.specs.Prelude.{◌≡◌, Bool, true, false, List, [], ◌∷◌, Some, None}
use Rattle.js_ast.specs.declared.expression.Expr.TheOpen.{Expr-F, Stmt-F, Arm-F}
use Rattle.js_ast.specs.declared.statement.Stmt.{Stmt, fold-Stmt}

abbrev pub idle_expr : Expr-F (Unit {0}) Bool (Unit {0}) → Unit {0}
idle_expr f = tt

abbrev pub idle_stmt : Stmt-F (Unit {0}) Bool (Unit {0}) → Bool
idle_stmt (Stmt-F.If [] None) = true
idle_stmt (Stmt-F.If [] (Some other)) = other
idle_stmt _ = false

abbrev pub idle_arm : Arm-F (Unit {0}) Bool (Unit {0}) → Unit {0}
idle_arm a = tt

unfoldable pub is_idle : Stmt → Bool
is_idle = fold-Stmt (Unit {0}) Bool (Unit {0}) idle_expr idle_stmt idle_arm

-- the first of these statements counts one
abbrev pub FirstCounts : List Stmt → Type 0
FirstCounts [] = Unit {0}
FirstCounts (x ∷ xs) = is_idle x ≡ false
