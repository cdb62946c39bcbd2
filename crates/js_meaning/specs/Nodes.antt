-- What counts as a node, and where (this project's own rule): each expression and each statement, at its first token. A chain
-- of operators counts one for each operator, at its mark, when it is reached; a call counts its first part and each suffix, at
-- the `.`, `[` or `(`; an `if` counts each of its arms that is reached, at the word; a target counts as a name, or as its base
-- and a suffix; a member that is a name alone counts as that name. Parentheses count nothing, nor do the braces of a
-- function and of `try`, nor a declaration in the head of a `for`.
use Rattle.std.specs.Prelude.{ℕ, Option, Some, None}
use Rattle.js_ast.specs.declared.expression.Expr.TheOpen.{Expr-F, Stmt-F}
use Rattle.js_meaning.specs.Values.{Place}
use Rattle.js_meaning.specs.Running.{Outcome, count}

abbrev pub expr_node : {E S A : Type 0} → Expr-F E S A → Option ℕ
expr_node (Expr-F.Name name) = Some name.site
expr_node (Expr-F.Number site n) = Some site
expr_node (Expr-F.Text site t) = Some site
expr_node (Expr-F.Null site) = Some site
expr_node (Expr-F.True site) = Some site
expr_node (Expr-F.False site) = Some site
expr_node (Expr-F.This site) = Some site
expr_node (Expr-F.Array site items) = Some site
expr_node (Expr-F.Object site ms) = Some site
expr_node (Expr-F.FunctionExpression site name parameters body) = Some site
expr_node (Expr-F.Arrow site parameters value) = Some site
expr_node (Expr-F.ArrowBlock site parameters body) = Some site
expr_node (Expr-F.New site name arguments) = Some site
expr_node (Expr-F.Call first suffixes) = None
expr_node (Expr-F.Unary site op operand) = Some site
expr_node (Expr-F.Step start site op is_prefix target) = Some start
expr_node (Expr-F.Binary first links) = None
expr_node (Expr-F.Logical first links) = None
expr_node (Expr-F.Conditional start site test consequent alternate) = Some start
expr_node (Expr-F.Assign start site op target value) = Some start

abbrev pub stmt_node : {E S A : Type 0} → Stmt-F E S A → Option ℕ
stmt_node (Stmt-F.Block site body) = Some site
stmt_node (Stmt-F.Nothing site) = Some site
stmt_node (Stmt-F.Declare site kind declarators) = Some site
stmt_node (Stmt-F.Function site name parameters body) = Some site
stmt_node (Stmt-F.Express site value) = Some site
stmt_node (Stmt-F.If arms alternate) = None
stmt_node (Stmt-F.While site test body) = Some site
stmt_node (Stmt-F.Do site body test_site test) = Some site
stmt_node (Stmt-F.For site head test update body) = Some site
stmt_node (Stmt-F.ForOf site kind name items body) = Some site
stmt_node (Stmt-F.Break site) = Some site
stmt_node (Stmt-F.Continue site) = Some site
stmt_node (Stmt-F.Return site value) = Some site
stmt_node (Stmt-F.Throw site value) = Some site
stmt_node (Stmt-F.Try site body catch finally) = Some site

abbrev pub count_at : Option ℕ → Place → (Place → Outcome) → Outcome
count_at None st go = go st
count_at (Some site) st go = count site st go
