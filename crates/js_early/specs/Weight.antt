-- How many trees a tree has, itself among them: a search of one that puts the trees directly below it in its place has less to do.
use Rattle.std.specs.Prelude.{ℕ, ◌+◌, ◌-◌, List, Option, Some, None}
use Rattle.std.specs.List.{sum_by}
use Rattle.js_ast.specs.declared.expression.Expr.{Expr, fold-Expr}
use Rattle.js_ast.specs.declared.expression.Expr.TheOpen.{Expr-F, Stmt-F, Arm-F}
use Rattle.js_ast.specs.declared.statement.Stmt.{Stmt, fold-Stmt}
use Rattle.js_ast.specs.declared.statement.Arm.{Arm, fold-Arm}
use Rattle.js_ast.specs.declared.parts.Access.{Access}
use Rattle.js_ast.specs.declared.parts.Access.TheVariants as access
use Rattle.js_ast.specs.declared.parts.Suffix.{Suffix}
use Rattle.js_ast.specs.declared.parts.Suffix.TheVariants as suffix
use Rattle.js_ast.specs.declared.parts.Target.{Target}
use Rattle.js_ast.specs.declared.parts.Target.TheVariants as target
use Rattle.js_ast.specs.declared.parts.Member.{Member}
use Rattle.js_ast.specs.declared.parts.Member.TheVariants as member
use Rattle.js_ast.specs.declared.parts.Link.{Link}
use Rattle.js_ast.specs.declared.parts.Declarator.{Declarator}
use Rattle.js_ast.specs.declared.parts.LoopHead.{LoopHead}
use Rattle.js_ast.specs.declared.parts.LoopHead.TheVariants as head
use Rattle.js_ast.specs.declared.parts.Catch.{Catch}

-- ---- parts, by the weights of what is in them

abbrev pub sum_all : List ℕ → ℕ
sum_all ns = sum_by (λ n. n) ns

abbrev pub of_optional : Option ℕ → ℕ
of_optional None = 0
of_optional (Some n) = n

abbrev pub of_access : Access ℕ → ℕ
of_access (access.Property site name) = 0
of_access (access.Index site is_static key) = key

abbrev pub of_suffix : Suffix ℕ → ℕ
of_suffix (suffix.Access a) = of_access a
of_suffix (suffix.Call site arguments) = sum_all arguments

abbrev pub of_target : Target ℕ → ℕ
of_target (target.Name n) = 0
of_target (target.Access base a) = base + of_access a

abbrev pub of_member : Member ℕ → ℕ
of_member (member.Value site key value) = value
of_member (member.Shorthand n) = 0

abbrev pub of_links : {O : Type 0} → List (Link O ℕ) → ℕ
of_links ls = sum_by (λ l. l.right) ls

abbrev pub of_declarators : List (Declarator ℕ) → ℕ
of_declarators ds = sum_by (λ d. of_optional d.value) ds

abbrev pub of_head : LoopHead ℕ → ℕ
of_head head.Nothing = 0
of_head (head.Value e) = e
of_head (head.Declare kind ds) = of_declarators ds

abbrev pub of_catch : Option (Catch (List ℕ)) → ℕ
of_catch None = 0
of_catch (Some h) = sum_all h.body

abbrev pub of_last : Option (List ℕ) → ℕ
of_last None = 0
of_last (Some ss) = sum_all ss

-- ---- trees

abbrev pub below_expr : Expr-F ℕ ℕ ℕ → ℕ
below_expr (Expr-F.Name n) = 0
below_expr (Expr-F.Number site value) = 0
below_expr (Expr-F.Text site value) = 0
below_expr (Expr-F.Null site) = 0
below_expr (Expr-F.True site) = 0
below_expr (Expr-F.False site) = 0
below_expr (Expr-F.This site) = 0
below_expr (Expr-F.Array site items) = sum_all items
below_expr (Expr-F.Object site members) = sum_by of_member members
below_expr (Expr-F.FunctionExpression site name parameters ss) = sum_all ss
below_expr (Expr-F.Arrow site parameters value) = value
below_expr (Expr-F.ArrowBlock site parameters ss) = sum_all ss
below_expr (Expr-F.New site name arguments) = sum_all arguments
below_expr (Expr-F.Call first suffixes) = first + sum_by of_suffix suffixes
below_expr (Expr-F.Unary site op operand) = operand
below_expr (Expr-F.Step start site op is_prefix x) = of_target x
below_expr (Expr-F.Binary first links) = first + of_links links
below_expr (Expr-F.Logical first links) = first + of_links links
below_expr (Expr-F.Conditional start site test a b) = test + (a + b)
below_expr (Expr-F.Assign start site op x value) = of_target x + value

abbrev pub below_stmt : Stmt-F ℕ ℕ ℕ → ℕ
below_stmt (Stmt-F.Block site ss) = sum_all ss
below_stmt (Stmt-F.Nothing site) = 0
below_stmt (Stmt-F.Declare site kind ds) = of_declarators ds
below_stmt (Stmt-F.Function site name parameters ss) = sum_all ss
below_stmt (Stmt-F.Express site e) = e
below_stmt (Stmt-F.If arms other) = sum_all arms + of_optional other
below_stmt (Stmt-F.While site test s) = test + s
below_stmt (Stmt-F.Do site s test_site test) = s + test
below_stmt (Stmt-F.For site h test update s) = of_head h + (of_optional test + (of_optional update + s))
below_stmt (Stmt-F.ForOf site kind name items s) = items + s
below_stmt (Stmt-F.Break site) = 0
below_stmt (Stmt-F.Continue site) = 0
below_stmt (Stmt-F.Return site value) = of_optional value
below_stmt (Stmt-F.Throw site value) = value
below_stmt (Stmt-F.Try site ss h last) = sum_all ss + (of_catch h + of_last last)

abbrev pub of_expr : Expr-F ℕ ℕ ℕ → ℕ
of_expr f = 1 + below_expr f

abbrev pub of_stmt : Stmt-F ℕ ℕ ℕ → ℕ
of_stmt f = 1 + below_stmt f

abbrev pub of_arm : Arm-F ℕ ℕ ℕ → ℕ
of_arm arm = arm.test + arm.consequent

unfoldable pub expr_weight : Expr → ℕ
expr_weight = fold-Expr ℕ ℕ ℕ of_expr of_stmt of_arm

unfoldable pub stmt_weight : Stmt → ℕ
stmt_weight = fold-Stmt ℕ ℕ ℕ of_expr of_stmt of_arm

unfoldable pub arm_weight : Arm → ℕ
arm_weight = fold-Arm ℕ ℕ ℕ of_expr of_stmt of_arm

-- without the tree itself
unfoldable pub expr_below : Expr → ℕ
expr_below e = expr_weight e - 1

unfoldable pub stmt_below : Stmt → ℕ
stmt_below s = stmt_weight s - 1

-- ---- parts of trees

abbrev pub exprs_weight : List Expr → ℕ
exprs_weight es = sum_by expr_weight es

abbrev pub optional_weight : Option Expr → ℕ
optional_weight None = 0
optional_weight (Some e) = expr_weight e

abbrev pub access_weight : Access Expr → ℕ
access_weight (access.Property site name) = 0
access_weight (access.Index site is_static key) = expr_weight key

abbrev pub suffix_weight : Suffix Expr → ℕ
suffix_weight (suffix.Access a) = access_weight a
suffix_weight (suffix.Call site arguments) = exprs_weight arguments

abbrev pub target_weight : Target Expr → ℕ
target_weight (target.Name n) = 0
target_weight (target.Access base a) = expr_weight base + access_weight a

abbrev pub member_weight : Member Expr → ℕ
member_weight (member.Value site key value) = expr_weight value
member_weight (member.Shorthand n) = 0

abbrev pub links_weight : {O : Type 0} → List (Link O Expr) → ℕ
links_weight ls = sum_by (λ l. expr_weight l.right) ls

abbrev pub declarators_weight : List (Declarator Expr) → ℕ
declarators_weight ds = sum_by (λ d. optional_weight d.value) ds

abbrev pub stmts_weight : List Stmt → ℕ
stmts_weight ss = sum_by stmt_weight ss

abbrev pub arms_weight : List Arm → ℕ
arms_weight arms = sum_by arm_weight arms

abbrev pub alternate_weight : Option Stmt → ℕ
alternate_weight None = 0
alternate_weight (Some s) = stmt_weight s

abbrev pub head_weight : LoopHead Expr → ℕ
head_weight head.Nothing = 0
head_weight (head.Value e) = expr_weight e
head_weight (head.Declare kind ds) = declarators_weight ds

abbrev pub catch_weight : Option (Catch (List Stmt)) → ℕ
catch_weight None = 0
catch_weight (Some h) = stmts_weight h.body

abbrev pub last_weight : Option (List Stmt) → ℕ
last_weight None = 0
last_weight (Some ss) = stmts_weight ss
