-- One level of the weight of a tree.
use Rattle.std.proofs.Common.{◌≡◌, ℕ, Bool, List, [], ◌∷◌, ◌+◌, Option, Some, None, map, ◌-◌, refl, ap, sym, ◌∙◌, arith}
use Rattle.std.specs.List.{sum_by}
use Rattle.std.proofs.lemmas.List.Sums.{sum_by-cons}
use Rattle.js_ast.specs.declared.expression.Expr.{Expr, fold-Expr, fold-roll-Expr, roll-Expr, out-Expr, roll-out-Expr, map-Expr}
use Rattle.js_ast.specs.declared.expression.Expr.TheOpen.{Expr-F, Stmt-F}
use Rattle.js_ast.specs.declared.expression.Expr.TheVariants as e
use Rattle.js_ast.specs.declared.statement.Stmt.{Stmt, fold-Stmt, fold-roll-Stmt, roll-Stmt, out-Stmt, roll-out-Stmt, map-Stmt}
use Rattle.js_ast.specs.declared.statement.Stmt.TheVariants as s
use Rattle.js_ast.specs.declared.statement.Arm.{Arm, fold-Arm, out-Arm, fold_out-Arm}
use Rattle.js_ast.specs.declared.operators.BinaryOp.{BinaryOp}
use Rattle.js_ast.specs.declared.operators.LogicalOp.{LogicalOp}
use Rattle.js_ast.specs.declared.operators.UnaryOp.{UnaryOp}
use Rattle.js_ast.specs.declared.operators.StepOp.{StepOp}
use Rattle.js_ast.specs.declared.operators.DeclarationKind.{DeclarationKind}
use Rattle.js_ast.specs.declared.parts.Identifier.{Identifier}
use Rattle.js_ast.specs.declared.parts.Key.{Key}
use Rattle.js_ast.specs.declared.parts.Access.{Access}
use Rattle.js_ast.specs.declared.parts.Access.TheVariants as access
use Rattle.js_ast.specs.declared.parts.Suffix.{Suffix}
use Rattle.js_ast.specs.declared.parts.Suffix.TheVariants as suffix
use Rattle.js_ast.specs.declared.parts.Target.{Target}
use Rattle.js_ast.specs.declared.parts.Target.TheVariants as target
use Rattle.js_ast.specs.declared.parts.Member.{Member}
use Rattle.js_ast.specs.declared.parts.Member.TheVariants as member
use Rattle.js_ast.specs.declared.parts.Link.{Link}
use Rattle.js_ast.specs.declared.parts.Declarator.{Declarator}
use Rattle.js_ast.specs.declared.parts.LoopHead.{LoopHead}
use Rattle.js_ast.specs.declared.parts.LoopHead.TheVariants as head
use Rattle.js_ast.specs.declared.parts.Catch.{Catch}
use Rattle.js_early.specs.Weight.{of_expr, of_stmt, of_arm, of_member, of_suffix, sum_all, of_optional, expr_weight, stmt_weight, arm_weight, expr_below, stmt_below, exprs_weight, optional_weight, suffix_weight, target_weight, member_weight, links_weight, declarators_weight, stmts_weight, arms_weight, alternate_weight, head_weight, catch_weight, last_weight}
use Rattle.js_early.proofs.Opens.{option_cases, member_cases, access_cases, suffix_cases, declarator_cases}

expr_folds : (f : Expr-F Expr Stmt Arm) → fold-Expr ℕ ℕ ℕ of_expr of_stmt of_arm (roll-Expr f) ≡ of_expr (map-Expr Expr Stmt Arm ℕ ℕ ℕ (fold-Expr ℕ ℕ ℕ of_expr of_stmt of_arm) (fold-Stmt ℕ ℕ ℕ of_expr of_stmt of_arm) (fold-Arm ℕ ℕ ℕ of_expr of_stmt of_arm) f)
expr_folds = fold-roll-Expr ℕ ℕ ℕ of_expr of_stmt of_arm

stmt_folds : (f : Stmt-F Expr Stmt Arm) → fold-Stmt ℕ ℕ ℕ of_expr of_stmt of_arm (roll-Stmt f) ≡ of_stmt (map-Stmt Expr Stmt Arm ℕ ℕ ℕ (fold-Expr ℕ ℕ ℕ of_expr of_stmt of_arm) (fold-Stmt ℕ ℕ ℕ of_expr of_stmt of_arm) (fold-Arm ℕ ℕ ℕ of_expr of_stmt of_arm) f)
stmt_folds = fold-roll-Stmt ℕ ℕ ℕ of_expr of_stmt of_arm

-- ---- sums

plus : {a b c d : ℕ} → a ≡ b → c ≡ d → a + c ≡ b + d
plus {b} {c} p q = ap (λ (n : ℕ). n + c) p ∙ ap (λ (n : ℕ). b + n) q

one_more : {a b : ℕ} → a ≡ b → 1 + a ≡ 1 + b
one_more p = ap (λ (n : ℕ). 1 + n) p

sum_through : {A B : Type 0} (h : B → ℕ) (v : A → B) (k : A → ℕ) → ((x : A) → h (v x) ≡ k x) → (xs : List A) → sum_by h (map v xs) ≡ sum_by k xs
sum_through h v k same [] = refl
sum_through h v k same (x ∷ xs) = sum_by-cons h (v x) (map v xs) ∙ plus (same x) (sum_through h v k same xs) ∙ sym (sum_by-cons k x xs)

sum_of : {A : Type 0} (k : A → ℕ) (xs : List A) → sum_all (map k xs) ≡ sum_by k xs
sum_of k xs = sum_through (λ (n : ℕ). n) k k (λ x. refl) xs

less_one : (n : ℕ) → 1 + n - 1 ≡ n
less_one n = omega arith

pub weight_both : (n a b : ℕ) → n + (a + b) ≡ n + a + b
weight_both n a b = omega arith

-- ---- trees

pub expr_weighs_Name : (n : Identifier) → expr_weight (e.Name n) ≡ 1
unfolding expr_weight stmt_weight arm_weight
expr_weighs_Name n = ap expr_weight (sym (e.rolls-Name n)) ∙ expr_folds (Expr-F.Name n)

pub expr_weighs_Number : (site : ℕ) (v : ℕ) → expr_weight (e.Number site v) ≡ 1
unfolding expr_weight stmt_weight arm_weight
expr_weighs_Number site v = ap expr_weight (sym (e.rolls-Number site v)) ∙ expr_folds (Expr-F.Number site v)

pub expr_weighs_Text : (site : ℕ) (v : List ℕ) → expr_weight (e.Text site v) ≡ 1
unfolding expr_weight stmt_weight arm_weight
expr_weighs_Text site v = ap expr_weight (sym (e.rolls-Text site v)) ∙ expr_folds (Expr-F.Text site v)

pub expr_weighs_Null : (site : ℕ) → expr_weight (e.Null site) ≡ 1
unfolding expr_weight stmt_weight arm_weight
expr_weighs_Null site = ap expr_weight (sym (e.rolls-Null site)) ∙ expr_folds (Expr-F.Null site)

pub expr_weighs_True : (site : ℕ) → expr_weight (e.True site) ≡ 1
unfolding expr_weight stmt_weight arm_weight
expr_weighs_True site = ap expr_weight (sym (e.rolls-True site)) ∙ expr_folds (Expr-F.True site)

pub expr_weighs_False : (site : ℕ) → expr_weight (e.False site) ≡ 1
unfolding expr_weight stmt_weight arm_weight
expr_weighs_False site = ap expr_weight (sym (e.rolls-False site)) ∙ expr_folds (Expr-F.False site)

pub expr_weighs_This : (site : ℕ) → expr_weight (e.This site) ≡ 1
unfolding expr_weight stmt_weight arm_weight
expr_weighs_This site = ap expr_weight (sym (e.rolls-This site)) ∙ expr_folds (Expr-F.This site)

pub expr_weighs_Array : (site : ℕ) (items : List Expr) → expr_weight (e.Array site items) ≡ 1 + exprs_weight items
unfolding expr_weight stmt_weight arm_weight
expr_weighs_Array site items = ap expr_weight (sym (e.rolls-Array site items)) ∙ expr_folds (Expr-F.Array site items) ∙ one_more (sum_of expr_weight items)

pub expr_weighs_FunctionExpression : (site : ℕ) (name : Option Identifier) (parameters : List Identifier) (ss : List Stmt) → expr_weight (e.FunctionExpression site name parameters ss) ≡ 1 + stmts_weight ss
unfolding expr_weight stmt_weight arm_weight
expr_weighs_FunctionExpression site name parameters ss = ap expr_weight (sym (e.rolls-FunctionExpression site name parameters ss)) ∙ expr_folds (Expr-F.FunctionExpression site name parameters ss) ∙ one_more (sum_of stmt_weight ss)

pub expr_weighs_Arrow : (site : ℕ) (parameters : List Identifier) (value : Expr) → expr_weight (e.Arrow site parameters value) ≡ 1 + expr_weight value
unfolding expr_weight stmt_weight arm_weight
expr_weighs_Arrow site parameters value = ap expr_weight (sym (e.rolls-Arrow site parameters value)) ∙ expr_folds (Expr-F.Arrow site parameters value)

pub expr_weighs_ArrowBlock : (site : ℕ) (parameters : List Identifier) (ss : List Stmt) → expr_weight (e.ArrowBlock site parameters ss) ≡ 1 + stmts_weight ss
unfolding expr_weight stmt_weight arm_weight
expr_weighs_ArrowBlock site parameters ss = ap expr_weight (sym (e.rolls-ArrowBlock site parameters ss)) ∙ expr_folds (Expr-F.ArrowBlock site parameters ss) ∙ one_more (sum_of stmt_weight ss)

pub expr_weighs_New : (site : ℕ) (name : Identifier) (arguments : List Expr) → expr_weight (e.New site name arguments) ≡ 1 + exprs_weight arguments
unfolding expr_weight stmt_weight arm_weight
expr_weighs_New site name arguments = ap expr_weight (sym (e.rolls-New site name arguments)) ∙ expr_folds (Expr-F.New site name arguments) ∙ one_more (sum_of expr_weight arguments)

pub expr_weighs_Unary : (site : ℕ) (op : UnaryOp) (operand : Expr) → expr_weight (e.Unary site op operand) ≡ 1 + expr_weight operand
unfolding expr_weight stmt_weight arm_weight
expr_weighs_Unary site op operand = ap expr_weight (sym (e.rolls-Unary site op operand)) ∙ expr_folds (Expr-F.Unary site op operand)

pub expr_weighs_Conditional : (start : ℕ) (site : ℕ) (test : Expr) (a : Expr) (b : Expr) → expr_weight (e.Conditional start site test a b) ≡ 1 + (expr_weight test + (expr_weight a + expr_weight b))
unfolding expr_weight stmt_weight arm_weight
expr_weighs_Conditional start site test a b = ap expr_weight (sym (e.rolls-Conditional start site test a b)) ∙ expr_folds (Expr-F.Conditional start site test a b)

pub stmt_weighs_Block : (site : ℕ) (ss : List Stmt) → stmt_weight (s.Block site ss) ≡ 1 + stmts_weight ss
unfolding expr_weight stmt_weight arm_weight
stmt_weighs_Block site ss = ap stmt_weight (sym (s.rolls-Block site ss)) ∙ stmt_folds (Stmt-F.Block site ss) ∙ one_more (sum_of stmt_weight ss)

pub stmt_weighs_Nothing : (site : ℕ) → stmt_weight (s.Nothing site) ≡ 1
unfolding expr_weight stmt_weight arm_weight
stmt_weighs_Nothing site = ap stmt_weight (sym (s.rolls-Nothing site)) ∙ stmt_folds (Stmt-F.Nothing site)

pub stmt_weighs_Express : (site : ℕ) (x : Expr) → stmt_weight (s.Express site x) ≡ 1 + expr_weight x
unfolding expr_weight stmt_weight arm_weight
stmt_weighs_Express site x = ap stmt_weight (sym (s.rolls-Express site x)) ∙ stmt_folds (Stmt-F.Express site x)

pub stmt_weighs_While : (site : ℕ) (test : Expr) (x : Stmt) → stmt_weight (s.While site test x) ≡ 1 + (expr_weight test + stmt_weight x)
unfolding expr_weight stmt_weight arm_weight
stmt_weighs_While site test x = ap stmt_weight (sym (s.rolls-While site test x)) ∙ stmt_folds (Stmt-F.While site test x)

pub stmt_weighs_Do : (site : ℕ) (x : Stmt) (test_site : ℕ) (test : Expr) → stmt_weight (s.Do site x test_site test) ≡ 1 + (stmt_weight x + expr_weight test)
unfolding expr_weight stmt_weight arm_weight
stmt_weighs_Do site x test_site test = ap stmt_weight (sym (s.rolls-Do site x test_site test)) ∙ stmt_folds (Stmt-F.Do site x test_site test)

pub stmt_weighs_ForOf : (site : ℕ) (kind : DeclarationKind) (name : Identifier) (items : Expr) (x : Stmt) → stmt_weight (s.ForOf site kind name items x) ≡ 1 + (expr_weight items + stmt_weight x)
unfolding expr_weight stmt_weight arm_weight
stmt_weighs_ForOf site kind name items x = ap stmt_weight (sym (s.rolls-ForOf site kind name items x)) ∙ stmt_folds (Stmt-F.ForOf site kind name items x)

pub stmt_weighs_Break : (site : ℕ) → stmt_weight (s.Break site) ≡ 1
unfolding expr_weight stmt_weight arm_weight
stmt_weighs_Break site = ap stmt_weight (sym (s.rolls-Break site)) ∙ stmt_folds (Stmt-F.Break site)

pub stmt_weighs_Continue : (site : ℕ) → stmt_weight (s.Continue site) ≡ 1
unfolding expr_weight stmt_weight arm_weight
stmt_weighs_Continue site = ap stmt_weight (sym (s.rolls-Continue site)) ∙ stmt_folds (Stmt-F.Continue site)

pub stmt_weighs_Throw : (site : ℕ) (value : Expr) → stmt_weight (s.Throw site value) ≡ 1 + expr_weight value
unfolding expr_weight stmt_weight arm_weight
stmt_weighs_Throw site value = ap stmt_weight (sym (s.rolls-Throw site value)) ∙ stmt_folds (Stmt-F.Throw site value)

pub expr_weighs_Object : (site : ℕ) (members : List (Member Expr)) → expr_weight (e.Object site members) ≡ 1 + sum_by member_weight members
unfolding expr_weight stmt_weight arm_weight
expr_weighs_Object site members = ap expr_weight (sym (e.rolls-Object site members)) ∙ expr_folds (Expr-F.Object site members) ∙ one_more (sum_through of_member _ member_weight (member_cases _ (λ at key value. refl) (λ n. refl)) members)

pub expr_weighs_Call : (first : Expr) (suffixes : List (Suffix Expr)) → expr_weight (e.Call first suffixes) ≡ 1 + (expr_weight first + sum_by suffix_weight suffixes)
unfolding expr_weight stmt_weight arm_weight
expr_weighs_Call first suffixes = ap expr_weight (sym (e.rolls-Call first suffixes)) ∙ expr_folds (Expr-F.Call first suffixes) ∙ one_more (plus refl (sum_through of_suffix _ suffix_weight (suffix_cases _ (access_cases _ (λ at name. refl) (λ at is_static key. refl)) (λ at arguments. sum_of expr_weight arguments)) suffixes))

pub expr_weighs_Step : (start : ℕ) (site : ℕ) (op : StepOp) (is_prefix : Bool) (x : Target Expr) → expr_weight (e.Step start site op is_prefix x) ≡ 1 + target_weight x
unfolding expr_weight stmt_weight arm_weight
expr_weighs_Step start site op is_prefix (target.Name n) = ap expr_weight (sym (e.rolls-Step start site op is_prefix (target.Name n))) ∙ expr_folds (Expr-F.Step start site op is_prefix (target.Name n))
expr_weighs_Step start site op is_prefix (target.Access base (access.Property at name)) = ap expr_weight (sym (e.rolls-Step start site op is_prefix (target.Access base (access.Property at name)))) ∙ expr_folds (Expr-F.Step start site op is_prefix (target.Access base (access.Property at name)))
expr_weighs_Step start site op is_prefix (target.Access base (access.Index at is_static key)) = ap expr_weight (sym (e.rolls-Step start site op is_prefix (target.Access base (access.Index at is_static key)))) ∙ expr_folds (Expr-F.Step start site op is_prefix (target.Access base (access.Index at is_static key)))

pub expr_weighs_Binary : (first : Expr) (links : List (Link BinaryOp Expr)) → expr_weight (e.Binary first links) ≡ 1 + (expr_weight first + links_weight links)
unfolding expr_weight stmt_weight arm_weight
expr_weighs_Binary first links = ap expr_weight (sym (e.rolls-Binary first links)) ∙ expr_folds (Expr-F.Binary first links) ∙ one_more (plus refl (sum_through _ _ _ (λ l. refl) links))

pub expr_weighs_Logical : (first : Expr) (links : List (Link LogicalOp Expr)) → expr_weight (e.Logical first links) ≡ 1 + (expr_weight first + links_weight links)
unfolding expr_weight stmt_weight arm_weight
expr_weighs_Logical first links = ap expr_weight (sym (e.rolls-Logical first links)) ∙ expr_folds (Expr-F.Logical first links) ∙ one_more (plus refl (sum_through _ _ _ (λ l. refl) links))

pub expr_weighs_Assign : (start : ℕ) (site : ℕ) (op : Option BinaryOp) (x : Target Expr) (value : Expr) → expr_weight (e.Assign start site op x value) ≡ 1 + (target_weight x + expr_weight value)
unfolding expr_weight stmt_weight arm_weight
expr_weighs_Assign start site op (target.Name n) value = ap expr_weight (sym (e.rolls-Assign start site op (target.Name n) value)) ∙ expr_folds (Expr-F.Assign start site op (target.Name n) value)
expr_weighs_Assign start site op (target.Access base (access.Property at name)) value = ap expr_weight (sym (e.rolls-Assign start site op (target.Access base (access.Property at name)) value)) ∙ expr_folds (Expr-F.Assign start site op (target.Access base (access.Property at name)) value)
expr_weighs_Assign start site op (target.Access base (access.Index at is_static key)) value = ap expr_weight (sym (e.rolls-Assign start site op (target.Access base (access.Index at is_static key)) value)) ∙ expr_folds (Expr-F.Assign start site op (target.Access base (access.Index at is_static key)) value)

pub stmt_weighs_Declare : (site : ℕ) (kind : DeclarationKind) (ds : List (Declarator Expr)) → stmt_weight (s.Declare site kind ds) ≡ 1 + declarators_weight ds
unfolding expr_weight stmt_weight arm_weight
stmt_weighs_Declare site kind ds = ap stmt_weight (sym (s.rolls-Declare site kind ds)) ∙ stmt_folds (Stmt-F.Declare site kind ds) ∙ one_more (sum_through _ _ _ (declarator_cases _ (λ n. refl) (λ n e. refl)) ds)

pub stmt_weighs_Function : (site : ℕ) (name : Identifier) (parameters : List Identifier) (ss : List Stmt) → stmt_weight (s.Function site name parameters ss) ≡ 1 + stmts_weight ss
unfolding expr_weight stmt_weight arm_weight
stmt_weighs_Function site name parameters ss = ap stmt_weight (sym (s.rolls-Function site name parameters ss)) ∙ stmt_folds (Stmt-F.Function site name parameters ss) ∙ one_more (sum_of stmt_weight ss)

pub stmt_weighs_If : (arms : List Arm) (other : Option Stmt) → stmt_weight (s.If arms other) ≡ 1 + (arms_weight arms + alternate_weight other)
unfolding expr_weight stmt_weight arm_weight
stmt_weighs_If arms None = ap stmt_weight (sym (s.rolls-If arms None)) ∙ stmt_folds (Stmt-F.If arms None) ∙ one_more (plus (sum_of arm_weight arms) refl)
stmt_weighs_If arms (Some x) = ap stmt_weight (sym (s.rolls-If arms (Some x))) ∙ stmt_folds (Stmt-F.If arms (Some x)) ∙ one_more (plus (sum_of arm_weight arms) refl)

pub stmt_weighs_For : (site : ℕ) (h : LoopHead Expr) (test : Option Expr) (update : Option Expr) (x : Stmt) → stmt_weight (s.For site h test update x) ≡ 1 + (head_weight h + (optional_weight test + (optional_weight update + stmt_weight x)))
unfolding expr_weight stmt_weight arm_weight
stmt_weighs_For site head.Nothing None None x = ap stmt_weight (sym (s.rolls-For site head.Nothing None None x)) ∙ stmt_folds (Stmt-F.For site head.Nothing None None x)
stmt_weighs_For site head.Nothing None (Some u) x = ap stmt_weight (sym (s.rolls-For site head.Nothing None (Some u) x)) ∙ stmt_folds (Stmt-F.For site head.Nothing None (Some u) x)
stmt_weighs_For site head.Nothing (Some t) None x = ap stmt_weight (sym (s.rolls-For site head.Nothing (Some t) None x)) ∙ stmt_folds (Stmt-F.For site head.Nothing (Some t) None x)
stmt_weighs_For site head.Nothing (Some t) (Some u) x = ap stmt_weight (sym (s.rolls-For site head.Nothing (Some t) (Some u) x)) ∙ stmt_folds (Stmt-F.For site head.Nothing (Some t) (Some u) x)
stmt_weighs_For site (head.Value e) None None x = ap stmt_weight (sym (s.rolls-For site (head.Value e) None None x)) ∙ stmt_folds (Stmt-F.For site (head.Value e) None None x)
stmt_weighs_For site (head.Value e) None (Some u) x = ap stmt_weight (sym (s.rolls-For site (head.Value e) None (Some u) x)) ∙ stmt_folds (Stmt-F.For site (head.Value e) None (Some u) x)
stmt_weighs_For site (head.Value e) (Some t) None x = ap stmt_weight (sym (s.rolls-For site (head.Value e) (Some t) None x)) ∙ stmt_folds (Stmt-F.For site (head.Value e) (Some t) None x)
stmt_weighs_For site (head.Value e) (Some t) (Some u) x = ap stmt_weight (sym (s.rolls-For site (head.Value e) (Some t) (Some u) x)) ∙ stmt_folds (Stmt-F.For site (head.Value e) (Some t) (Some u) x)
stmt_weighs_For site (head.Declare kind ds) None None x = ap stmt_weight (sym (s.rolls-For site (head.Declare kind ds) None None x)) ∙ stmt_folds (Stmt-F.For site (head.Declare kind ds) None None x) ∙ one_more (plus (sum_through _ _ _ (declarator_cases _ (λ n. refl) (λ n e. refl)) ds) refl)
stmt_weighs_For site (head.Declare kind ds) None (Some u) x = ap stmt_weight (sym (s.rolls-For site (head.Declare kind ds) None (Some u) x)) ∙ stmt_folds (Stmt-F.For site (head.Declare kind ds) None (Some u) x) ∙ one_more (plus (sum_through _ _ _ (declarator_cases _ (λ n. refl) (λ n e. refl)) ds) refl)
stmt_weighs_For site (head.Declare kind ds) (Some t) None x = ap stmt_weight (sym (s.rolls-For site (head.Declare kind ds) (Some t) None x)) ∙ stmt_folds (Stmt-F.For site (head.Declare kind ds) (Some t) None x) ∙ one_more (plus (sum_through _ _ _ (declarator_cases _ (λ n. refl) (λ n e. refl)) ds) refl)
stmt_weighs_For site (head.Declare kind ds) (Some t) (Some u) x = ap stmt_weight (sym (s.rolls-For site (head.Declare kind ds) (Some t) (Some u) x)) ∙ stmt_folds (Stmt-F.For site (head.Declare kind ds) (Some t) (Some u) x) ∙ one_more (plus (sum_through _ _ _ (declarator_cases _ (λ n. refl) (λ n e. refl)) ds) refl)

pub stmt_weighs_Return : (site : ℕ) (value : Option Expr) → stmt_weight (s.Return site value) ≡ 1 + optional_weight value
unfolding expr_weight stmt_weight arm_weight
stmt_weighs_Return site None = ap stmt_weight (sym (s.rolls-Return site None)) ∙ stmt_folds (Stmt-F.Return site None)
stmt_weighs_Return site (Some e) = ap stmt_weight (sym (s.rolls-Return site (Some e))) ∙ stmt_folds (Stmt-F.Return site (Some e))

pub stmt_weighs_Try : (site : ℕ) (ss : List Stmt) (h : Option (Catch (List Stmt))) (last : Option (List Stmt)) → stmt_weight (s.Try site ss h last) ≡ 1 + (stmts_weight ss + (catch_weight h + last_weight last))
unfolding expr_weight stmt_weight arm_weight
stmt_weighs_Try site ss None None = ap stmt_weight (sym (s.rolls-Try site ss None None)) ∙ stmt_folds (Stmt-F.Try site ss None None) ∙ one_more (plus (sum_of stmt_weight ss) refl)
stmt_weighs_Try site ss None (Some ls) = ap stmt_weight (sym (s.rolls-Try site ss None (Some ls))) ∙ stmt_folds (Stmt-F.Try site ss None (Some ls)) ∙ one_more (plus (sum_of stmt_weight ss) (plus refl (sum_of stmt_weight ls)))
stmt_weighs_Try site ss (Some k) None = ap stmt_weight (sym (s.rolls-Try site ss (Some k) None)) ∙ stmt_folds (Stmt-F.Try site ss (Some k) None) ∙ one_more (plus (sum_of stmt_weight ss) (plus (sum_of stmt_weight k.body) refl))
stmt_weighs_Try site ss (Some k) (Some ls) = ap stmt_weight (sym (s.rolls-Try site ss (Some k) (Some ls))) ∙ stmt_folds (Stmt-F.Try site ss (Some k) (Some ls)) ∙ one_more (plus (sum_of stmt_weight ss) (plus (sum_of stmt_weight k.body) (sum_of stmt_weight ls)))

pub arm_weighs : (a : Arm) → arm_weight a ≡ expr_weight (out-Arm a).test + stmt_weight (out-Arm a).consequent
unfolding expr_weight stmt_weight arm_weight
arm_weighs a = fold_out-Arm ℕ ℕ ℕ of_expr of_stmt of_arm a

-- ---- what is below them

pub expr_below_Name : (n : Identifier) → expr_below (e.Name n) ≡ 0
unfolding expr_below
expr_below_Name n = ap (λ (n : ℕ). n - 1) (expr_weighs_Name n) ∙ less_one _

pub expr_below_Number : (site : ℕ) (v : ℕ) → expr_below (e.Number site v) ≡ 0
unfolding expr_below
expr_below_Number site v = ap (λ (n : ℕ). n - 1) (expr_weighs_Number site v) ∙ less_one _

pub expr_below_Text : (site : ℕ) (v : List ℕ) → expr_below (e.Text site v) ≡ 0
unfolding expr_below
expr_below_Text site v = ap (λ (n : ℕ). n - 1) (expr_weighs_Text site v) ∙ less_one _

pub expr_below_Null : (site : ℕ) → expr_below (e.Null site) ≡ 0
unfolding expr_below
expr_below_Null site = ap (λ (n : ℕ). n - 1) (expr_weighs_Null site) ∙ less_one _

pub expr_below_True : (site : ℕ) → expr_below (e.True site) ≡ 0
unfolding expr_below
expr_below_True site = ap (λ (n : ℕ). n - 1) (expr_weighs_True site) ∙ less_one _

pub expr_below_False : (site : ℕ) → expr_below (e.False site) ≡ 0
unfolding expr_below
expr_below_False site = ap (λ (n : ℕ). n - 1) (expr_weighs_False site) ∙ less_one _

pub expr_below_This : (site : ℕ) → expr_below (e.This site) ≡ 0
unfolding expr_below
expr_below_This site = ap (λ (n : ℕ). n - 1) (expr_weighs_This site) ∙ less_one _

pub expr_below_Array : (site : ℕ) (items : List Expr) → expr_below (e.Array site items) ≡ exprs_weight items
unfolding expr_below
expr_below_Array site items = ap (λ (n : ℕ). n - 1) (expr_weighs_Array site items) ∙ less_one _

pub expr_below_FunctionExpression : (site : ℕ) (name : Option Identifier) (parameters : List Identifier) (ss : List Stmt) → expr_below (e.FunctionExpression site name parameters ss) ≡ stmts_weight ss
unfolding expr_below
expr_below_FunctionExpression site name parameters ss = ap (λ (n : ℕ). n - 1) (expr_weighs_FunctionExpression site name parameters ss) ∙ less_one _

pub expr_below_Arrow : (site : ℕ) (parameters : List Identifier) (value : Expr) → expr_below (e.Arrow site parameters value) ≡ expr_weight value
unfolding expr_below
expr_below_Arrow site parameters value = ap (λ (n : ℕ). n - 1) (expr_weighs_Arrow site parameters value) ∙ less_one _

pub expr_below_ArrowBlock : (site : ℕ) (parameters : List Identifier) (ss : List Stmt) → expr_below (e.ArrowBlock site parameters ss) ≡ stmts_weight ss
unfolding expr_below
expr_below_ArrowBlock site parameters ss = ap (λ (n : ℕ). n - 1) (expr_weighs_ArrowBlock site parameters ss) ∙ less_one _

pub expr_below_New : (site : ℕ) (name : Identifier) (arguments : List Expr) → expr_below (e.New site name arguments) ≡ exprs_weight arguments
unfolding expr_below
expr_below_New site name arguments = ap (λ (n : ℕ). n - 1) (expr_weighs_New site name arguments) ∙ less_one _

pub expr_below_Unary : (site : ℕ) (op : UnaryOp) (operand : Expr) → expr_below (e.Unary site op operand) ≡ expr_weight operand
unfolding expr_below
expr_below_Unary site op operand = ap (λ (n : ℕ). n - 1) (expr_weighs_Unary site op operand) ∙ less_one _

pub expr_below_Conditional : (start : ℕ) (site : ℕ) (test : Expr) (a : Expr) (b : Expr) → expr_below (e.Conditional start site test a b) ≡ (expr_weight test + (expr_weight a + expr_weight b))
unfolding expr_below
expr_below_Conditional start site test a b = ap (λ (n : ℕ). n - 1) (expr_weighs_Conditional start site test a b) ∙ less_one _

pub stmt_below_Block : (site : ℕ) (ss : List Stmt) → stmt_below (s.Block site ss) ≡ stmts_weight ss
unfolding stmt_below
stmt_below_Block site ss = ap (λ (n : ℕ). n - 1) (stmt_weighs_Block site ss) ∙ less_one _

pub stmt_below_Nothing : (site : ℕ) → stmt_below (s.Nothing site) ≡ 0
unfolding stmt_below
stmt_below_Nothing site = ap (λ (n : ℕ). n - 1) (stmt_weighs_Nothing site) ∙ less_one _

pub stmt_below_Express : (site : ℕ) (x : Expr) → stmt_below (s.Express site x) ≡ expr_weight x
unfolding stmt_below
stmt_below_Express site x = ap (λ (n : ℕ). n - 1) (stmt_weighs_Express site x) ∙ less_one _

pub stmt_below_While : (site : ℕ) (test : Expr) (x : Stmt) → stmt_below (s.While site test x) ≡ (expr_weight test + stmt_weight x)
unfolding stmt_below
stmt_below_While site test x = ap (λ (n : ℕ). n - 1) (stmt_weighs_While site test x) ∙ less_one _

pub stmt_below_Do : (site : ℕ) (x : Stmt) (test_site : ℕ) (test : Expr) → stmt_below (s.Do site x test_site test) ≡ (stmt_weight x + expr_weight test)
unfolding stmt_below
stmt_below_Do site x test_site test = ap (λ (n : ℕ). n - 1) (stmt_weighs_Do site x test_site test) ∙ less_one _

pub stmt_below_ForOf : (site : ℕ) (kind : DeclarationKind) (name : Identifier) (items : Expr) (x : Stmt) → stmt_below (s.ForOf site kind name items x) ≡ (expr_weight items + stmt_weight x)
unfolding stmt_below
stmt_below_ForOf site kind name items x = ap (λ (n : ℕ). n - 1) (stmt_weighs_ForOf site kind name items x) ∙ less_one _

pub stmt_below_Break : (site : ℕ) → stmt_below (s.Break site) ≡ 0
unfolding stmt_below
stmt_below_Break site = ap (λ (n : ℕ). n - 1) (stmt_weighs_Break site) ∙ less_one _

pub stmt_below_Continue : (site : ℕ) → stmt_below (s.Continue site) ≡ 0
unfolding stmt_below
stmt_below_Continue site = ap (λ (n : ℕ). n - 1) (stmt_weighs_Continue site) ∙ less_one _

pub stmt_below_Throw : (site : ℕ) (value : Expr) → stmt_below (s.Throw site value) ≡ expr_weight value
unfolding stmt_below
stmt_below_Throw site value = ap (λ (n : ℕ). n - 1) (stmt_weighs_Throw site value) ∙ less_one _

pub expr_below_Object : (site : ℕ) (members : List (Member Expr)) → expr_below (e.Object site members) ≡ sum_by member_weight members
unfolding expr_below
expr_below_Object site members = ap (λ (n : ℕ). n - 1) (expr_weighs_Object site members) ∙ less_one _

pub expr_below_Call : (first : Expr) (suffixes : List (Suffix Expr)) → expr_below (e.Call first suffixes) ≡ (expr_weight first + sum_by suffix_weight suffixes)
unfolding expr_below
expr_below_Call first suffixes = ap (λ (n : ℕ). n - 1) (expr_weighs_Call first suffixes) ∙ less_one _

pub expr_below_Step : (start : ℕ) (site : ℕ) (op : StepOp) (is_prefix : Bool) (x : Target Expr) → expr_below (e.Step start site op is_prefix x) ≡ target_weight x
unfolding expr_below
expr_below_Step start site op is_prefix x = ap (λ (n : ℕ). n - 1) (expr_weighs_Step start site op is_prefix x) ∙ less_one _

pub expr_below_Binary : (first : Expr) (links : List (Link BinaryOp Expr)) → expr_below (e.Binary first links) ≡ (expr_weight first + links_weight links)
unfolding expr_below
expr_below_Binary first links = ap (λ (n : ℕ). n - 1) (expr_weighs_Binary first links) ∙ less_one _

pub expr_below_Logical : (first : Expr) (links : List (Link LogicalOp Expr)) → expr_below (e.Logical first links) ≡ (expr_weight first + links_weight links)
unfolding expr_below
expr_below_Logical first links = ap (λ (n : ℕ). n - 1) (expr_weighs_Logical first links) ∙ less_one _

pub expr_below_Assign : (start : ℕ) (site : ℕ) (op : Option BinaryOp) (x : Target Expr) (value : Expr) → expr_below (e.Assign start site op x value) ≡ (target_weight x + expr_weight value)
unfolding expr_below
expr_below_Assign start site op x value = ap (λ (n : ℕ). n - 1) (expr_weighs_Assign start site op x value) ∙ less_one _

pub stmt_below_Declare : (site : ℕ) (kind : DeclarationKind) (ds : List (Declarator Expr)) → stmt_below (s.Declare site kind ds) ≡ declarators_weight ds
unfolding stmt_below
stmt_below_Declare site kind ds = ap (λ (n : ℕ). n - 1) (stmt_weighs_Declare site kind ds) ∙ less_one _

pub stmt_below_Function : (site : ℕ) (name : Identifier) (parameters : List Identifier) (ss : List Stmt) → stmt_below (s.Function site name parameters ss) ≡ stmts_weight ss
unfolding stmt_below
stmt_below_Function site name parameters ss = ap (λ (n : ℕ). n - 1) (stmt_weighs_Function site name parameters ss) ∙ less_one _

pub stmt_below_If : (arms : List Arm) (other : Option Stmt) → stmt_below (s.If arms other) ≡ (arms_weight arms + alternate_weight other)
unfolding stmt_below
stmt_below_If arms other = ap (λ (n : ℕ). n - 1) (stmt_weighs_If arms other) ∙ less_one _

pub stmt_below_For : (site : ℕ) (h : LoopHead Expr) (test : Option Expr) (update : Option Expr) (x : Stmt) → stmt_below (s.For site h test update x) ≡ (head_weight h + (optional_weight test + (optional_weight update + stmt_weight x)))
unfolding stmt_below
stmt_below_For site h test update x = ap (λ (n : ℕ). n - 1) (stmt_weighs_For site h test update x) ∙ less_one _

pub stmt_below_Return : (site : ℕ) (value : Option Expr) → stmt_below (s.Return site value) ≡ optional_weight value
unfolding stmt_below
stmt_below_Return site value = ap (λ (n : ℕ). n - 1) (stmt_weighs_Return site value) ∙ less_one _

pub stmt_below_Try : (site : ℕ) (ss : List Stmt) (h : Option (Catch (List Stmt))) (last : Option (List Stmt)) → stmt_below (s.Try site ss h last) ≡ (stmts_weight ss + (catch_weight h + last_weight last))
unfolding stmt_below
stmt_below_Try site ss h last = ap (λ (n : ℕ). n - 1) (stmt_weighs_Try site ss h last) ∙ less_one _

-- ---- each has itself

expr_rolled : (f : Expr-F Expr Stmt Arm) → expr_weight (roll-Expr f) ≡ 1 + expr_below (roll-Expr f)
unfolding expr_weight stmt_weight arm_weight expr_below
expr_rolled f = expr_folds f ∙ sym (ap (λ (n : ℕ). 1 + (n - 1)) (expr_folds f) ∙ one_more (less_one _))

pub expr_itself : (e : Expr) → expr_weight e ≡ 1 + expr_below e
expr_itself e = ap expr_weight (sym (roll-out-Expr e)) ∙ expr_rolled (out-Expr e) ∙ ap (λ (x : Expr). 1 + expr_below x) (roll-out-Expr e)

stmt_rolled : (f : Stmt-F Expr Stmt Arm) → stmt_weight (roll-Stmt f) ≡ 1 + stmt_below (roll-Stmt f)
unfolding expr_weight stmt_weight arm_weight stmt_below
stmt_rolled f = stmt_folds f ∙ sym (ap (λ (n : ℕ). 1 + (n - 1)) (stmt_folds f) ∙ one_more (less_one _))

pub stmt_itself : (s : Stmt) → stmt_weight s ≡ 1 + stmt_below s
stmt_itself s = ap stmt_weight (sym (roll-out-Stmt s)) ∙ stmt_rolled (out-Stmt s) ∙ ap (λ (x : Stmt). 1 + stmt_below x) (roll-out-Stmt s)

-- ---- all of them

pub ruleset expr_belows = (expr_below_Name, expr_below_Number, expr_below_Text, expr_below_Null, expr_below_True, expr_below_False, expr_below_This, expr_below_Array, expr_below_FunctionExpression, expr_below_Arrow, expr_below_ArrowBlock, expr_below_New, expr_below_Unary, expr_below_Conditional, expr_below_Object, expr_below_Call, expr_below_Step, expr_below_Binary, expr_below_Logical, expr_below_Assign, weight_both)

pub ruleset stmt_belows = (stmt_below_Block, stmt_below_Nothing, stmt_below_Express, stmt_below_While, stmt_below_Do, stmt_below_ForOf, stmt_below_Break, stmt_below_Continue, stmt_below_Throw, stmt_below_Declare, stmt_below_Function, stmt_below_If, stmt_below_For, stmt_below_Return, stmt_below_Try, weight_both)
