-- One level of the places in a tree.
use Rattle.std.proofs.Common.{◌≡◌, ℕ, Bool, List, [], ◌∷◌, ◌++◌, Option, Some, None, map, refl, ap, sym, ◌∙◌}
use Rattle.std.specs.List.{flat_map}
use Rattle.std.proofs.lemmas.List.{append-nil}
use Rattle.std.proofs.lemmas.List.Folds.{flat_map-map}
use Rattle.js_ast.specs.declared.expression.Expr.{Expr, fold-Expr, fold-roll-Expr, roll-Expr, map-Expr}
use Rattle.js_ast.specs.declared.expression.Expr.TheOpen.{Expr-F, Stmt-F}
use Rattle.js_ast.specs.declared.expression.Expr.TheVariants as e
use Rattle.js_ast.specs.declared.statement.Stmt.{Stmt, fold-Stmt, fold-roll-Stmt, roll-Stmt, map-Stmt}
use Rattle.js_ast.specs.declared.statement.Stmt.TheVariants as s
use Rattle.js_ast.specs.declared.statement.Arm.{Arm, fold-Arm, out-Arm, fold_out-Arm}
use Rattle.js_ast.specs.declared.operators.BinaryOp.{BinaryOp}
use Rattle.js_ast.specs.declared.operators.LogicalOp.{LogicalOp}
use Rattle.js_ast.specs.declared.operators.UnaryOp.{UnaryOp}
use Rattle.js_ast.specs.declared.operators.StepOp.{StepOp}
use Rattle.js_ast.specs.declared.operators.DeclarationKind.{DeclarationKind}
use Rattle.js_ast.specs.declared.parts.Identifier.{Identifier}
use Rattle.js_ast.specs.declared.parts.Key.{Key}
use Rattle.js_ast.specs.declared.parts.Access.{Access}
use Rattle.js_ast.specs.declared.parts.Access.TheVariants as access
use Rattle.js_ast.specs.declared.parts.Suffix.{Suffix}
use Rattle.js_ast.specs.declared.parts.Suffix.TheVariants as suffix
use Rattle.js_ast.specs.declared.parts.Target.{Target}
use Rattle.js_ast.specs.declared.parts.Target.TheVariants as target
use Rattle.js_ast.specs.declared.parts.Member.{Member}
use Rattle.js_ast.specs.declared.parts.Member.TheVariants as member
use Rattle.js_ast.specs.declared.parts.Link.{Link}
use Rattle.js_ast.specs.declared.parts.Declarator.{Declarator}
use Rattle.js_ast.specs.declared.parts.LoopHead.{LoopHead}
use Rattle.js_ast.specs.declared.parts.LoopHead.TheVariants as head
use Rattle.js_ast.specs.declared.parts.Catch.{Catch}
use Rattle.js_early.proofs.Least.{parts}
use Rattle.js_early.specs.Early.{Places, Found, body, scope, names_of, name_of, silent, of_expr, of_stmt, of_arm, of_member, of_suffix, stmt_found}
use Rattle.js_early.specs.Parts.{expr_places, exprs_places, optional_places, suffix_places, target_places, member_places, links_places, declarators_places, declared_in, body_places, arm_places, arms_places, alternate_places, head_places, catch_places, last_places}

expr_folds : (f : Expr-F Expr Stmt Arm) → fold-Expr Places Found Places of_expr of_stmt of_arm (roll-Expr f) ≡ of_expr (map-Expr Expr Stmt Arm Places Found Places (fold-Expr Places Found Places of_expr of_stmt of_arm) (fold-Stmt Places Found Places of_expr of_stmt of_arm) (fold-Arm Places Found Places of_expr of_stmt of_arm) f)
expr_folds = fold-roll-Expr Places Found Places of_expr of_stmt of_arm

stmt_folds : (f : Stmt-F Expr Stmt Arm) → fold-Stmt Places Found Places of_expr of_stmt of_arm (roll-Stmt f) ≡ of_stmt (map-Stmt Expr Stmt Arm Places Found Places (fold-Expr Places Found Places of_expr of_stmt of_arm) (fold-Stmt Places Found Places of_expr of_stmt of_arm) (fold-Arm Places Found Places of_expr of_stmt of_arm) f)
stmt_folds = fold-roll-Stmt Places Found Places of_expr of_stmt of_arm

-- ---- parts

both : {C : Type 0} {bs ds cs es : List C} → bs ≡ ds → cs ≡ es → bs ++ cs ≡ ds ++ es
both {C} {ds} {cs} p q = ap (λ (bs : List C). bs ++ cs) p ∙ ap (λ (cs : List C). ds ++ cs) q

flat_map_through : {A B C : Type 0} (h : B → List C) (v : A → B) (k : A → List C) → ((x : A) → h (v x) ≡ k x) → (xs : List A) → flat_map h (map v xs) ≡ flat_map k xs
flat_map_through h v k same [] = refl
flat_map_through h v k same (x ∷ xs) = both (same x) (flat_map_through h v k same xs)

map_through : {A B C : Type 0} (h : B → C) (v : A → B) (k : A → C) → ((x : A) → h (v x) ≡ k x) → (xs : List A) → map h (map v xs) ≡ map k xs
map_through h v k same [] = refl
map_through {C} h v k same (x ∷ xs) = ap (λ (y : C). y ∷ map h (map v xs)) (same x) ∙ ap (λ (ys : List C). k x ∷ ys) (map_through h v k same xs)

abbrev found : List Identifier → Places → Found
found ns ps = record { declared = ns; places = ps }

found_both : {ns ms : List Identifier} {ps qs : Places} → ns ≡ ms → ps ≡ qs → found ns ps ≡ found ms qs
found_both {ms} {ps} p q = ap (λ (ns : List Identifier). found ns ps) p ∙ ap (λ (ps : Places). found ms ps) q

pub option_cases : {A : Type 0} (P : Option A → Type 0) → P None → ((x : A) → P (Some x)) → (o : Option A) → P o
option_cases P none some None = none
option_cases P none some (Some x) = some x

pub member_cases : (P : Member Expr → Type 0) → ((site : ℕ) (key : Key) (value : Expr) → P (member.Value site key value)) → ((n : Identifier) → P (member.Shorthand n)) → (m : Member Expr) → P m
member_cases P value short (member.Value site key x) = value site key x
member_cases P value short (member.Shorthand n) = short n

pub access_cases : (P : Access Expr → Type 0) → ((site : ℕ) (name : List ℕ) → P (access.Property site name)) → ((site : ℕ) (is_static : Bool) (key : Expr) → P (access.Index site is_static key)) → (a : Access Expr) → P a
access_cases P property index (access.Property site name) = property site name
access_cases P property index (access.Index site is_static key) = index site is_static key

pub suffix_cases : (P : Suffix Expr → Type 0) → ((a : Access Expr) → P (suffix.Access a)) → ((site : ℕ) (arguments : List Expr) → P (suffix.Call site arguments)) → (x : Suffix Expr) → P x
suffix_cases P an_access call (suffix.Access a) = an_access a
suffix_cases P an_access call (suffix.Call site arguments) = call site arguments

pub declarator_cases : (P : Declarator Expr → Type 0) → ((n : Identifier) → P (record { name = n; value = None })) → ((n : Identifier) (e : Expr) → P (record { name = n; value = Some e })) → (d : Declarator Expr) → P d
declarator_cases P none some d = option_cases (λ o. P (record { name = d.name; value = o })) (none d.name) (some d.name) d.value

pub body_of : (names : List Identifier) (ss : List Stmt) → body names (map stmt_found ss) ≡ body_places names ss
body_of names ss = ap (λ (ns : List Identifier). scope (names ++ ns) ++ flat_map (λ (f : Found). f.places) (map stmt_found ss)) (flat_map-map (λ (f : Found). f.declared) stmt_found ss)
    ∙ ap (λ (ps : Places). scope (names ++ declared_in ss) ++ ps) (flat_map-map (λ (f : Found). f.places) stmt_found ss)

pub expr_Name : (n : Identifier) → expr_places (e.Name n) ≡ []
unfolding expr_places stmt_found arm_places
expr_Name n = ap expr_places (sym (e.rolls-Name n)) ∙ expr_folds (Expr-F.Name n)

pub expr_Number : (site : ℕ) (v : ℕ) → expr_places (e.Number site v) ≡ []
unfolding expr_places stmt_found arm_places
expr_Number site v = ap expr_places (sym (e.rolls-Number site v)) ∙ expr_folds (Expr-F.Number site v)

pub expr_Text : (site : ℕ) (v : List ℕ) → expr_places (e.Text site v) ≡ []
unfolding expr_places stmt_found arm_places
expr_Text site v = ap expr_places (sym (e.rolls-Text site v)) ∙ expr_folds (Expr-F.Text site v)

pub expr_Null : (site : ℕ) → expr_places (e.Null site) ≡ []
unfolding expr_places stmt_found arm_places
expr_Null site = ap expr_places (sym (e.rolls-Null site)) ∙ expr_folds (Expr-F.Null site)

pub expr_True : (site : ℕ) → expr_places (e.True site) ≡ []
unfolding expr_places stmt_found arm_places
expr_True site = ap expr_places (sym (e.rolls-True site)) ∙ expr_folds (Expr-F.True site)

pub expr_False : (site : ℕ) → expr_places (e.False site) ≡ []
unfolding expr_places stmt_found arm_places
expr_False site = ap expr_places (sym (e.rolls-False site)) ∙ expr_folds (Expr-F.False site)

pub expr_This : (site : ℕ) → expr_places (e.This site) ≡ []
unfolding expr_places stmt_found arm_places
expr_This site = ap expr_places (sym (e.rolls-This site)) ∙ expr_folds (Expr-F.This site)

pub expr_Array : (site : ℕ) (items : List Expr) → expr_places (e.Array site items) ≡ exprs_places items
unfolding expr_places stmt_found arm_places
expr_Array site items = ap expr_places (sym (e.rolls-Array site items)) ∙ expr_folds (Expr-F.Array site items) ∙ flat_map-map (λ (p : Places). p) expr_places items

pub expr_FunctionExpression : (site : ℕ) (name : Option Identifier) (parameters : List Identifier) (ss : List Stmt) → expr_places (e.FunctionExpression site name parameters ss) ≡ body_places parameters ss
unfolding expr_places stmt_found arm_places
expr_FunctionExpression site name parameters ss = ap expr_places (sym (e.rolls-FunctionExpression site name parameters ss)) ∙ expr_folds (Expr-F.FunctionExpression site name parameters ss) ∙ body_of parameters ss

pub expr_Arrow : (site : ℕ) (parameters : List Identifier) (value : Expr) → expr_places (e.Arrow site parameters value) ≡ scope parameters ++ expr_places value
unfolding expr_places stmt_found arm_places
expr_Arrow site parameters value = ap expr_places (sym (e.rolls-Arrow site parameters value)) ∙ expr_folds (Expr-F.Arrow site parameters value)

pub expr_ArrowBlock : (site : ℕ) (parameters : List Identifier) (ss : List Stmt) → expr_places (e.ArrowBlock site parameters ss) ≡ body_places parameters ss
unfolding expr_places stmt_found arm_places
expr_ArrowBlock site parameters ss = ap expr_places (sym (e.rolls-ArrowBlock site parameters ss)) ∙ expr_folds (Expr-F.ArrowBlock site parameters ss) ∙ body_of parameters ss

pub expr_New : (site : ℕ) (name : Identifier) (arguments : List Expr) → expr_places (e.New site name arguments) ≡ exprs_places arguments
unfolding expr_places stmt_found arm_places
expr_New site name arguments = ap expr_places (sym (e.rolls-New site name arguments)) ∙ expr_folds (Expr-F.New site name arguments) ∙ flat_map-map (λ (p : Places). p) expr_places arguments

pub expr_Unary : (site : ℕ) (op : UnaryOp) (operand : Expr) → expr_places (e.Unary site op operand) ≡ expr_places operand
unfolding expr_places stmt_found arm_places
expr_Unary site op operand = ap expr_places (sym (e.rolls-Unary site op operand)) ∙ expr_folds (Expr-F.Unary site op operand)

pub expr_Conditional : (start : ℕ) (site : ℕ) (test : Expr) (a : Expr) (b : Expr) → expr_places (e.Conditional start site test a b) ≡ expr_places test ++ (expr_places a ++ expr_places b)
unfolding expr_places stmt_found arm_places
expr_Conditional start site test a b = ap expr_places (sym (e.rolls-Conditional start site test a b)) ∙ expr_folds (Expr-F.Conditional start site test a b)

pub stmt_Block : (site : ℕ) (ss : List Stmt) → stmt_found (s.Block site ss) ≡ silent (body_places [] ss)
unfolding expr_places stmt_found arm_places
stmt_Block site ss = ap stmt_found (sym (s.rolls-Block site ss)) ∙ stmt_folds (Stmt-F.Block site ss) ∙ ap silent (body_of [] ss)

pub stmt_Nothing : (site : ℕ) → stmt_found (s.Nothing site) ≡ silent []
unfolding expr_places stmt_found arm_places
stmt_Nothing site = ap stmt_found (sym (s.rolls-Nothing site)) ∙ stmt_folds (Stmt-F.Nothing site)

pub stmt_Express : (site : ℕ) (x : Expr) → stmt_found (s.Express site x) ≡ silent (expr_places x)
unfolding expr_places stmt_found arm_places
stmt_Express site x = ap stmt_found (sym (s.rolls-Express site x)) ∙ stmt_folds (Stmt-F.Express site x)

pub stmt_While : (site : ℕ) (test : Expr) (x : Stmt) → stmt_found (s.While site test x) ≡ silent (expr_places test ++ (stmt_found x).places)
unfolding expr_places stmt_found arm_places
stmt_While site test x = ap stmt_found (sym (s.rolls-While site test x)) ∙ stmt_folds (Stmt-F.While site test x)

pub stmt_Do : (site : ℕ) (x : Stmt) (test_site : ℕ) (test : Expr) → stmt_found (s.Do site x test_site test) ≡ silent ((stmt_found x).places ++ expr_places test)
unfolding expr_places stmt_found arm_places
stmt_Do site x test_site test = ap stmt_found (sym (s.rolls-Do site x test_site test)) ∙ stmt_folds (Stmt-F.Do site x test_site test)

pub stmt_ForOf : (site : ℕ) (kind : DeclarationKind) (name : Identifier) (items : Expr) (x : Stmt) → stmt_found (s.ForOf site kind name items x) ≡ silent (expr_places items ++ (stmt_found x).places)
unfolding expr_places stmt_found arm_places
stmt_ForOf site kind name items x = ap stmt_found (sym (s.rolls-ForOf site kind name items x)) ∙ stmt_folds (Stmt-F.ForOf site kind name items x)

pub stmt_Break : (site : ℕ) → stmt_found (s.Break site) ≡ silent []
unfolding expr_places stmt_found arm_places
stmt_Break site = ap stmt_found (sym (s.rolls-Break site)) ∙ stmt_folds (Stmt-F.Break site)

pub stmt_Continue : (site : ℕ) → stmt_found (s.Continue site) ≡ silent []
unfolding expr_places stmt_found arm_places
stmt_Continue site = ap stmt_found (sym (s.rolls-Continue site)) ∙ stmt_folds (Stmt-F.Continue site)

pub stmt_Throw : (site : ℕ) (value : Expr) → stmt_found (s.Throw site value) ≡ silent (expr_places value)
unfolding expr_places stmt_found arm_places
stmt_Throw site value = ap stmt_found (sym (s.rolls-Throw site value)) ∙ stmt_folds (Stmt-F.Throw site value)

pub expr_Object : (site : ℕ) (members : List (Member Expr)) → expr_places (e.Object site members) ≡ flat_map member_places members
unfolding expr_places stmt_found arm_places
expr_Object site members = ap expr_places (sym (e.rolls-Object site members)) ∙ expr_folds (Expr-F.Object site members) ∙ flat_map_through of_member _ member_places (member_cases _ (λ at key value. refl) (λ n. refl)) members

pub expr_Call : (first : Expr) (suffixes : List (Suffix Expr)) → expr_places (e.Call first suffixes) ≡ expr_places first ++ flat_map suffix_places suffixes
unfolding expr_places stmt_found arm_places
expr_Call first suffixes = ap expr_places (sym (e.rolls-Call first suffixes)) ∙ expr_folds (Expr-F.Call first suffixes) ∙ both refl (flat_map_through of_suffix _ suffix_places (suffix_cases _ (access_cases _ (λ at name. refl) (λ at is_static key. refl)) (λ at arguments. flat_map-map (λ (p : Places). p) expr_places arguments)) suffixes)

pub expr_Step : (start : ℕ) (site : ℕ) (op : StepOp) (is_prefix : Bool) (x : Target Expr) → expr_places (e.Step start site op is_prefix x) ≡ target_places x
unfolding expr_places stmt_found arm_places
expr_Step start site op is_prefix (target.Name n) = ap expr_places (sym (e.rolls-Step start site op is_prefix (target.Name n))) ∙ expr_folds (Expr-F.Step start site op is_prefix (target.Name n))
expr_Step start site op is_prefix (target.Access base (access.Property at name)) = ap expr_places (sym (e.rolls-Step start site op is_prefix (target.Access base (access.Property at name)))) ∙ expr_folds (Expr-F.Step start site op is_prefix (target.Access base (access.Property at name)))
expr_Step start site op is_prefix (target.Access base (access.Index at is_static key)) = ap expr_places (sym (e.rolls-Step start site op is_prefix (target.Access base (access.Index at is_static key)))) ∙ expr_folds (Expr-F.Step start site op is_prefix (target.Access base (access.Index at is_static key)))

pub expr_Binary : (first : Expr) (links : List (Link BinaryOp Expr)) → expr_places (e.Binary first links) ≡ expr_places first ++ links_places links
unfolding expr_places stmt_found arm_places
expr_Binary first links = ap expr_places (sym (e.rolls-Binary first links)) ∙ expr_folds (Expr-F.Binary first links) ∙ both refl (flat_map_through _ _ _ (λ l. refl) links)

pub expr_Logical : (first : Expr) (links : List (Link LogicalOp Expr)) → expr_places (e.Logical first links) ≡ expr_places first ++ links_places links
unfolding expr_places stmt_found arm_places
expr_Logical first links = ap expr_places (sym (e.rolls-Logical first links)) ∙ expr_folds (Expr-F.Logical first links) ∙ both refl (flat_map_through _ _ _ (λ l. refl) links)

pub expr_Assign : (start : ℕ) (site : ℕ) (op : Option BinaryOp) (x : Target Expr) (value : Expr) → expr_places (e.Assign start site op x value) ≡ target_places x ++ expr_places value
unfolding expr_places stmt_found arm_places
expr_Assign start site op (target.Name n) value = ap expr_places (sym (e.rolls-Assign start site op (target.Name n) value)) ∙ expr_folds (Expr-F.Assign start site op (target.Name n) value)
expr_Assign start site op (target.Access base (access.Property at name)) value = ap expr_places (sym (e.rolls-Assign start site op (target.Access base (access.Property at name)) value)) ∙ expr_folds (Expr-F.Assign start site op (target.Access base (access.Property at name)) value)
expr_Assign start site op (target.Access base (access.Index at is_static key)) value = ap expr_places (sym (e.rolls-Assign start site op (target.Access base (access.Index at is_static key)) value)) ∙ expr_folds (Expr-F.Assign start site op (target.Access base (access.Index at is_static key)) value)

pub stmt_Declare : (site : ℕ) (kind : DeclarationKind) (ds : List (Declarator Expr)) → stmt_found (s.Declare site kind ds) ≡ record { declared = names_of ds; places = declarators_places ds }
unfolding expr_places stmt_found arm_places
stmt_Declare site kind ds = ap stmt_found (sym (s.rolls-Declare site kind ds)) ∙ stmt_folds (Stmt-F.Declare site kind ds) ∙ found_both (map_through _ _ _ (λ d. refl) ds) (flat_map_through _ _ _ (declarator_cases _ (λ n. refl) (λ n e. refl)) ds)

pub stmt_Function : (site : ℕ) (name : Identifier) (parameters : List Identifier) (ss : List Stmt) → stmt_found (s.Function site name parameters ss) ≡ record { declared = name ∷ []; places = body_places parameters ss }
unfolding expr_places stmt_found arm_places
stmt_Function site name parameters ss = ap stmt_found (sym (s.rolls-Function site name parameters ss)) ∙ stmt_folds (Stmt-F.Function site name parameters ss) ∙ ap (λ (ps : Places). record { declared = name ∷ []; places = ps }) (body_of parameters ss)

pub stmt_If : (arms : List Arm) (other : Option Stmt) → stmt_found (s.If arms other) ≡ silent (arms_places arms ++ alternate_places other)
unfolding expr_places stmt_found arm_places
stmt_If arms None = ap stmt_found (sym (s.rolls-If arms None)) ∙ stmt_folds (Stmt-F.If arms None) ∙ ap silent (both (flat_map-map (λ (p : Places). p) arm_places arms) refl)
stmt_If arms (Some x) = ap stmt_found (sym (s.rolls-If arms (Some x))) ∙ stmt_folds (Stmt-F.If arms (Some x)) ∙ ap silent (both (flat_map-map (λ (p : Places). p) arm_places arms) refl)

pub stmt_For : (site : ℕ) (h : LoopHead Expr) (test : Option Expr) (update : Option Expr) (x : Stmt) → stmt_found (s.For site h test update x) ≡ silent (head_places h ++ (optional_places test ++ (optional_places update ++ (stmt_found x).places)))
unfolding expr_places stmt_found arm_places
stmt_For site head.Nothing None None x = ap stmt_found (sym (s.rolls-For site head.Nothing None None x)) ∙ stmt_folds (Stmt-F.For site head.Nothing None None x)
stmt_For site head.Nothing None (Some u) x = ap stmt_found (sym (s.rolls-For site head.Nothing None (Some u) x)) ∙ stmt_folds (Stmt-F.For site head.Nothing None (Some u) x)
stmt_For site head.Nothing (Some t) None x = ap stmt_found (sym (s.rolls-For site head.Nothing (Some t) None x)) ∙ stmt_folds (Stmt-F.For site head.Nothing (Some t) None x)
stmt_For site head.Nothing (Some t) (Some u) x = ap stmt_found (sym (s.rolls-For site head.Nothing (Some t) (Some u) x)) ∙ stmt_folds (Stmt-F.For site head.Nothing (Some t) (Some u) x)
stmt_For site (head.Value e) None None x = ap stmt_found (sym (s.rolls-For site (head.Value e) None None x)) ∙ stmt_folds (Stmt-F.For site (head.Value e) None None x)
stmt_For site (head.Value e) None (Some u) x = ap stmt_found (sym (s.rolls-For site (head.Value e) None (Some u) x)) ∙ stmt_folds (Stmt-F.For site (head.Value e) None (Some u) x)
stmt_For site (head.Value e) (Some t) None x = ap stmt_found (sym (s.rolls-For site (head.Value e) (Some t) None x)) ∙ stmt_folds (Stmt-F.For site (head.Value e) (Some t) None x)
stmt_For site (head.Value e) (Some t) (Some u) x = ap stmt_found (sym (s.rolls-For site (head.Value e) (Some t) (Some u) x)) ∙ stmt_folds (Stmt-F.For site (head.Value e) (Some t) (Some u) x)
stmt_For site (head.Declare kind ds) None None x = ap stmt_found (sym (s.rolls-For site (head.Declare kind ds) None None x)) ∙ stmt_folds (Stmt-F.For site (head.Declare kind ds) None None x) ∙ ap silent (both (both (ap scope (map_through _ _ _ (λ d. refl) ds)) (flat_map_through _ _ _ (declarator_cases _ (λ n. refl) (λ n e. refl)) ds)) refl)
stmt_For site (head.Declare kind ds) None (Some u) x = ap stmt_found (sym (s.rolls-For site (head.Declare kind ds) None (Some u) x)) ∙ stmt_folds (Stmt-F.For site (head.Declare kind ds) None (Some u) x) ∙ ap silent (both (both (ap scope (map_through _ _ _ (λ d. refl) ds)) (flat_map_through _ _ _ (declarator_cases _ (λ n. refl) (λ n e. refl)) ds)) refl)
stmt_For site (head.Declare kind ds) (Some t) None x = ap stmt_found (sym (s.rolls-For site (head.Declare kind ds) (Some t) None x)) ∙ stmt_folds (Stmt-F.For site (head.Declare kind ds) (Some t) None x) ∙ ap silent (both (both (ap scope (map_through _ _ _ (λ d. refl) ds)) (flat_map_through _ _ _ (declarator_cases _ (λ n. refl) (λ n e. refl)) ds)) refl)
stmt_For site (head.Declare kind ds) (Some t) (Some u) x = ap stmt_found (sym (s.rolls-For site (head.Declare kind ds) (Some t) (Some u) x)) ∙ stmt_folds (Stmt-F.For site (head.Declare kind ds) (Some t) (Some u) x) ∙ ap silent (both (both (ap scope (map_through _ _ _ (λ d. refl) ds)) (flat_map_through _ _ _ (declarator_cases _ (λ n. refl) (λ n e. refl)) ds)) refl)

pub stmt_Return : (site : ℕ) (value : Option Expr) → stmt_found (s.Return site value) ≡ silent (optional_places value)
unfolding expr_places stmt_found arm_places
stmt_Return site None = ap stmt_found (sym (s.rolls-Return site None)) ∙ stmt_folds (Stmt-F.Return site None)
stmt_Return site (Some e) = ap stmt_found (sym (s.rolls-Return site (Some e))) ∙ stmt_folds (Stmt-F.Return site (Some e))

pub stmt_Try : (site : ℕ) (ss : List Stmt) (h : Option (Catch (List Stmt))) (last : Option (List Stmt)) → stmt_found (s.Try site ss h last) ≡ silent (body_places [] ss ++ (catch_places h ++ last_places last))
unfolding expr_places stmt_found arm_places
stmt_Try site ss None None = ap stmt_found (sym (s.rolls-Try site ss None None)) ∙ stmt_folds (Stmt-F.Try site ss None None) ∙ ap silent (both (body_of [] ss) refl)
stmt_Try site ss None (Some ls) = ap stmt_found (sym (s.rolls-Try site ss None (Some ls))) ∙ stmt_folds (Stmt-F.Try site ss None (Some ls)) ∙ ap silent (both (body_of [] ss) (body_of [] ls))
stmt_Try site ss (Some k) None = ap stmt_found (sym (s.rolls-Try site ss (Some k) None)) ∙ stmt_folds (Stmt-F.Try site ss (Some k) None) ∙ ap silent (both (body_of [] ss) (both (body_of (name_of k.name) k.body) refl))
stmt_Try site ss (Some k) (Some ls) = ap stmt_found (sym (s.rolls-Try site ss (Some k) (Some ls))) ∙ stmt_folds (Stmt-F.Try site ss (Some k) (Some ls)) ∙ ap silent (both (body_of [] ss) (both (body_of (name_of k.name) k.body) (body_of [] ls)))

pub arm_opens : (a : Arm) → arm_places a ≡ expr_places (out-Arm a).test ++ (stmt_found (out-Arm a).consequent).places
unfolding expr_places stmt_found arm_places
arm_opens a = fold_out-Arm Places Found Places of_expr of_stmt of_arm a

-- ---- all of them

pub ruleset stmt_opens = (stmt_Block, stmt_Nothing, stmt_Declare, stmt_Function, stmt_Express, stmt_If, stmt_While, stmt_Do, stmt_For, stmt_ForOf, stmt_Break, stmt_Continue, stmt_Return, stmt_Throw, stmt_Try)

pub ruleset expr_opens = (expr_Name, expr_Number, expr_Text, expr_Null, expr_True, expr_False, expr_This, expr_Array, expr_Object, expr_FunctionExpression, expr_Arrow, expr_ArrowBlock, expr_New, expr_Call, expr_Unary, expr_Step, expr_Binary, expr_Logical, expr_Conditional, expr_Assign)

-- for lists of names
pub ruleset name_opens = (stmt_opens, append-nil)

-- for places
pub ruleset expr_steps = (expr_opens, parts)

pub ruleset stmt_steps = (stmt_opens, parts)
