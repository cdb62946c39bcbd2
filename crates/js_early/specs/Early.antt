-- Early errors of declared names (ECMA-262, sections 14.2.1, 14.3.1.1, 14.15.1, 15.2.1, 15.3.1 and 16.1.1). That two functions
-- of one name in the outermost scope of a script or a body are refused, and a function there with a parameter's name, is this
-- project's own choice, and so is that `undefined`, `NaN` and `Infinity` aren't declared in a script's outermost scope.
use Rattle.std.specs.Prelude.{◌≡◌, ℕ, ◌≤◌, Bool, ◌||◌, List, [], ◌∷◌, ◌++◌, map, codes, bytes_eq, if◌then◌else◌, All, Contains, Option, Some, None}
use Rattle.std.specs.List.{list_any, flat_map}
use Rattle.js_ast.specs.declared.expression.Expr.TheOpen.{Expr-F, Stmt-F, Arm-F}
use Rattle.js_ast.specs.declared.statement.Stmt.{Stmt, fold-Stmt}
use Rattle.js_ast.specs.declared.statement.Script.{Script}
use Rattle.js_ast.specs.declared.parts.Identifier.{Identifier}
use Rattle.js_ast.specs.declared.parts.Access.{Access}
use Rattle.js_ast.specs.declared.parts.Access.TheVariants as access
use Rattle.js_ast.specs.declared.parts.Suffix.{Suffix}
use Rattle.js_ast.specs.declared.parts.Suffix.TheVariants as suffix
use Rattle.js_ast.specs.declared.parts.Target.{Target}
use Rattle.js_ast.specs.declared.parts.Target.TheVariants as target
use Rattle.js_ast.specs.declared.parts.Member.{Member}
use Rattle.js_ast.specs.declared.parts.Member.TheVariants as member
use Rattle.js_ast.specs.declared.parts.Link.{Link}
use Rattle.js_ast.specs.declared.parts.Declarator.{Declarator}
use Rattle.js_ast.specs.declared.parts.LoopHead.{LoopHead}
use Rattle.js_ast.specs.declared.parts.LoopHead.TheVariants as head
use Rattle.js_ast.specs.declared.parts.Catch.{Catch}

-- ---- one scope

abbrev pub same_name : Identifier → Identifier → Bool
same_name a b = bytes_eq a.name b.name

-- the sites of the names that are among the earlier ones, or stand twice
abbrev pub repeated : List Identifier → List Identifier → List ℕ
repeated earlier [] = []
repeated earlier (n ∷ ns) = (if list_any (same_name n) earlier then n.site ∷ [] else []) ++ repeated (n ∷ earlier) ns

-- the names that one scope declares, in their order
abbrev pub scope : List Identifier → List ℕ
scope names = repeated [] names

-- ---- places in a tree: those of early names, and the names that a statement declares in the scope around it

abbrev pub Places : Type 0
Places = List ℕ

pub record Found : Type 0 where
  pub declared : List Identifier
  pub places : Places

abbrev pub all : List Places → Places
all ps = flat_map (λ p. p) ps

abbrev pub some_of : Option Places → Places
some_of None = []
some_of (Some p) = p

-- a list of statements with a scope of its own, in which these names are declared already
abbrev pub body : List Identifier → List Found → Places
body names ss = scope (names ++ flat_map (λ s. s.declared) ss) ++ flat_map (λ s. s.places) ss

abbrev pub of_access : Access Places → Places
of_access (access.Property site name) = []
of_access (access.Index site is_static key) = key

abbrev pub of_suffix : Suffix Places → Places
of_suffix (suffix.Access a) = of_access a
of_suffix (suffix.Call site arguments) = all arguments

abbrev pub of_target : Target Places → Places
of_target (target.Name n) = []
of_target (target.Access base a) = base ++ of_access a

abbrev pub of_member : Member Places → Places
of_member (member.Value site key value) = value
of_member (member.Shorthand n) = []

abbrev pub of_links : {O : Type 0} → List (Link O Places) → Places
of_links ls = flat_map (λ l. l.right) ls

abbrev pub of_declarators : List (Declarator Places) → Places
of_declarators ds = flat_map (λ d. some_of d.value) ds

abbrev pub names_of : {E : Type 0} → List (Declarator E) → List Identifier
names_of ds = map (λ d. d.name) ds

-- the names in the head of a `for` have a scope of their own
abbrev pub of_head : LoopHead Places → Places
of_head head.Nothing = []
of_head (head.Value e) = e
of_head (head.Declare kind ds) = scope (names_of ds) ++ of_declarators ds

abbrev pub name_of : Option Identifier → List Identifier
name_of None = []
name_of (Some n) = n ∷ []

-- a catch name is declared in the block behind it
abbrev pub of_catch : Option (Catch (List Found)) → Places
of_catch None = []
of_catch (Some h) = body (name_of h.name) h.body

abbrev pub of_last : Option (List Found) → Places
of_last None = []
of_last (Some ss) = body [] ss

abbrev pub of_expr : Expr-F Places Found Places → Places
of_expr (Expr-F.Name n) = []
of_expr (Expr-F.Number site value) = []
of_expr (Expr-F.Text site value) = []
of_expr (Expr-F.Null site) = []
of_expr (Expr-F.True site) = []
of_expr (Expr-F.False site) = []
of_expr (Expr-F.This site) = []
of_expr (Expr-F.Array site items) = all items
of_expr (Expr-F.Object site members) = flat_map of_member members
of_expr (Expr-F.FunctionExpression site name parameters ss) = body parameters ss
of_expr (Expr-F.Arrow site parameters value) = scope parameters ++ value
of_expr (Expr-F.ArrowBlock site parameters ss) = body parameters ss
of_expr (Expr-F.New site name arguments) = all arguments
of_expr (Expr-F.Call first suffixes) = first ++ flat_map of_suffix suffixes
of_expr (Expr-F.Unary site op operand) = operand
of_expr (Expr-F.Step start site op is_prefix x) = of_target x
of_expr (Expr-F.Binary first links) = first ++ of_links links
of_expr (Expr-F.Logical first links) = first ++ of_links links
of_expr (Expr-F.Conditional start site test a b) = test ++ (a ++ b)
of_expr (Expr-F.Assign start site op x value) = of_target x ++ value

abbrev pub silent : Places → Found
silent ps = record { declared = []; places = ps }

abbrev pub below : Option Found → Places
below None = []
below (Some s) = s.places

abbrev pub of_stmt : Stmt-F Places Found Places → Found
of_stmt (Stmt-F.Block site ss) = silent (body [] ss)
of_stmt (Stmt-F.Nothing site) = silent []
of_stmt (Stmt-F.Declare site kind ds) = record { declared = names_of ds; places = of_declarators ds }
of_stmt (Stmt-F.Function site name parameters ss) = record { declared = name ∷ []; places = body parameters ss }
of_stmt (Stmt-F.Express site e) = silent e
of_stmt (Stmt-F.If arms other) = silent (all arms ++ below other)
of_stmt (Stmt-F.While site test s) = silent (test ++ s.places)
of_stmt (Stmt-F.Do site s test_site test) = silent (s.places ++ test)
of_stmt (Stmt-F.For site h test update s) = silent (of_head h ++ (some_of test ++ (some_of update ++ s.places)))
of_stmt (Stmt-F.ForOf site kind name items s) = silent (items ++ s.places)
of_stmt (Stmt-F.Break site) = silent []
of_stmt (Stmt-F.Continue site) = silent []
of_stmt (Stmt-F.Return site value) = silent (some_of value)
of_stmt (Stmt-F.Throw site value) = silent value
of_stmt (Stmt-F.Try site ss h last) = silent (body [] ss ++ (of_catch h ++ of_last last))

abbrev pub of_arm : Arm-F Places Found Places → Places
of_arm arm = arm.test ++ arm.consequent.places

unfoldable pub stmt_found : Stmt → Found
stmt_found = fold-Stmt Places Found Places of_expr of_stmt of_arm

-- ---- a whole script

-- `undefined`, `NaN` and `Infinity`
abbrev pub is_global : Identifier → Bool
is_global n = bytes_eq n.name (codes "undefined") || bytes_eq n.name (codes "NaN") || bytes_eq n.name (codes "Infinity")

unfoldable pub global_place : Identifier → Places
global_place n = if is_global n then n.site ∷ [] else []

abbrev pub outermost : List Found → Places
outermost ss = flat_map global_place (flat_map (λ s. s.declared) ss) ++ body [] ss

unfoldable pub early_places : Script → Places
early_places script = outermost (map stmt_found script.body)

-- the least of the places, none where there is none
abbrev pub IsLeast : Places → Option ℕ → Type 0
IsLeast ps None = ps ≡ []
IsLeast ps (Some at) = Contains ps at × All (λ p. at ≤ p) ps
