-- The places of the parts of a tree, and the least place that is known so far.
use Rattle.std.specs.Prelude.{ℕ, min, List, [], ◌∷◌, ◌++◌, Option, Some, None}
use Rattle.std.specs.List.{flat_map}
use Rattle.js_ast.specs.declared.expression.Expr.{Expr, fold-Expr}
use Rattle.js_ast.specs.declared.statement.Stmt.{Stmt}
use Rattle.js_ast.specs.declared.statement.Arm.{Arm, fold-Arm}
use Rattle.js_ast.specs.declared.parts.Identifier.{Identifier}
use Rattle.js_ast.specs.declared.parts.Access.{Access}
use Rattle.js_ast.specs.declared.parts.Access.TheVariants as access
use Rattle.js_ast.specs.declared.parts.Suffix.{Suffix}
use Rattle.js_ast.specs.declared.parts.Suffix.TheVariants as suffix
use Rattle.js_ast.specs.declared.parts.Target.{Target}
use Rattle.js_ast.specs.declared.parts.Target.TheVariants as target
use Rattle.js_ast.specs.declared.parts.Member.{Member}
use Rattle.js_ast.specs.declared.parts.Member.TheVariants as member
use Rattle.js_ast.specs.declared.parts.Link.{Link}
use Rattle.js_ast.specs.declared.parts.Declarator.{Declarator}
use Rattle.js_ast.specs.declared.parts.LoopHead.{LoopHead}
use Rattle.js_ast.specs.declared.parts.LoopHead.TheVariants as head
use Rattle.js_ast.specs.declared.parts.Catch.{Catch}
use Rattle.js_early.specs.Early.{Places, Found, scope, names_of, name_of, of_expr, of_stmt, of_arm, stmt_found, global_place}

abbrev pub lesser : Option ℕ → ℕ → ℕ
lesser None p = p
lesser (Some q) p = min q p

-- the least of the places and of the one that is known before them
unfoldable pub least_with : Option ℕ → Places → Option ℕ
least_with found [] = found
least_with found (p ∷ ps) = least_with (Some (lesser found p)) ps

-- ---- expressions

unfoldable pub expr_places : Expr → Places
expr_places = fold-Expr Places Found Places of_expr of_stmt of_arm

abbrev pub exprs_places : List Expr → Places
exprs_places es = flat_map expr_places es

abbrev pub optional_places : Option Expr → Places
optional_places None = []
optional_places (Some e) = expr_places e

abbrev pub access_places : Access Expr → Places
access_places (access.Property site name) = []
access_places (access.Index site is_static key) = expr_places key

abbrev pub suffix_places : Suffix Expr → Places
suffix_places (suffix.Access a) = access_places a
suffix_places (suffix.Call site arguments) = exprs_places arguments

abbrev pub target_places : Target Expr → Places
target_places (target.Name n) = []
target_places (target.Access base a) = expr_places base ++ access_places a

abbrev pub member_places : Member Expr → Places
member_places (member.Value site key value) = expr_places value
member_places (member.Shorthand n) = []

abbrev pub links_places : {O : Type 0} → List (Link O Expr) → Places
links_places ls = flat_map (λ l. expr_places l.right) ls

abbrev pub declarators_places : List (Declarator Expr) → Places
declarators_places ds = flat_map (λ d. optional_places d.value) ds

-- ---- statements

abbrev pub declared_in : List Stmt → List Identifier
declared_in ss = flat_map (λ s. (stmt_found s).declared) ss

abbrev pub stmts_places : List Stmt → Places
stmts_places ss = flat_map (λ s. (stmt_found s).places) ss

abbrev pub body_places : List Identifier → List Stmt → Places
body_places names ss = scope (names ++ declared_in ss) ++ stmts_places ss

unfoldable pub arm_places : Arm → Places
arm_places = fold-Arm Places Found Places of_expr of_stmt of_arm

abbrev pub arms_places : List Arm → Places
arms_places arms = flat_map arm_places arms

abbrev pub alternate_places : Option Stmt → Places
alternate_places None = []
alternate_places (Some s) = (stmt_found s).places

abbrev pub head_places : LoopHead Expr → Places
head_places head.Nothing = []
head_places (head.Value e) = expr_places e
head_places (head.Declare kind ds) = scope (names_of ds) ++ declarators_places ds

abbrev pub catch_places : Option (Catch (List Stmt)) → Places
catch_places None = []
catch_places (Some h) = body_places (name_of h.name) h.body

abbrev pub last_places : Option (List Stmt) → Places
last_places None = []
last_places (Some ss) = body_places [] ss

abbrev pub globals_in : List Identifier → Places
globals_in names = flat_map global_place names
