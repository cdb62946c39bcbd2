-- Trees of statements for examples, each beside what it does.
use Rattle.std.proofs.Common.{◌≡◌, ℕ, List, [], ◌∷◌, ◌++◌, map, Option, Some, None, refl, ap, ◌∙◌}
use Rattle.std.specs.Option.{option_map}
use Rattle.js_ast.specs.declared.operators.DeclarationKind.{DeclarationKind}
use Rattle.js_ast.specs.declared.parts.Identifier.{Identifier}
use Rattle.js_ast.specs.declared.parts.Declarator.{Declarator}
use Rattle.js_ast.specs.declared.expression.Expr.{Expr, roll-Expr}
use Rattle.js_ast.specs.declared.expression.Expr.TheOpen.{Expr-F, Stmt-F}
use Rattle.js_ast.specs.declared.statement.Stmt.{Stmt, roll-Stmt, map-Stmt, out-roll-Stmt}
use Rattle.js_ast.specs.declared.statement.Arm.{Arm}
use Rattle.js_meaning.specs.Values.{Scope, Place, statements, expression}
use Rattle.js_meaning.specs.Running.{Outcome, returns, given, done, bind, count, on_value}
use Rattle.js_meaning.specs.Parts.{Meaning, make_function}
use Rattle.js_meaning.specs.Blocks.{Declaration, declared_by, names_of, open_names, start_function, start_functions, run_all, block, arrow_code, function_expression}
use Rattle.js_meaning.specs.Meaning.{Arms, of_stmt, expr, stmt, stmts, block_of, trees_of, body_of}
use Rattle.js_meaning.proofs.Opens.{with_expr, with_stmt, with_arm, opens_expr, opens_stmt}
use Rattle.js_meaning.proofs.Known.{Known, pair, same}

pub record KnownStmt : Type 0 where
  pub layer : Stmt-F Expr Stmt Arm
  pub does : Meaning
  pub is : stmt (roll-Stmt layer) ≡ does

abbrev pub stmt_tree : KnownStmt → Stmt
stmt_tree k = roll-Stmt k.layer

abbrev pub stmt_pair : KnownStmt → Stmt × Meaning
stmt_pair k = (stmt_tree k, k.does)

pub same_stmt : (k : KnownStmt) → with_stmt (stmt_tree k) ≡ stmt_pair k
same_stmt k = ap {B = Stmt × Meaning} (λ m. (stmt_tree k, m)) k.is

-- ---- blocks

abbrev pub stmt_trees : List KnownStmt → List Stmt
stmt_trees [] = []
stmt_trees (k ∷ ks) = stmt_tree k ∷ stmt_trees ks

abbrev pub doings : List KnownStmt → List Meaning
doings [] = []
doings (k ∷ ks) = k.does ∷ doings ks

abbrev pub known_names : List KnownStmt → List Declaration
known_names [] = []
known_names (k ∷ ks) = declared_by k.layer ++ known_names ks

abbrev pub starts : List KnownStmt → Scope → Place → (Place → Outcome) → Outcome
starts [] scope st go = go st
starts (k ∷ ks) scope st go = start_function k.layer scope st (λ st. starts ks scope st go)

abbrev pub known_block : List KnownStmt → Meaning
known_block ks calls k scope st =
    open_names (known_names ks) scope st (λ scope st. starts ks scope st (run_all (doings ks) calls k scope))

pub same_doings : (ks : List KnownStmt) → stmts (stmt_trees ks) ≡ doings ks
unfolding stmts
same_doings [] = refl
same_doings (k ∷ ks) = ap (λ m. m ∷ map stmt (stmt_trees ks)) k.is ∙ ap (λ ms. k.does ∷ ms) (same_doings ks)

same_names : (ks : List KnownStmt) → names_of (stmt_trees ks) ≡ known_names ks
same_names [] = refl
same_names (k ∷ ks) =
    ap (λ f. declared_by f ++ names_of (stmt_trees ks)) (out-roll-Stmt k.layer)
    ∙ ap (λ ns. declared_by k.layer ++ ns) (same_names ks)

abbrev Starting : Type 0
Starting = Scope → Place → (Place → Outcome) → Outcome

same_starts : (ks : List KnownStmt) → start_functions (stmt_trees ks) ≡ starts ks
same_starts [] = refl
same_starts (k ∷ ks) =
    ap {B = Starting} (λ f scope st go. start_function f scope st
    (λ st. start_functions (stmt_trees ks) scope st go)) (out-roll-Stmt k.layer)
    ∙ ap {B = Starting} (λ (g : Starting) scope st go. start_function k.layer scope st
    (λ st. g scope st go)) (same_starts ks)

block_with : List Declaration → Starting → List Meaning → Meaning
block_with ns g ms calls k scope st = open_names ns scope st (λ scope st. g scope st (run_all ms calls k scope))

pub same_block : (ks : List KnownStmt) → block (stmt_trees ks) (stmts (stmt_trees ks)) ≡ known_block ks
unfolding block_with
same_block ks =
    ap {B = Meaning} (λ ns. block_with ns (start_functions (stmt_trees ks)) (stmts (stmt_trees ks))) (same_names ks)
    ∙ ap {B = Meaning} (λ g. block_with (known_names ks) g (stmts (stmt_trees ks))) (same_starts ks)
    ∙ ap {B = Meaning} (λ ms. block_with (known_names ks) (starts ks) ms) (same_doings ks)

pub trees_with : (ss : List Stmt) → trees_of (map with_stmt ss) ≡ ss
trees_with [] = refl
trees_with (s ∷ ss) = ap (λ ts. s ∷ ts) (trees_with ss)

pub meanings_with : (ss : List Stmt) → map (λ (p : Stmt × Meaning). p.1) (map with_stmt ss) ≡ stmts ss
unfolding stmts
meanings_with [] = refl
meanings_with (s ∷ ss) = ap (λ ms. stmt s ∷ ms) (meanings_with ss)

-- a block of statements beside their meanings
pub block_known : (ks : List KnownStmt) → block_of (map with_stmt (stmt_trees ks)) ≡ known_block ks
block_known ks =
    ap {B = Meaning} (λ ts. block ts (map (λ p. p.1) (map with_stmt (stmt_trees ks)))) (trees_with (stmt_trees ks))
    ∙ ap {B = Meaning} (λ ms. block (stmt_trees ks) ms) (meanings_with (stmt_trees ks))
    ∙ same_block ks

-- the body of a function
pub body_known : (ks : List KnownStmt) → body_of (statements (stmt_trees ks)) ≡ known_block ks
unfolding body_of
body_known ks = same_block ks

abbrev pub known_value : Known → Meaning
known_value k calls j scope st = bind (k.does calls j scope st) (on_value (λ x st. done st (returns x)))

pub value_known : (k : Known) → body_of (expression k.tree) ≡ known_value k
unfolding body_of
value_known k =
    ap {B = Meaning} (λ (m : Meaning) calls j scope st. bind (m calls j scope st) (on_value
    (λ x st. done st (returns x)))) k.is

-- functions, whose bodies are any trees

pub function_is : (site : ℕ) (name : Option Identifier) (parameters : List Identifier) (body : List Stmt) →
    expr (roll-Expr (Expr-F.FunctionExpression site name parameters body)) ≡ (λ calls k scope st. count site st (function_expression site name parameters body scope))
function_is site name parameters body = opens_expr (Expr-F.FunctionExpression site name parameters body)
    ∙ ap {B = Meaning} (λ ts calls k scope st. count site st (function_expression site name parameters ts scope)) (trees_with body)

abbrev pub function_ : ℕ → Option Identifier → List Identifier → List Stmt → Known
function_ site name parameters body =
    record { tree = roll-Expr (Expr-F.FunctionExpression site name parameters body); does = _; is = function_is site name parameters body }

abbrev pub made : ℕ → List Identifier → List Stmt → Meaning
made site parameters body calls k scope st =
    count site st (λ st. make_function site (arrow_code parameters (statements body) scope) st (λ f st. done st (given f)))

pub arrow_is : (site : ℕ) (parameters : List Identifier) (body : List Stmt) →
    expr (roll-Expr (Expr-F.ArrowBlock site parameters body)) ≡ made site parameters body
arrow_is site parameters body =
    opens_expr (Expr-F.ArrowBlock site parameters body)
    ∙ ap {B = Meaning} (λ ts. made site parameters ts) (trees_with body)

abbrev pub arrow_block : ℕ → List Identifier → List Stmt → Known
arrow_block site parameters body =
    record { tree = roll-Expr (Expr-F.ArrowBlock site parameters body); does = made site parameters body; is = arrow_is site parameters body }

-- ---- statements

-- a layer of whose parts none is run
abbrev pub still : Stmt-F Expr Stmt Arm → KnownStmt
still f = record { layer = f; does = _; is = opens_stmt f }

abbrev pub braces : ℕ → List KnownStmt → KnownStmt
braces site ks = record {
  layer = Stmt-F.Block site (stmt_trees ks);
  does = (λ calls k scope st. count site st (known_block ks calls k scope));
  is = opens_stmt (Stmt-F.Block site (stmt_trees ks))
      ∙ ap {B = Meaning} (λ (m : Meaning) calls k scope st. count site st (m calls k scope)) (block_known ks);
}

abbrev pub express : ℕ → Known → KnownStmt
express site k = record {
  layer = Stmt-F.Express site k.tree;
  does = _;
  is = opens_stmt (Stmt-F.Express site k.tree) ∙ ap {B = Meaning} (λ p. of_stmt (Stmt-F.Express site p)) (same k);
}

abbrev pub throw_ : ℕ → Known → KnownStmt
throw_ site k = record {
  layer = Stmt-F.Throw site k.tree;
  does = _;
  is = opens_stmt (Stmt-F.Throw site k.tree) ∙ ap {B = Meaning} (λ p. of_stmt (Stmt-F.Throw site p)) (same k);
}

abbrev pub return_ : ℕ → Known → KnownStmt
return_ site k = record {
  layer = Stmt-F.Return site (Some k.tree);
  does = _;
  is = opens_stmt (Stmt-F.Return site (Some k.tree))
      ∙ ap {B = Meaning} (λ p. of_stmt (Stmt-F.Return site (Some p))) (same k);
}

-- ---- declarations

abbrev pub KnownDeclarator : Type 0
KnownDeclarator = Identifier × Option Known

abbrev pub declarator_tree : KnownDeclarator → Declarator Expr
declarator_tree d = record { name = d.0; value = option_map (λ k. k.tree) d.1 }

abbrev pub declarator_pair : KnownDeclarator → Declarator (Expr × Meaning)
declarator_pair d = record { name = d.0; value = option_map pair d.1 }

abbrev pub declarator_with : Declarator Expr → Declarator (Expr × Meaning)
declarator_with d = record { name = d.name; value = option_map with_expr d.value }

abbrev pub declarator_trees : List KnownDeclarator → List (Declarator Expr)
declarator_trees [] = []
declarator_trees (d ∷ ds) = declarator_tree d ∷ declarator_trees ds

abbrev pub declarator_pairs : List KnownDeclarator → List (Declarator (Expr × Meaning))
declarator_pairs [] = []
declarator_pairs (d ∷ ds) = declarator_pair d ∷ declarator_pairs ds

pub same_value : (o : Option Known) → option_map with_expr (option_map (λ (k : Known). k.tree) o) ≡ option_map pair o
same_value None = refl
same_value (Some k) = ap {B = Option (Expr × Meaning)} (λ p. Some p) (same k)

pub same_declarators : (ds : List KnownDeclarator) → map declarator_with (declarator_trees ds) ≡ declarator_pairs ds
same_declarators [] = refl
same_declarators (d ∷ ds) =
    ap {B = List (Declarator (Expr × Meaning))} (λ o. record { name = d.0; value = o } ∷ map declarator_with (declarator_trees ds)) (same_value d.1)
    ∙ ap {B = List (Declarator (Expr × Meaning))} (λ ts. declarator_pair d ∷ ts) (same_declarators ds)

declarators_in : {E S A : Type 0} → Stmt-F E S A → List (Declarator E)
declarators_in (Stmt-F.Declare site kind ds) = ds
declarators_in _ = []

abbrev pub declared_layer : ℕ → DeclarationKind → List (Declarator Expr) →
    Stmt-F (Expr × Meaning) (Stmt × Meaning) (Arm × Arms)
declared_layer site kind ds =
    map-Stmt Expr Stmt Arm (Expr × Meaning) (Stmt × Meaning) (Arm × Arms) with_expr with_stmt with_arm (Stmt-F.Declare site kind ds)

declarators_map : (site : ℕ) (kind : DeclarationKind) (ds : List (Declarator Expr)) →
    declarators_in (declared_layer site kind ds) ≡ map declarator_with ds
unfolding declarators_in
declarators_map site kind [] = refl
declarators_map site kind (d ∷ ds) =
    declarators_first site kind d.name d.value ds ∙ ap (λ ts. declarator_with d ∷ ts) (declarators_map site kind ds)
  where
    declarators_first : (site : ℕ) (kind : DeclarationKind) (name : Identifier) (value : Option Expr) (ds : List (Declarator Expr)) → declarators_in (declared_layer site kind (record { name = name; value = value } ∷ ds)) ≡ record { name = name; value = option_map with_expr value } ∷ declarators_in (declared_layer site kind ds)
    declarators_first site kind name None ds = refl
    declarators_first site kind name (Some e) ds = refl

pub declare_opens : (site : ℕ) (kind : DeclarationKind) (ds : List (Declarator Expr)) →
    stmt (roll-Stmt (Stmt-F.Declare site kind ds)) ≡ of_stmt (Stmt-F.Declare site kind (map declarator_with ds))
unfolding declarators_in
declare_opens site kind ds = opens_stmt (Stmt-F.Declare site kind ds)
    ∙ ap {B = Meaning} (λ ts. of_stmt (Stmt-F.Declare site kind ts)) (declarators_map site kind ds)

pub declare_is : (site : ℕ) (kind : DeclarationKind) (ds : List KnownDeclarator) →
    stmt (roll-Stmt (Stmt-F.Declare site kind (declarator_trees ds))) ≡ of_stmt (Stmt-F.Declare site kind (declarator_pairs ds))
declare_is site kind ds = declare_opens site kind (declarator_trees ds)
    ∙ ap {B = Meaning} (λ ts. of_stmt (Stmt-F.Declare site kind ts)) (same_declarators ds)

abbrev pub declare_ : ℕ → DeclarationKind → List KnownDeclarator → KnownStmt
declare_ site kind ds =
    record { layer = Stmt-F.Declare site kind (declarator_trees ds); does = of_stmt (Stmt-F.Declare site kind (declarator_pairs ds)); is = declare_is site kind ds }
