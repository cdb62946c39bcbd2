-- Statements keep exits apart, one layer at a time: the places of what stands below are given.
use Rattle.std.proofs.Common.{ℕ, ◌≡◌, ◌≤◌, ◌<◌, Bool, true, false, List, [], ◌∷◌, map, Option, Some, None, option_map, refl, ap, sym, subst, ◌∙◌, arith}
use Rattle.js_ast.specs.declared.expression.Expr.{Expr}
use Rattle.js_ast.specs.declared.expression.Expr.TheOpen.{Stmt-F}
use Rattle.js_ast.specs.declared.statement.Stmt.{Stmt, roll-Stmt, out-Stmt, out-roll-Stmt}
use Rattle.js_ast.specs.declared.statement.Stmt.TheVariants as s
use Rattle.js_ast.specs.declared.statement.Arm.{Arm, roll-out-Arm}
use Rattle.js_ast.specs.declared.operators.DeclarationKind.{DeclarationKind}
use Rattle.js_ast.specs.declared.parts.Declarator.{Declarator}
use Rattle.js_ast.specs.declared.parts.Identifier.{Identifier}
use Rattle.js_ast.specs.declared.parts.LoopHead.{LoopHead}
use Rattle.js_ast.specs.declared.parts.Catch.{Catch}
use Rattle.js_meaning.specs.Values.{Value, undefined, Scope, Place}
use Rattle.js_meaning.specs.Running.{Completion, normal, breaks, continues, returns, throws, Outcome, done, bind, on_value}
use Rattle.js_meaning.specs.Builtins.{Calls}
use Rattle.js_meaning.specs.Parts.{Meaning, branch}
use Rattle.js_meaning.specs.Blocks.{declaration, is_let, declared_of, declared_by, block}
use Rattle.js_meaning.specs.Meaning.{Arms, meaning_of, block_of, chosen, optional, of_arm, all_arms, in_stmt, of_stmt, expr, stmt, stmts, arm}
use Rattle.js_meaning.specs.Nodes.{stmt_node, count_at}
use Rattle.js_meaning.specs.Apart.{Sites, nowhere}
use Rattle.js_meaning.proofs.Opens.{with_expr, with_stmt, with_arm, opens_stmt, opens_arm}
use Rattle.js_meaning.proofs.KnownStatements.{trees_with, meanings_with, declarator_with, declare_opens}
use Rattle.js_meaning.proofs.KnownForms.{arm_layer, head_with, for_opens, catch_with, try_opens}
use Rattle.js_ends.proofs.Fresh.{moment, EndFrom, Waits, SpeltStatements, Stands, Fresh, fresh_wider}
use Rattle.js_ends.proofs.Forms.{done_fresh, count_fresh}
use Rattle.js_ends.proofs.Binds.{Within, Steps, branch_fresh}
use Rattle.js_ends.proofs.Lists.{CallsFresh, Part, within, part_value}
use Rattle.js_ends.proofs.Blocks.{Doing, NamesAt, FunctionAt, Doings, block_part, DeclaratorsIn, declarators_le, declare_fresh}
use Rattle.js_ends.proofs.Rounds.{while_part, do_part, OptionIn, HeadIn, for_part, of_part}
use Rattle.js_ends.proofs.Tries.{CatchIn, FinallyIn, try_part}

-- ---- one layer

counted : (lo hi d : ℕ) (o : Option ℕ) (st : Place) (go : Place → Outcome) → Stands d st →
    Steps nowhere (Within lo hi) (Within lo hi) d go →
    Fresh nowhere (Within lo hi) (Within lo hi) d (moment st) (count_at o st go)
counted lo hi d None st go s k = k st s
counted lo hi d (Some site) st go s k = count_fresh nowhere (Within lo hi) (Within lo hi) d site st go s k

pub counted_part : {lo hi : ℕ} {m : Meaning} (o : Option ℕ) → Doing lo hi m →
    Doing lo hi (λ calls k scope st. count_at o st (m calls k scope))
counted_part {lo} {hi} {m} o h =
    record { le = h.le; good = λ calls c k scope d st s. counted lo hi d o st (m calls k scope) s (h.good calls c k scope d) }

pub stmt_layer : {lo hi : ℕ} (f : Stmt-F Expr Stmt Arm) (x : Stmt) (w : Stmt-F (Expr × Meaning) (Stmt × Meaning)
    (Arm × Arms)) → roll-Stmt f ≡ x → stmt (roll-Stmt f) ≡ of_stmt w → Doing lo hi (in_stmt w) → Doing lo hi (stmt x)
stmt_layer {lo} {hi} f x w p q h =
    subst (λ (x : Stmt). Doing lo hi (stmt x)) p (subst (λ (m : Meaning). Doing lo hi m) (sym q) (counted_part (stmt_node w) h))

-- a statement between two places, with what it declares
pub record StmtIn (lo hi : ℕ) (x : Stmt) : Type 0 where
  pub doing : Doing lo hi (stmt x)
  pub names : NamesAt (Within lo hi) (declared_by (out-Stmt x))
  pub function : FunctionAt (Within lo hi) (out-Stmt x)

pub stmt_in : {lo hi : ℕ} (f : Stmt-F Expr Stmt Arm) (x : Stmt) → roll-Stmt f ≡ x →
    NamesAt (Within lo hi) (declared_by f) → FunctionAt (Within lo hi) f → Doing lo hi (stmt x) → StmtIn lo hi x
stmt_in {lo} {hi} f x p n h d =
    let is : out-Stmt x ≡ f = ap out-Stmt (sym p) ∙ out-roll-Stmt f in
    record { doing = d; names = subst (λ f. NamesAt (Within lo hi) (declared_by f)) (sym is) n; function = subst (λ f. FunctionAt (Within lo hi) f) (sym is) h }

ends_so : (lo hi : ℕ) (c : Completion) {m : Meaning} → lo ≤ hi → ((F : Sites) (n : ℕ) → EndFrom F n c) →
    Waits nowhere c → ((calls : Calls) (k : ℕ) (scope : Scope) (st : Place) → m calls k scope st ≡ done st c) →
    Doing lo hi m
ends_so lo hi c l e w is =
    record { le = l; good = λ calls f k scope d st s. subst (λ r. Fresh nowhere (Within lo hi) (Within lo hi) d (moment st) r) (sym (is calls k scope st)) (done_fresh nowhere (Within lo hi) (Within lo hi) d st c s (e (Within lo hi) (moment st)) w) }

pub nothing_in : (lo hi site : ℕ) → lo ≤ hi → StmtIn lo hi (s.Nothing site)
nothing_in lo hi site l =
    stmt_in (Stmt-F.Nothing site) (s.Nothing site) (s.rolls-Nothing site) tt tt
    (stmt_layer (Stmt-F.Nothing site) (s.Nothing site) (Stmt-F.Nothing site) (s.rolls-Nothing site) (opens_stmt (Stmt-F.Nothing site)) (ends_so lo hi normal l (λ F n. tt) tt (λ calls k scope st. refl)))

pub break_in : (lo hi site : ℕ) → lo ≤ hi → StmtIn lo hi (s.Break site)
break_in lo hi site l =
    stmt_in (Stmt-F.Break site) (s.Break site) (s.rolls-Break site) tt tt
    (stmt_layer (Stmt-F.Break site) (s.Break site) (Stmt-F.Break site) (s.rolls-Break site) (opens_stmt (Stmt-F.Break site)) (ends_so lo hi breaks l (λ F n. tt) tt (λ calls k scope st. refl)))

pub continue_in : (lo hi site : ℕ) → lo ≤ hi → StmtIn lo hi (s.Continue site)
continue_in lo hi site l =
    stmt_in (Stmt-F.Continue site) (s.Continue site) (s.rolls-Continue site) tt tt
    (stmt_layer (Stmt-F.Continue site) (s.Continue site) (Stmt-F.Continue site) (s.rolls-Continue site) (opens_stmt (Stmt-F.Continue site)) (ends_so lo hi continues l (λ F n. tt) tt (λ calls k scope st. refl)))

-- ---- blocks and declarations

pub block_with : (lo hi : ℕ) (ss : List Stmt) → Doings lo hi ss (stmts ss) → Doing lo hi (block_of (map with_stmt ss))
block_with lo hi ss h =
    let is : block_of (map with_stmt ss) ≡ block ss (stmts ss) = ap {B = Meaning} (λ ts. block ts (map (λ p. p.1) (map with_stmt ss))) (trees_with ss) ∙ ap {B = Meaning} (λ ms. block ss ms) (meanings_with ss) in
    subst (λ (m : Meaning). Doing lo hi m) (sym is) (block_part lo hi ss (stmts ss) h)

pub block_in : (lo hi site : ℕ) (ss : List Stmt) → Doings lo hi ss (stmts ss) → StmtIn lo hi (s.Block site ss)
block_in lo hi site ss h =
    stmt_in (Stmt-F.Block site ss) (s.Block site ss) (s.rolls-Block site ss) tt tt
    (stmt_layer (Stmt-F.Block site ss) (s.Block site ss) (Stmt-F.Block site (map with_stmt ss)) (s.rolls-Block site ss) (opens_stmt (Stmt-F.Block site ss)) (block_with lo hi ss h))

same_declared : (o : DeclarationKind) (ds : List (Declarator Expr)) →
    declared_of o (map declarator_with ds) ≡ declared_of o ds
same_declared o [] = refl
same_declared o (x ∷ ds) = ap (λ ns. declaration (is_let o) x.name ∷ ns) (same_declared o ds)

pub declare_in : (lo hi site : ℕ) (o : DeclarationKind) (ds : List (Declarator Expr)) →
    NamesAt (Within lo hi) (declared_of o (map declarator_with ds)) →
    DeclaratorsIn meaning_of lo hi (map declarator_with ds) → StmtIn lo hi (s.Declare site o ds)
declare_in lo hi site o ds n h =
    stmt_in (Stmt-F.Declare site o ds) (s.Declare site o ds) (s.rolls-Declare site o ds) (subst (NamesAt (Within lo hi)) (same_declared o ds) n) tt
    (stmt_layer (Stmt-F.Declare site o ds) (s.Declare site o ds) (Stmt-F.Declare site o (map declarator_with ds)) (s.rolls-Declare site o ds) (declare_opens site o ds) (record {
      le = declarators_le meaning_of lo hi (map declarator_with ds) h;
      good = λ calls c k scope d st s. fresh_wider nowhere (Within lo hi) (Within lo hi) (λ n w h. h) (λ n w h. h) (λ n w h. h.0) (declare_fresh meaning_of lo hi (map declarator_with ds) h calls c k scope d st s);
    }))

pub function_in : (lo hi site : ℕ) (name : Identifier) (parameters : List Identifier) (body : List Stmt) → lo ≤ site →
    site < hi → lo ≤ name.site → name.site < hi → SpeltStatements body →
    StmtIn lo hi (s.Function site name parameters body)
function_in lo hi site name parameters body l m nl nm h =
    stmt_in (Stmt-F.Function site name parameters body) (s.Function site name parameters body) (s.rolls-Function site name parameters body) ((nl, nm), tt) ((l, m), h)
    (stmt_layer (Stmt-F.Function site name parameters body) (s.Function site name parameters body) (Stmt-F.Function site name parameters (map with_stmt body)) (s.rolls-Function site name parameters body) (opens_stmt (Stmt-F.Function site name parameters body)) (ends_so lo hi normal (omega (arith, l, m)) (λ F n. tt) tt (λ calls k scope st. refl)))

-- ---- expressions as statements

value_then : (lo hi : ℕ) (x : Expr) (c : Value → Completion) {m : Meaning} → Part lo hi (expr x) →
    ((v : Value) (F : Sites) (n : ℕ) → EndFrom F n (c v)) → ((v : Value) → Waits nowhere (c v)) →
    ((calls : Calls) (k : ℕ) (scope : Scope) (st : Place) →
    m calls k scope st ≡ bind (expr x calls k scope st) (on_value (λ v st. done st (c v)))) → Doing lo hi m
value_then lo hi x c p e w is =
    record {
      le = p.le;
      good = λ calls f k scope d st s. subst (λ r. Fresh nowhere (Within lo hi) (Within lo hi) d (moment st) r) (sym (is calls k scope st))
          (part_value p nowhere nowhere nowhere (Within lo hi) (Within lo hi) calls f k scope d st (λ v st. done st (c v)) (λ n w h. h) (λ n w h. absurd h) (λ n w h. h) (λ n w h. absurd h) (λ n w h g. g) s
          (λ v st s. done_fresh nowhere nowhere nowhere d st (c v) s (e v nowhere (moment st)) (w v)));
    }

pub express_in : (lo hi site : ℕ) (x : Expr) → Part lo hi (expr x) → StmtIn lo hi (s.Express site x)
express_in lo hi site x p =
    stmt_in (Stmt-F.Express site x) (s.Express site x) (s.rolls-Express site x) tt tt
    (stmt_layer (Stmt-F.Express site x) (s.Express site x) (Stmt-F.Express site (with_expr x)) (s.rolls-Express site x) (opens_stmt (Stmt-F.Express site x)) (value_then lo hi x (λ v. normal) p (λ v F n. tt) (λ v. tt) (λ calls k scope st. refl)))

pub return_in : (lo hi site : ℕ) → lo ≤ hi → StmtIn lo hi (s.Return site None)
return_in lo hi site l =
    stmt_in (Stmt-F.Return site None) (s.Return site None) (s.rolls-Return site None) tt tt
    (stmt_layer (Stmt-F.Return site None) (s.Return site None) (Stmt-F.Return site None) (s.rolls-Return site None) (opens_stmt (Stmt-F.Return site None)) (ends_so lo hi (returns undefined) l (λ F n. tt) tt (λ calls k scope st. refl)))

pub return_value_in : (lo hi site : ℕ) (x : Expr) → Part lo hi (expr x) → StmtIn lo hi (s.Return site (Some x))
return_value_in lo hi site x p =
    stmt_in (Stmt-F.Return site (Some x)) (s.Return site (Some x)) (s.rolls-Return site (Some x)) tt tt
    (stmt_layer (Stmt-F.Return site (Some x)) (s.Return site (Some x)) (Stmt-F.Return site (Some (with_expr x))) (s.rolls-Return site (Some x)) (opens_stmt (Stmt-F.Return site (Some x))) (value_then lo hi x returns p (λ v F n. tt) (λ v. tt) (λ calls k scope st. refl)))

pub throw_in : (lo hi site : ℕ) (x : Expr) → Part lo hi (expr x) → StmtIn lo hi (s.Throw site x)
throw_in lo hi site x p =
    stmt_in (Stmt-F.Throw site x) (s.Throw site x) (s.rolls-Throw site x) tt tt
    (stmt_layer (Stmt-F.Throw site x) (s.Throw site x) (Stmt-F.Throw site (with_expr x)) (s.rolls-Throw site x) (opens_stmt (Stmt-F.Throw site x)) (value_then lo hi x (throws site) p (λ v F n. tt) (λ v. tt) (λ calls k scope st. refl)))

-- ---- `if`

arm_opens : (site : ℕ) (x : Expr) (y : Stmt) →
    arm (record { site = site; test = x; consequent = y }) ≡ of_arm (arm_layer site (with_expr x) (with_stmt y))
arm_opens site x y =
    ap {B = Arms} arm (sym (roll-out-Arm (record { site = site; test = x; consequent = y }))) ∙ opens_arm (arm_layer site x y)

arm_fresh : (lo mid low hi site : ℕ) (x : Expr) (y : Stmt) (rest : Meaning) → Part lo mid (expr x) →
    Doing mid low (stmt y) → Doing low hi rest →
    Doing lo hi (of_arm (arm_layer site (with_expr x) (with_stmt y)) rest)
arm_fresh lo mid low hi site x y rest p q r =
    record {
      le = omega (arith, p.le, q.le, r.le);
      good = λ calls c k scope d st s. count_fresh nowhere (Within lo hi) (Within lo hi) d site st (λ st. bind (expr x calls k scope st) (on_value (λ v st. branch site v st (λ holds. chosen holds (stmt y) rest calls k scope)))) s
          (λ st s. part_value p nowhere (Within mid hi) (Within mid hi) (Within lo hi) (Within lo hi) calls c k scope d st (λ v st. branch site v st (λ holds. chosen holds (stmt y) rest calls k scope))
          (within (omega arith) (omega (arith, q.le, r.le))) (within p.le (omega arith)) (within (omega arith) (omega (arith, q.le, r.le))) (within p.le (omega arith)) (λ n w i j. omega (arith, i.1, j.0)) s
          (λ v st s. branch_fresh nowhere (Within mid hi) (Within mid hi) d site v st (λ holds. chosen holds (stmt y) rest calls k scope) s (choose calls c k scope d)));
    }
  where
    choose : (calls : Calls) → CallsFresh calls → (k : ℕ) (scope : Scope) (d : ℕ) (holds : Bool) → Steps nowhere (Within mid hi) (Within mid hi) d (chosen holds (stmt y) rest calls k scope)
    choose calls c k scope d true st s = fresh_wider nowhere (Within mid hi) (Within mid hi) (λ n w h. h) (within (omega arith) r.le) (within (omega arith) r.le) (q.good calls c k scope d st s)
    choose calls c k scope d false st s = fresh_wider nowhere (Within mid hi) (Within mid hi) (λ n w h. h) (within q.le (omega arith)) (within q.le (omega arith)) (r.good calls c k scope d st s)

-- the arms between two places, with what stands behind a last `else`
abbrev pub IfIn : ℕ → ℕ → List Arm → Option Stmt → Type 0
IfIn lo hi arms alternate = Doing lo hi (all_arms (map with_arm arms) (optional (option_map with_stmt alternate)))

pub arm_more : (lo mid low hi site : ℕ) (x : Expr) (y : Stmt) (arms : List Arm) (alternate : Option Stmt) →
    Part lo mid (expr x) → Doing mid low (stmt y) → IfIn low hi arms alternate →
    IfIn lo hi (record { site = site; test = x; consequent = y } ∷ arms) alternate
arm_more lo mid low hi site x y arms alternate p q r =
    subst (λ (m : Arms). Doing lo hi (m (all_arms (map with_arm arms) (optional (option_map with_stmt alternate))))) (sym (arm_opens site x y)) (arm_fresh lo mid low hi site x y (all_arms (map with_arm arms) (optional (option_map with_stmt alternate))) p q r)

pub no_else : (lo hi : ℕ) → lo ≤ hi → IfIn lo hi [] None
no_else lo hi l = ends_so lo hi normal l (λ F n. tt) tt (λ calls k scope st. refl)

pub last_else : (lo hi : ℕ) (x : Stmt) → Doing lo hi (stmt x) → IfIn lo hi [] (Some x)
last_else lo hi x h = record { le = h.le; good = λ calls c k scope d st s. h.good calls c k scope d st s }

pub if_in : (lo hi : ℕ) (arms : List Arm) (alternate : Option Stmt) → IfIn lo hi arms alternate →
    StmtIn lo hi (s.If arms alternate)
if_in lo hi arms None h =
    stmt_in (Stmt-F.If arms None) (s.If arms None) (s.rolls-If arms None) tt tt
    (stmt_layer (Stmt-F.If arms None) (s.If arms None) (Stmt-F.If (map with_arm arms) None) (s.rolls-If arms None) (opens_stmt (Stmt-F.If arms None)) h)
if_in lo hi arms (Some x) h =
    stmt_in (Stmt-F.If arms (Some x)) (s.If arms (Some x)) (s.rolls-If arms (Some x)) tt tt
    (stmt_layer (Stmt-F.If arms (Some x)) (s.If arms (Some x)) (Stmt-F.If (map with_arm arms) (Some (with_stmt x))) (s.rolls-If arms (Some x)) (opens_stmt (Stmt-F.If arms (Some x))) h)

-- ---- loops

pub while_in : (lo mid hi site : ℕ) (x : Expr) (y : Stmt) → Part lo mid (expr x) → Doing mid hi (stmt y) →
    StmtIn lo hi (s.While site x y)
while_in lo mid hi site x y p q =
    stmt_in (Stmt-F.While site x y) (s.While site x y) (s.rolls-While site x y) tt tt
    (stmt_layer (Stmt-F.While site x y) (s.While site x y) (Stmt-F.While site (with_expr x) (with_stmt y)) (s.rolls-While site x y) (opens_stmt (Stmt-F.While site x y)) (while_part lo mid hi site (expr x) (stmt y) p q (λ calls k scope st. refl)))

pub do_in : (lo mid hi site test_site : ℕ) (y : Stmt) (x : Expr) → Doing lo mid (stmt y) → Part mid hi (expr x) →
    StmtIn lo hi (s.Do site y test_site x)
do_in lo mid hi site test_site y x q p =
    stmt_in (Stmt-F.Do site y test_site x) (s.Do site y test_site x) (s.rolls-Do site y test_site x) tt tt
    (stmt_layer (Stmt-F.Do site y test_site x) (s.Do site y test_site x) (Stmt-F.Do site (with_stmt y) test_site (with_expr x)) (s.rolls-Do site y test_site x) (opens_stmt (Stmt-F.Do site y test_site x)) (do_part lo mid hi site test_site (expr x) (stmt y) q p (λ calls k scope st. refl)))

pub for_in : (h0 t0 t1 u1 b1 site : ℕ) (h : LoopHead Expr) (t u : Option Expr) (y : Stmt) → h0 ≤ b1 →
    HeadIn h0 t0 (head_with h) → OptionIn t0 t1 (option_map with_expr t) → OptionIn t1 u1 (option_map with_expr u) →
    Doing u1 b1 (stmt y) → StmtIn h0 b1 (s.For site h t u y)
for_in h0 t0 t1 u1 b1 site h t u y l i j o q =
    stmt_in (Stmt-F.For site h t u y) (s.For site h t u y) (s.rolls-For site h t u y) tt tt
    (stmt_layer (Stmt-F.For site h t u y) (s.For site h t u y) (Stmt-F.For site (head_with h) (option_map with_expr t) (option_map with_expr u) (with_stmt y)) (s.rolls-For site h t u y) (for_opens site h t u y)
    (for_part h0 t0 t1 u1 b1 site (head_with h) (option_map with_expr t) (option_map with_expr u) (stmt y) l i j o q (λ calls k scope st. refl)))

pub for_of_in : (site lo mid hi : ℕ) (o : DeclarationKind) (name : Identifier) (x : Expr) (y : Stmt) → site ≤ name.site →
    name.site < lo → Part lo mid (expr x) → Doing mid hi (stmt y) → StmtIn site hi (s.ForOf site o name x y)
for_of_in site lo mid hi o name x y l m p q =
    stmt_in (Stmt-F.ForOf site o name x y) (s.ForOf site o name x y) (s.rolls-ForOf site o name x y) tt tt
    (stmt_layer (Stmt-F.ForOf site o name x y) (s.ForOf site o name x y) (Stmt-F.ForOf site o name (with_expr x) (with_stmt y)) (s.rolls-ForOf site o name x y) (opens_stmt (Stmt-F.ForOf site o name x y)) (of_part site lo mid hi (declaration (is_let o) name) (expr x) (stmt y) l m p q (λ calls k scope st. refl)))

-- ---- `try`

pub try_in : (b0 c0 f0 hi site : ℕ) (body : List Stmt) (catch : Option (Catch (List Stmt)))
    (last : Option (List Stmt)) → Doings b0 c0 body (stmts body) → CatchIn c0 f0 (option_map catch_with catch) →
    FinallyIn f0 hi (option_map (map with_stmt) last) → StmtIn b0 hi (s.Try site body catch last)
try_in b0 c0 f0 hi site body catch last b c f =
    stmt_in (Stmt-F.Try site body catch last) (s.Try site body catch last) (s.rolls-Try site body catch last) tt tt
    (subst (λ (x : Stmt). Doing b0 hi (stmt x)) (s.rolls-Try site body catch last) (subst (λ (m : Meaning). Doing b0 hi m) (sym (try_opens site body catch last))
    (counted_part (Some site) (try_part b0 c0 f0 hi (block_of (map with_stmt body)) (option_map catch_with catch) (option_map (map with_stmt) last) (block_with b0 c0 body b) c f (λ calls k scope st. refl)))))
