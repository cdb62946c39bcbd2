-- One layer of what a statement does, over the parts in it.
use Rattle.std.proofs.Common.{◌≡◌, ℕ, suc, List, [], ◌∷◌, map, Option, Some, None, refl, ap, ◌∙◌, sym}
use Rattle.std.specs.Option.{option_map}
use Rattle.js_ast.specs.declared.operators.DeclarationKind.{DeclarationKind}
use Rattle.js_ast.specs.declared.parts.Identifier.{Identifier}
use Rattle.js_ast.specs.declared.parts.Declarator.{Declarator}
use Rattle.js_ast.specs.declared.parts.LoopHead.{LoopHead}
use Rattle.js_ast.specs.declared.parts.LoopHead.TheVariants as head
use Rattle.js_ast.specs.declared.parts.Catch.{Catch}
use Rattle.js_ast.specs.declared.expression.Expr.{Expr}
use Rattle.js_ast.specs.declared.expression.Expr.TheOpen.{Stmt-F}
use Rattle.js_ast.specs.declared.statement.Stmt.{Stmt}
use Rattle.js_ast.specs.declared.statement.Stmt.TheVariants as s
use Rattle.js_ast.specs.declared.statement.Arm.{Arm, out-Arm, roll-out-Arm}
use Rattle.js_meaning.specs.Values.{Scope, Place}
use Rattle.js_meaning.specs.Running.{Outcome, bind, done, normal, on_value, count}
use Rattle.js_meaning.specs.Names.{init_name}
use Rattle.js_meaning.specs.Builtins.{Calls}
use Rattle.js_meaning.specs.Parts.{Meaning, branch}
use Rattle.js_meaning.specs.Blocks.{Declaration, declaration, is_let, declared_of, open_names, initial, declare, block}
use Rattle.js_meaning.specs.Loops.{Part, for_loop}
use Rattle.js_meaning.specs.Meaning.{Arms, meaning_of, block_of, chosen, optional, all_arms, perhaps, for_declared, for_head, caught, finished, of_stmt, expr, stmt, stmts, arm}
use Rattle.js_meaning.proofs.Opens.{with_expr, with_stmt, with_arm, opens_stmt, opens_arm}
use Rattle.js_meaning.proofs.KnownStatements.{trees_with, meanings_with, declarator_with, declare_opens}
use Rattle.js_meaning.proofs.KnownForms.{head_with, for_opens, catch_with, trying, try_opens}
use Rattle.js_frames.specs.Machine.{beside, catch_of, on_arms}
use Rattle.js_frames.proofs.Opens.{Counted}

-- ---- blocks and declarations

pub block_same : (ss : List Stmt) → block_of (map with_stmt ss) ≡ block ss (stmts ss)
block_same ss =
    ap {B = Meaning} (λ ts. block ts (map (λ (p : Stmt × Meaning). p.1) (map with_stmt ss))) (trees_with ss)
    ∙ ap {B = Meaning} (λ ms. block ss ms) (meanings_with ss)

initial_same : (o : Option Expr) → initial meaning_of (option_map with_expr o) ≡ initial expr o
initial_same None = refl
initial_same (Some x) = refl

declare_same : (ds : List (Declarator Expr)) → declare meaning_of (map declarator_with ds) ≡ declare expr ds
declare_same [] = refl
declare_same (d ∷ ds) =
    ap {B = Meaning} (λ (m : Meaning). λ calls k scope st. bind (m calls k scope st) (on_value
    (λ x st. declare meaning_of (map declarator_with ds) calls k scope (init_name d.name.name scope x st)))) (initial_same d.value)
    ∙ ap {B = Meaning} (λ (m : Meaning). λ calls k scope st. bind (initial expr d.value calls k scope st) (on_value
    (λ x st. m calls k scope (init_name d.name.name scope x st)))) (declare_same ds)

declared_same : (kind : DeclarationKind) (ds : List (Declarator Expr)) → declared_of kind (map declarator_with ds) ≡ declared_of kind ds
declared_same kind [] = refl
declared_same kind (d ∷ ds) = ap (λ ns. declaration (is_let kind) d.name ∷ ns) (declared_same kind ds)

-- ---- statements

pub stmt_Block : (site : ℕ) (ss : List Stmt) → stmt (s.Block site ss) ≡ (λ calls k scope st. count site st (λ st. block ss (stmts ss) calls k scope st))
stmt_Block site ss =
    ap stmt (sym (s.rolls-Block site ss)) ∙ opens_stmt (Stmt-F.Block site ss)
    ∙ ap {B = Counted} (λ (m : Meaning). λ calls k scope st. count site st (λ st. m calls k scope st)) (block_same ss)

pub stmt_Nothing : (site : ℕ) → stmt (s.Nothing site) ≡ of_stmt (Stmt-F.Nothing site)
stmt_Nothing site = ap stmt (sym (s.rolls-Nothing site)) ∙ opens_stmt (Stmt-F.Nothing site)

pub stmt_Declare : (site : ℕ) (kind : DeclarationKind) (ds : List (Declarator Expr)) → stmt (s.Declare site kind ds) ≡ (λ calls k scope st. count site st (λ st. declare expr ds calls k scope st))
stmt_Declare site kind ds =
    ap stmt (sym (s.rolls-Declare site kind ds)) ∙ declare_opens site kind ds
    ∙ ap {B = Counted} (λ (m : Meaning). λ calls k scope st. count site st (λ st. m calls k scope st)) (declare_same ds)

pub stmt_Function : (site : ℕ) (name : Identifier) (ps : List Identifier) (body : List Stmt) → stmt (s.Function site name ps body) ≡ (λ calls k scope st. count site st (λ st. done st normal))
stmt_Function site name ps body = ap stmt (sym (s.rolls-Function site name ps body)) ∙ opens_stmt (Stmt-F.Function site name ps body)

pub stmt_Express : (site : ℕ) (value : Expr) → stmt (s.Express site value) ≡ of_stmt (Stmt-F.Express site (with_expr value))
stmt_Express site value = ap stmt (sym (s.rolls-Express site value)) ∙ opens_stmt (Stmt-F.Express site value)

arms_same : (arms : List Arm) (rest : Meaning) → all_arms (map with_arm arms) rest ≡ on_arms arms rest
arms_same [] rest = refl
arms_same (a ∷ arms) rest = ap (arm a) (arms_same arms rest)

pub stmt_If : (arms : List Arm) (alternate : Option Stmt) → stmt (s.If arms alternate) ≡ on_arms arms (optional (option_map beside alternate))
stmt_If arms None = ap stmt (sym (s.rolls-If arms None)) ∙ opens_stmt (Stmt-F.If arms None) ∙ arms_same arms (optional None)
stmt_If arms (Some x) = ap stmt (sym (s.rolls-If arms (Some x))) ∙ opens_stmt (Stmt-F.If arms (Some x)) ∙ arms_same arms (optional (Some (beside x)))

abbrev pub on_arm : Arm → Arms
on_arm a rest calls k scope st =
    count (out-Arm a).site st (λ st. bind (expr (out-Arm a).test calls k scope st) (on_value (λ x st.
    branch (out-Arm a).site x st (λ holds st. chosen holds (stmt (out-Arm a).consequent) rest calls k scope st))))

pub arm_opens : (a : Arm) → arm a ≡ on_arm a
arm_opens a = ap arm (sym (roll-out-Arm a)) ∙ opens_arm (out-Arm a)

pub stmt_While : (site : ℕ) (test : Expr) (body : Stmt) → stmt (s.While site test body) ≡ of_stmt (Stmt-F.While site (with_expr test) (with_stmt body))
stmt_While site test body = ap stmt (sym (s.rolls-While site test body)) ∙ opens_stmt (Stmt-F.While site test body)

pub stmt_Do : (site : ℕ) (body : Stmt) (test_site : ℕ) (test : Expr) → stmt (s.Do site body test_site test) ≡ of_stmt (Stmt-F.Do site (with_stmt body) test_site (with_expr test))
stmt_Do site body test_site test = ap stmt (sym (s.rolls-Do site body test_site test)) ∙ opens_stmt (Stmt-F.Do site body test_site test)

-- ---- `for`

abbrev pub part_for : Calls → Option Expr → Option Part
part_for calls o = option_map (λ x. expr x calls) o

perhaps_same : (o : Option Expr) (calls : Calls) → perhaps calls (option_map with_expr o) ≡ part_for calls o
perhaps_same None calls = refl
perhaps_same (Some x) calls = refl

abbrev pub Heads : Type 0
Heads = Calls → ℕ → Scope → (List Declaration → Scope → Place → Outcome) → Place → Outcome

abbrev pub head_does : LoopHead Expr → Heads
head_does head.Nothing calls k scope go st = go [] scope st
head_does (head.Value e) calls k scope go st = bind (expr e calls k scope st) (on_value (λ x st. go [] scope st))
head_does (head.Declare kind ds) calls k outer go st =
    open_names (declared_of kind ds) outer st (λ scope st.
    bind (declare expr ds calls k scope st) (for_declared (is_let kind) (declared_of kind ds) outer scope go))

head_same : (h : LoopHead Expr) → for_head (head_with h) ≡ head_does h
head_same head.Nothing = refl
head_same (head.Value e) = refl
head_same (head.Declare kind ds) =
    ap {B = Heads} (λ (ns : List Declaration). λ calls k outer go st. open_names ns outer st (λ scope st.
    bind (declare meaning_of (map declarator_with ds) calls k scope st) (for_declared (is_let kind) ns outer scope go))) (declared_same kind ds)
    ∙ ap {B = Heads} (λ (m : Meaning). λ calls k outer go st. open_names (declared_of kind ds) outer st (λ scope st.
    bind (m calls k scope st) (for_declared (is_let kind) (declared_of kind ds) outer scope go))) (declare_same ds)

abbrev Loops : Type 0
Loops = Calls → Option Part

abbrev for_with : ℕ → Heads → Loops → Loops → Stmt → Meaning
for_with site h t u body calls k outer st =
    count site st (λ st. h calls k outer (λ names. for_loop (suc k) site names (t calls) (u calls) (stmt body calls) outer) st)

pub stmt_For : (site : ℕ) (h : LoopHead Expr) (t u : Option Expr) (body : Stmt) → stmt (s.For site h t u body) ≡
    (λ calls k outer st. count site st (λ st. head_does h calls k outer (λ names. for_loop (suc k) site names (part_for calls t) (part_for calls u) (stmt body calls) outer) st))
stmt_For site h t u body =
    ap stmt (sym (s.rolls-For site h t u body)) ∙ for_opens site h t u body
    ∙ ap {B = Meaning} (λ (g : Heads). for_with site g (λ calls. perhaps calls (option_map with_expr t)) (λ calls. perhaps calls (option_map with_expr u)) body) (head_same h)
    ∙ ap {B = Meaning} (λ (g : Loops). for_with site (head_does h) g (λ calls. perhaps calls (option_map with_expr u)) body) (λ i calls. perhaps_same t calls i)
    ∙ ap {B = Meaning} (λ (g : Loops). for_with site (head_does h) (λ calls. part_for calls t) g body) (λ i calls. perhaps_same u calls i)

pub stmt_ForOf : (site : ℕ) (kind : DeclarationKind) (name : Identifier) (items : Expr) (body : Stmt) → stmt (s.ForOf site kind name items body) ≡ of_stmt (Stmt-F.ForOf site kind name (with_expr items) (with_stmt body))
stmt_ForOf site kind name items body = ap stmt (sym (s.rolls-ForOf site kind name items body)) ∙ opens_stmt (Stmt-F.ForOf site kind name items body)

-- ---- abrupt statements

pub stmt_Break : (site : ℕ) → stmt (s.Break site) ≡ of_stmt (Stmt-F.Break site)
stmt_Break site = ap stmt (sym (s.rolls-Break site)) ∙ opens_stmt (Stmt-F.Break site)

pub stmt_Continue : (site : ℕ) → stmt (s.Continue site) ≡ of_stmt (Stmt-F.Continue site)
stmt_Continue site = ap stmt (sym (s.rolls-Continue site)) ∙ opens_stmt (Stmt-F.Continue site)

pub stmt_Return_None : (site : ℕ) → stmt (s.Return site None) ≡ of_stmt (Stmt-F.Return site None)
stmt_Return_None site = ap stmt (sym (s.rolls-Return site None)) ∙ opens_stmt (Stmt-F.Return site None)

pub stmt_Return_Some : (site : ℕ) (value : Expr) → stmt (s.Return site (Some value)) ≡ of_stmt (Stmt-F.Return site (Some (with_expr value)))
stmt_Return_Some site value = ap stmt (sym (s.rolls-Return site (Some value))) ∙ opens_stmt (Stmt-F.Return site (Some value))

pub stmt_Throw : (site : ℕ) (value : Expr) → stmt (s.Throw site value) ≡ of_stmt (Stmt-F.Throw site (with_expr value))
stmt_Throw site value = ap stmt (sym (s.rolls-Throw site value)) ∙ opens_stmt (Stmt-F.Throw site value)

pub stmt_Try : (site : ℕ) (body : List Stmt) (c : Option (Catch (List Stmt))) (f : Option (List Stmt)) → stmt (s.Try site body c f) ≡
    (λ calls k scope st. count site st (λ st. bind (bind (block body (stmts body) calls k scope st) (caught (option_map catch_of c) calls k scope)) (finished (option_map (map beside) f) calls k scope)))
stmt_Try site body c f =
    ap stmt (sym (s.rolls-Try site body c f)) ∙ try_opens site body c f
    ∙ ap {B = Meaning} (λ (m : Meaning). trying site m (caught (option_map catch_with c)) (finished (option_map (map with_stmt) f))) (block_same body)
