-- Functions that are made one after the other, and statements that run so.
use Rattle.std.proofs.Common.{◌≡◌, ◌≤◌, ◌<◌, ℕ, List, [], ◌∷◌, length, get_or, false, refl, ap, subst, ◌∙◌, sym, arith}
use Rattle.std.proofs.lemmas.List.{append-nil}
use Rattle.js_ast.specs.declared.expression.Expr.{Expr}
use Rattle.js_ast.specs.declared.expression.Expr.TheOpen.{Stmt-F}
use Rattle.js_ast.specs.declared.statement.Arm.{Arm}
use Rattle.js_ast.specs.declared.statement.Stmt.{Stmt, roll-Stmt, out-Stmt, roll-out-Stmt}
use Rattle.js_ast.specs.declared.statement.Stmt.TheVariants as s
use Rattle.js_ast.specs.declared.parts.Identifier.{Identifier}
use Rattle.js_meaning.specs.Values.{Scope, Place}
use Rattle.js_meaning.specs.Running.{Outcome, Completion as Ending, given, refers, normal, breaks, continues, returns, throws, stops, done, bind, on_normal}
use Rattle.js_meaning.specs.Builtins.{Calls}
use Rattle.js_meaning.specs.Blocks.{start_function, run_all}
use Rattle.js_meaning.specs.Meaning.{stmt, stmts}
use Rattle.js_meaning.specs.Parts.{Meaning}
use Rattle.js_frames.specs.Idle.{is_idle, FirstCounts}

layer_starts : (f : Stmt-F Expr Stmt Arm) (scope : Scope) (st : Place) (go : Place → Outcome) →
    ((site : ℕ) (name : Identifier) (ps : List Identifier) (body : List Stmt) → f ≡ Stmt-F.Function site name ps body → ⊥) →
    start_function f scope st go ≡ go st
layer_starts (Stmt-F.Block site body) scope st go n = refl
layer_starts (Stmt-F.Nothing site) scope st go n = refl
layer_starts (Stmt-F.Declare site kind ds) scope st go n = refl
layer_starts (Stmt-F.Function site name ps body) scope st go n = absurd (n site name ps body refl)
layer_starts (Stmt-F.Express site value) scope st go n = refl
layer_starts (Stmt-F.If arms alternate) scope st go n = refl
layer_starts (Stmt-F.While site test body) scope st go n = refl
layer_starts (Stmt-F.Do site body test_site test) scope st go n = refl
layer_starts (Stmt-F.For site head test update body) scope st go n = refl
layer_starts (Stmt-F.ForOf site kind name items body) scope st go n = refl
layer_starts (Stmt-F.Break site) scope st go n = refl
layer_starts (Stmt-F.Continue site) scope st go n = refl
layer_starts (Stmt-F.Return site value) scope st go n = refl
layer_starts (Stmt-F.Throw site value) scope st go n = refl
layer_starts (Stmt-F.Try site body catch finally) scope st go n = refl

-- any other statement makes no function
pub starts_nothing : (x : Stmt) (scope : Scope) (st : Place) (go : Place → Outcome) →
    ((site : ℕ) (name : Identifier) (ps : List Identifier) (body : List Stmt) → x ≡ s.Function site name ps body → ⊥) →
    start_function (out-Stmt x) scope st go ≡ go st
starts_nothing x scope st go n =
    layer_starts (out-Stmt x) scope st go
    (λ site name ps body e. n site name ps body (sym (roll-out-Stmt x) ∙ ap roll-Stmt e ∙ s.rolls-Function site name ps body))

-- ---- statements one after the other

pub list_one : (xs : List Stmt) (x : Stmt) → 1 ≤ length xs → length xs < 2 → x ≡ get_or xs 0 x → xs ≡ x ∷ []
list_one [] x l m e = absurd (omega (arith, l))
list_one (y ∷ []) x l m e = ap (λ z. z ∷ []) (sym e)
list_one (y ∷ z ∷ ys) x l m e = absurd (omega (arith, m))

pub run_none : run_all (stmts []) ≡ run_all []
unfolding stmts
run_none = refl

pub run_more : (x : Stmt) (xs : List Stmt) (calls : Calls) (k : ℕ) (scope : Scope) (st : Place) →
    run_all (stmts (x ∷ xs)) calls k scope st ≡ bind (stmt x calls k scope st) (on_normal (run_all (stmts xs) calls k scope))
unfolding stmts
run_more x xs calls k scope st = refl

ends_as : (st : Place) (e : Ending) → on_normal (λ st. done st normal) st e ≡ done st e
ends_as st (given x) = refl
ends_as st (refers r) = refl
ends_as st normal = refl
ends_as st breaks = refl
ends_as st continues = refl
ends_as st (returns x) = refl
ends_as st (throws site x) = refl
ends_as st (stops end) = refl

bind_done : (r : Outcome) → bind r (λ st e. done st e) ≡ r
bind_done r = ap {B = Outcome} (λ items. (items, r.1)) (append-nil r.0)

-- behind the last statement nothing waits
pub run_last : (x : Stmt) (calls : Calls) (k : ℕ) (scope : Scope) (st : Place) → run_all (stmts (x ∷ [])) calls k scope st ≡ stmt x calls k scope st
unfolding stmts
run_last x calls k scope st =
    ap {B = Outcome} (bind (stmt x calls k scope st)) (λ i st e. ends_as st e i) ∙ bind_done (stmt x calls k scope st)

-- a statement that does nothing is passed over
pub run_skips : (x : Stmt) (xs : List Stmt) (calls : Calls) (k : ℕ) (scope : Scope) (st : Place) → stmt x ≡ (λ calls k scope st. done st normal) →
    run_all (stmts xs) calls k scope st ≡ run_all (stmts (x ∷ xs)) calls k scope st
run_skips x xs calls k scope st e =
    sym (run_more x xs calls k scope st ∙ ap {B = Outcome} (λ (m : Meaning). bind (m calls k scope st) (on_normal (run_all (stmts xs) calls k scope))) e)

pub first_counts : (xs : List Stmt) (x : Stmt) (ys : List Stmt) → xs ≡ x ∷ ys → FirstCounts xs → is_idle x ≡ false
first_counts xs x ys e h = subst FirstCounts e h
