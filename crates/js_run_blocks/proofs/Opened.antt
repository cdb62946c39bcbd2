-- Names that are opened one after the other.
use Rattle.std.proofs.Common.{◌≡◌, ℕ, Bool, List, [], ◌∷◌, ◌++◌, None, Result, refl, ap, ◌∙◌, sym}
use Rattle.js_ast.specs.declared.expression.Expr.{Expr}
use Rattle.js_ast.specs.declared.expression.Expr.TheOpen.{Stmt-F}
use Rattle.js_ast.specs.declared.statement.Arm.{Arm}
use Rattle.js_ast.specs.declared.statement.Stmt.{Stmt, roll-Stmt, out-Stmt, out-roll-Stmt, roll-out-Stmt}
use Rattle.js_ast.specs.declared.statement.Stmt.TheVariants as s
use Rattle.js_ast.specs.declared.operators.DeclarationKind.{DeclarationKind}
use Rattle.js_ast.specs.declared.parts.Declarator.{Declarator}
use Rattle.js_ast.specs.declared.parts.Identifier.{Identifier}
use Rattle.term_table.specs.Views.{View}
use Rattle.js_meaning.specs.Values.{Scope, Place}
use Rattle.js_meaning.specs.Running.{Outcome}
use Rattle.js_meaning.specs.Names.{open_cell}
use Rattle.js_meaning.specs.Blocks.{Declaration, is_let, declared_of, declared_by, open_names}
use Rattle.js_state.specs.declared.closure.Scope.{Scope as Around}
use Rattle.js_state.specs.declared.completion.Completion.{Completion}
use Rattle.js_state.specs.Held.{scope_of, Contents}
use Rattle.js_state.specs.Seen.{place_of, MatchResult}

-- one name, before the others
pub opens_one : (view : View) (kind : DeclarationKind) (first : Declarator Expr) (rest : List (Declarator Expr)) (is_mutable : Bool) (scope : Around) (old new : Contents) (o : Result Around Completion) (go : Scope → Place → Outcome) →
    is_mutable ≡ is_let kind →
    ((go : Scope → Place → Outcome) → open_cell first.name.site first.name.name is_mutable None (scope_of scope) (place_of view old) go ≡ MatchResult view scope_of o (place_of view new) go) →
    open_names (declared_of kind (first ∷ rest)) (scope_of scope) (place_of view old) go ≡ MatchResult view scope_of o (place_of view new) (λ scope st. open_names (declared_of kind rest) scope st go)
opens_one view kind first rest is_mutable scope old new o go e h =
    ap {B = Outcome} (λ (b : Bool). open_cell first.name.site first.name.name b None (scope_of scope) (place_of view old) (λ scope st. open_names (declared_of kind rest) scope st go)) (sym e)
    ∙ h (λ scope st. open_names (declared_of kind rest) scope st go)

pub opens_both : (xs ys : List Declaration) (scope : Scope) (st : Place) (go : Scope → Place → Outcome) →
    open_names (xs ++ ys) scope st go ≡ open_names xs scope st (λ scope st. open_names ys scope st go)
opens_both [] ys scope st go = refl
opens_both (x ∷ xs) ys scope st go =
    ap (open_cell x.site x.name x.is_mutable None scope st) (λ i scope st. opens_both xs ys scope st go i)

-- ---- what a statement declares

pub out_Declare : (site : ℕ) (kind : DeclarationKind) (ds : List (Declarator Expr)) → out-Stmt (s.Declare site kind ds) ≡ Stmt-F.Declare site kind ds
out_Declare site kind ds = ap out-Stmt (sym (s.rolls-Declare site kind ds)) ∙ out-roll-Stmt (Stmt-F.Declare site kind ds)

pub out_Function : (site : ℕ) (name : Identifier) (ps : List Identifier) (body : List Stmt) → out-Stmt (s.Function site name ps body) ≡ Stmt-F.Function site name ps body
out_Function site name ps body = ap out-Stmt (sym (s.rolls-Function site name ps body)) ∙ out-roll-Stmt (Stmt-F.Function site name ps body)

layer_nothing : (f : Stmt-F Expr Stmt Arm) →
    ((site : ℕ) (kind : DeclarationKind) (ds : List (Declarator Expr)) → f ≡ Stmt-F.Declare site kind ds → ⊥) →
    ((site : ℕ) (name : Identifier) (ps : List Identifier) (body : List Stmt) → f ≡ Stmt-F.Function site name ps body → ⊥) →
    declared_by f ≡ []
layer_nothing (Stmt-F.Block site body) n m = refl
layer_nothing (Stmt-F.Nothing site) n m = refl
layer_nothing (Stmt-F.Declare site kind ds) n m = absurd (n site kind ds refl)
layer_nothing (Stmt-F.Function site name ps body) n m = absurd (m site name ps body refl)
layer_nothing (Stmt-F.Express site value) n m = refl
layer_nothing (Stmt-F.If arms alternate) n m = refl
layer_nothing (Stmt-F.While site test body) n m = refl
layer_nothing (Stmt-F.Do site body test_site test) n m = refl
layer_nothing (Stmt-F.For site head test update body) n m = refl
layer_nothing (Stmt-F.ForOf site kind name items body) n m = refl
layer_nothing (Stmt-F.Break site) n m = refl
layer_nothing (Stmt-F.Continue site) n m = refl
layer_nothing (Stmt-F.Return site value) n m = refl
layer_nothing (Stmt-F.Throw site value) n m = refl
layer_nothing (Stmt-F.Try site body catch finally) n m = refl

-- any other statement declares nothing
pub declares_nothing : (x : Stmt) →
    ((site : ℕ) (kind : DeclarationKind) (ds : List (Declarator Expr)) → x ≡ s.Declare site kind ds → ⊥) →
    ((site : ℕ) (name : Identifier) (ps : List Identifier) (body : List Stmt) → x ≡ s.Function site name ps body → ⊥) →
    declared_by (out-Stmt x) ≡ []
declares_nothing x n m =
    layer_nothing (out-Stmt x)
    (λ site kind ds e. n site kind ds (sym (roll-out-Stmt x) ∙ ap roll-Stmt e ∙ s.rolls-Declare site kind ds))
    (λ site name ps body e. m site name ps body (sym (roll-out-Stmt x) ∙ ap roll-Stmt e ∙ s.rolls-Function site name ps body))
