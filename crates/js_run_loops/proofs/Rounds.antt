-- for-of: its begin, and its next item.
use Rattle.std.proofs.Common.{◌≡◌, ℕ, suc, ◌+◌, Bool, Option, Some, None, refl, sym, ap, ◌∙◌}
use Rattle.std.specs.Option.{option_map}
use Rattle.term_table.specs.declared.shadow.Shadow.{Shadow}
use Rattle.term_table.specs.Views.{View, at}
use Rattle.js_ast.specs.declared.operators.DeclarationKind.{DeclarationKind}
use Rattle.js_ast.specs.declared.parts.Identifier.{Identifier}
use Rattle.js_ast.specs.declared.expression.Expr.{Expr}
use Rattle.js_ast.specs.declared.statement.Stmt.{Stmt}
use Rattle.js_ast.specs.declared.statement.Stmt.TheVariants as s
use Rattle.js_meaning.specs.Values.{Value, Scope, Place}
use Rattle.js_meaning.specs.Running.{Outcome, normal, done, bind, on_value, count, turn}
use Rattle.js_meaning.specs.Builtins.{Calls}
use Rattle.js_meaning.specs.Blocks.{declaration, is_let}
use Rattle.js_meaning.specs.Names.{open_cell}
use Rattle.js_meaning.specs.Loops.{after_body, item_at, of_loop, of_start}
use Rattle.js_meaning.specs.Meaning.{expr, stmt}
use Rattle.js_state.specs.Held.{scope_of}
use Rattle.js_frames.specs.declared.loops.OfLoop.{OfLoop}
use Rattle.js_frames.specs.Machine.{Fuel, calling, of_on}
use Rattle.js_frames.proofs.Statements.{stmt_ForOf}

-- the begin, over any flag that says whether the name may be assigned
pub of_begins : (site : ℕ) (kind : DeclarationKind) (name : Identifier) (items : Expr) (body : Stmt) (calls : Calls) (k : ℕ) (scope : Scope) (st : Place) (m : Bool) → m ≡ is_let kind →
    stmt (s.ForOf site kind name items body) calls k scope st ≡ count site st (λ st. open_cell name.site name.name m None scope st (λ inner st. bind (expr items calls k inner st) (on_value (of_start site (λ o. of_loop (suc k) site (declaration m name) (stmt body calls) o 0 scope)))))
of_begins site kind name items body calls k scope st m e = rw (stmt_ForOf, e) refl

pub of_ends : (w : Fuel) (l : OfLoop) (i : ℕ) (st : Place) → item_at st.objects l.object i ≡ None → of_on w (suc w.loops) l i st ≡ done st normal
of_ends w l i st e = rw e refl

-- with an item: the turn, the binding, and the body
abbrev of_round : Fuel → OfLoop → ℕ → Value → Place → Outcome
of_round w l i x st =
    turn l.site st (λ st. open_cell l.name.now.site l.name.now.name l.is_mutable (Some x) (scope_of l.scope) st (λ inner st.
    bind (stmt l.body.now (calling w) w.loops inner st) (after_body (of_on w w.loops l (i + 1)))))

pub of_goes : (w : Fuel) (l : OfLoop) (i : ℕ) (x : Value) (st : Place) → item_at st.objects l.object i ≡ Some x → of_on w (suc w.loops) l i st ≡ of_round w l i x st
of_goes w l i x st e = rw e refl

-- what was found at a place, as a view sees it
pub found_as : (view : View) (o p : Option Shadow) (x : Option Value) → option_map (at view) o ≡ x → o ≡ p → x ≡ option_map (at view) p
found_as view o p x f e = sym f ∙ ap (option_map (at view)) e
