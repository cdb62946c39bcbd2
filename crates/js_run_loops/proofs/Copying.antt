-- Bindings that are copied for the next round of a `for`.
use Rattle.std.proofs.Common.{◌≡◌, ◌≤◌, true, List, [], ◌∷◌, length, Option, Result, refl, ap, ◌∙◌, sym, arith}
use Rattle.std.specs.Option.{option_map}
use Rattle.js_ast.specs.declared.expression.Expr.{Expr}
use Rattle.js_ast.specs.declared.operators.DeclarationKind.TheVariants.{Let}
use Rattle.js_ast.specs.declared.parts.Declarator.{Declarator}
use Rattle.term_table.specs.declared.shadow.Shadow.{Shadow}
use Rattle.term_table.specs.Views.{View, at}
use Rattle.js_meaning.specs.Values.{Value, Scope, Place}
use Rattle.js_meaning.specs.Running.{Outcome}
use Rattle.js_meaning.specs.Names.{open_cell}
use Rattle.js_meaning.specs.Blocks.{declared_of}
use Rattle.js_meaning.specs.Loops.{value_of, copy_cells, next_scope}
use Rattle.js_state.specs.declared.closure.Scope.{Scope as Around}
use Rattle.js_state.specs.declared.completion.Completion.{Completion}
use Rattle.js_state.specs.Held.{scope_of, Contents}
use Rattle.js_state.specs.Seen.{place_of, MatchResult}

-- one name, before the others
pub copies_one : (view : View) (first : Declarator Expr) (rest : List (Declarator Expr)) (last scope : Around) (old new : Contents) (value : Option Shadow) (o : Result Around Completion) (go : Scope → Place → Outcome) →
    option_map (at view) value ≡ value_of first.name.name (scope_of last) (place_of view old) →
    ((go : Scope → Place → Outcome) → open_cell first.name.site first.name.name true (option_map (at view) value) (scope_of scope) (place_of view old) go ≡ MatchResult view scope_of o (place_of view new) go) →
    copy_cells (declared_of Let (first ∷ rest)) (scope_of last) (scope_of scope) (place_of view old) go ≡ MatchResult view scope_of o (place_of view new) (λ scope st. copy_cells (declared_of Let rest) (scope_of last) scope st go)
copies_one view first rest last scope old new value o go g h =
    ap {B = Outcome} (λ (v : Option Value). open_cell first.name.site first.name.name true v (scope_of scope) (place_of view old) (λ scope st. copy_cells (declared_of Let rest) (scope_of last) scope st go)) (sym g)
    ∙ h (λ scope st. copy_cells (declared_of Let rest) (scope_of last) scope st go)

-- where a name is copied
pub next_copies : (ds : List (Declarator Expr)) (last outer : Scope) (st : Place) (go : Scope → Place → Outcome) → 1 ≤ length ds →
    next_scope (declared_of Let ds) last outer st go ≡ copy_cells (declared_of Let ds) last outer st go
next_copies [] last outer st go l = absurd (omega (arith, l))
next_copies (d ∷ ds) last outer st go l = refl
