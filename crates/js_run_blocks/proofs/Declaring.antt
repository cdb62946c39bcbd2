-- One declared name, before the others.
use Rattle.std.proofs.Common.{◌≡◌, ℕ, List, ◌∷◌, Option, Some, None, ap, ◌∙◌, sym}
use Rattle.js_ast.specs.declared.expression.Expr.{Expr}
use Rattle.js_ast.specs.declared.parts.Declarator.{Declarator}
use Rattle.js_meaning.specs.Values.{undefined, Scope, Place}
use Rattle.js_meaning.specs.Running.{Outcome, bind, on_value}
use Rattle.js_meaning.specs.Names.{init_name}
use Rattle.js_meaning.specs.Builtins.{Calls}
use Rattle.js_meaning.specs.Blocks.{initial, declare}
use Rattle.js_meaning.specs.Meaning.{expr}

abbrev after_initial : Declarator Expr → List (Declarator Expr) → Calls → ℕ → Scope → Place → Option Expr → Outcome
after_initial d ds calls k scope st o =
    bind (initial expr o calls k scope st) (on_value (λ x st. declare expr ds calls k scope (init_name d.name.name scope x st)))

-- with no value beside it
pub declares_bare : (d : Declarator Expr) (ds : List (Declarator Expr)) (calls : Calls) (k : ℕ) (scope : Scope) (old new : Place) →
    d.value ≡ None → new ≡ init_name d.name.name scope undefined old → declare expr (d ∷ ds) calls k scope old ≡ declare expr ds calls k scope new
declares_bare d ds calls k scope old new e h =
    ap {B = Outcome} (after_initial d ds calls k scope old) e ∙ ap {B = Outcome} (declare expr ds calls k scope) (sym h)

-- with a value
pub declares_valued : (d : Declarator Expr) (ds : List (Declarator Expr)) (value : Expr) (calls : Calls) (k : ℕ) (scope : Scope) (st : Place) →
    d.value ≡ Some value → declare expr (d ∷ ds) calls k scope st ≡ bind (expr value calls k scope st) (on_value (λ x st. declare expr ds calls k scope (init_name d.name.name scope x st)))
declares_valued d ds value calls k scope st e = ap {B = Outcome} (after_initial d ds calls k scope st) e
