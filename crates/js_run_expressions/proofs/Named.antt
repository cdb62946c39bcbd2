-- `new`, by what its name is found as.
use Rattle.std.proofs.Common.{◌≡◌, ℕ, Bool, true, false, Some, List, [], refl}
use Rattle.path_core.specs.declared.path.Why.TheVariants as why
use Rattle.js_ast.specs.declared.parts.Identifier.{Identifier}
use Rattle.js_ast.specs.declared.expression.Expr.{Expr}
use Rattle.js_ast.specs.declared.operators.BinaryOp.{BinaryOp}
use Rattle.js_ast.specs.declared.operators.StepOp.{StepOp}
use Rattle.js_meaning.specs.Values.{Value, undefined, Scope, Place}
use Rattle.js_meaning.specs.Running.{Outcome, Completion, done, given, callee, play, bind, on_value, leaves}
use Rattle.js_meaning.specs.Objects.{get_bracket}
use Rattle.js_meaning.specs.Operators.{step_row}
use Rattle.js_state.specs.declared.closure.Scope.{Scope as Around}
use Rattle.js_state.specs.Held.{scope_of}
use Rattle.js_frames.specs.declared.parts.Goal.TheVariants as goal
use Rattle.js_frames.specs.Machine.{Fuel, calling, reached}
use Rattle.js_meaning.specs.Builtins.{Calls, among, error_names, construct}
use Rattle.js_meaning.specs.Names.{Found, bound, supplied, listed, nowhere, find_name, read_found, read_name}
use Rattle.js_meaning.specs.Parts.{gather, bracket_aim, put_aim, step_value, apply}
use Rattle.js_meaning.specs.Meaning.{expr, new_found, new_of}

new_error : (site : ℕ) (name : Identifier) (es : List Expr) (f : Found) (calls : Calls) (k : ℕ) (scope : Scope) (st : Place) → f ≡ listed → among name.name error_names ≡ true →
    new_found expr site name es calls k scope f st ≡ gather expr es calls k scope [] (construct site name.name) st
new_error site name es f calls k scope st e a = rw (e, a) refl

new_listed_other : (site : ℕ) (name : Identifier) (es : List Expr) (f : Found) (calls : Calls) (k : ℕ) (scope : Scope) (st : Place) → f ≡ listed → among name.name error_names ≡ false →
    new_found expr site name es calls k scope f st ≡ leaves site why.New st
new_listed_other site name es f calls k scope st e a = rw (e, a) refl

new_unlisted : (site : ℕ) (name : Identifier) (es : List Expr) (f : Found) (calls : Calls) (k : ℕ) (scope : Scope) (st : Place) → (f ≡ listed → ⊥) →
    new_found expr site name es calls k scope f st ≡ bind (read_found name.site name.name f st) (on_value (λ x st. leaves site why.New st))
new_unlisted site name es (bound i) calls k scope st n = refl
new_unlisted site name es (supplied x) calls k scope st n = refl
new_unlisted site name es nowhere calls k scope st n = refl
new_unlisted site name es listed calls k scope st n = absurd (n refl)

pub of_error : (site : ℕ) (name : Identifier) (es : List Expr) (calls : Calls) (k : ℕ) (scope : Scope) (st : Place) → find_name scope name.name st ≡ listed → among name.name error_names ≡ true →
    new_of expr site name es calls k scope st ≡ gather expr es calls k scope [] (construct site name.name) st
of_error site name es calls k scope st e a = new_error site name es (find_name scope name.name st) calls k scope st e a

pub of_listed : (site : ℕ) (name : Identifier) (es : List Expr) (calls : Calls) (k : ℕ) (scope : Scope) (st : Place) → find_name scope name.name st ≡ listed → among name.name error_names ≡ false →
    new_of expr site name es calls k scope st ≡ leaves site why.New st
of_listed site name es calls k scope st e a = new_listed_other site name es (find_name scope name.name st) calls k scope st e a

pub of_other : (site : ℕ) (name : Identifier) (es : List Expr) (calls : Calls) (k : ℕ) (scope : Scope) (st : Place) → (find_name scope name.name st ≡ listed → ⊥) →
    new_of expr site name es calls k scope st ≡ bind (read_name name.site name.name scope st) (on_value (λ x st. leaves site why.New st))
unfolding read_name
of_other site name es calls k scope st n = new_unlisted site name es (find_name scope name.name st) calls k scope st n
