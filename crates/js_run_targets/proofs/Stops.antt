-- A target in brackets that is read: so far its read stops the run.
use Rattle.std.proofs.Common.{◌≡◌, ℕ, Bool, true, false, Some, List, [], refl}
use Rattle.path_core.specs.declared.path.Why.TheVariants as why
use Rattle.js_ast.specs.declared.parts.Identifier.{Identifier}
use Rattle.js_ast.specs.declared.expression.Expr.{Expr}
use Rattle.js_ast.specs.declared.operators.BinaryOp.{BinaryOp}
use Rattle.js_ast.specs.declared.operators.StepOp.{StepOp}
use Rattle.js_meaning.specs.Values.{Value, undefined, Scope, Place}
use Rattle.js_meaning.specs.Running.{Outcome, Completion, done, given, callee, play, bind, on_value, leaves}
use Rattle.js_meaning.specs.Objects.{get_bracket}
use Rattle.js_meaning.specs.Operators.{step_row}
use Rattle.js_state.specs.declared.closure.Scope.{Scope as Around}
use Rattle.js_state.specs.Held.{scope_of}
use Rattle.js_frames.specs.declared.parts.Goal.TheVariants as goal
use Rattle.js_frames.specs.Machine.{Fuel, calling, reached}
use Rattle.js_meaning.specs.Builtins.{Calls, among, error_names, construct}
use Rattle.js_meaning.specs.Names.{Found, bound, supplied, listed, nowhere, find_name, read_found, read_name}
use Rattle.js_meaning.specs.Parts.{gather, bracket_aim, put_aim, step_value, apply}
use Rattle.js_meaning.specs.Meaning.{expr, new_found, new_of}

pub step_stops : (w : Fuel) (at : ℕ) (op : StepOp) (is_prefix : Bool) (scope : Around) (site : ℕ) (is_static : Bool) (x y : Value) (st : Place) (c : Completion) →
    ((go : Value → Place → Outcome) → bind (get_bracket site is_static (callee x undefined) y st) (on_value go) ≡ done st c) →
    reached w (goal.Step at op is_prefix) scope (bracket_aim site is_static x y) st ≡ done st c
step_stops w at op is_prefix scope site is_static x y st c h =
    h (λ x' st. bind (play (step_row op at x') st) (on_value (λ y' st. bind (put_aim (scope_of scope) (bracket_aim site is_static x y) y' st) (on_value (λ z st. done st (given (step_value is_prefix x' z)))))))

pub compound_stops : (w : Fuel) (at : ℕ) (op : BinaryOp) (value : _) (scope : Around) (site : ℕ) (is_static : Bool) (x y : Value) (st : Place) (c : Completion) →
    ((go : Value → Place → Outcome) → bind (get_bracket site is_static (callee x undefined) y st) (on_value go) ≡ done st c) →
    reached w (goal.Assign at (Some op) value) scope (bracket_aim site is_static x y) st ≡ done st c
compound_stops w at op value scope site is_static x y st c h =
    h (λ x' st. bind (expr value.now (calling w) w.loops (scope_of scope) st) (on_value (λ y' st. bind (apply op at x' y' st) (on_value (put_aim (scope_of scope) (bracket_aim site is_static x y))))))
