-- The first arm of an `if`, before the others; and what a completion costs.
use Rattle.std.proofs.Common.{◌≡◌, ◌≤◌, List, ◌∷◌, Option, ap, sym, subst, arith}
use Rattle.std.specs.Option.{option_map}
use Rattle.js_ast.specs.declared.statement.Stmt.{Stmt}
use Rattle.js_ast.specs.declared.statement.Arm.{Arm, out-Arm}
use Rattle.js_meaning.specs.Values.{Place}
use Rattle.js_meaning.specs.Running.{Outcome, bind, count, on_value}
use Rattle.js_meaning.specs.Meaning.{Arms, optional, expr}
use Rattle.js_state.specs.declared.closure.Scope.{Scope as Around}
use Rattle.js_state.specs.declared.completion.Completion.{Completion}
use Rattle.js_state.specs.declared.completion.Completion.TheVariants as c
use Rattle.js_frames.specs.Machine.{Fuel, doing, beside, on_arms, after_test}
use Rattle.js_frames.specs.Weight.{cost_of_given}
use Rattle.js_frames.proofs.Statements.{arm_opens}

pub arms_begin : (w : Fuel) (arms : List Arm) (a : Arm) (rest : List Arm) (alternate : Option Stmt) (scope : Around) (st : Place) → arms ≡ a ∷ rest →
    doing w (on_arms arms (optional (option_map beside alternate))) scope st ≡ count (out-Arm a).site st (λ st. bind (doing w (expr (out-Arm a).test) scope st) (on_value (after_test w arms alternate scope)))
arms_begin w arms a rest alternate scope st e =
    subst (λ (xs : List Arm). doing w (on_arms xs (optional (option_map beside alternate))) scope st ≡ count (out-Arm a).site st (λ st. bind (doing w (expr (out-Arm a).test) scope st) (on_value (after_test w xs alternate scope)))) (sym e)
    (ap {B = Outcome} (λ (m : Arms). doing w (m (on_arms rest (optional (option_map beside alternate)))) scope st) (arm_opens a))

pub given_cost : (x : Completion) → cost_of_given x ≤ 3
given_cost (c.Value s) = omega arith
given_cost (c.Refers r) = omega arith
given_cost c.Normal = omega arith
given_cost c.Break = omega arith
given_cost c.Continue = omega arith
given_cost (c.Return s) = omega arith
given_cost (c.Throw site s) = omega arith
given_cost (c.Stop e) = omega arith
