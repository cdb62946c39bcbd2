-- What is called, by what it is; what a body does; and how it ends.
use Rattle.std.proofs.Common.{◌≡◌, ℕ, List, Option, refl}
use Rattle.path_core.specs.declared.path.End.{End}
use Rattle.path_core.specs.declared.path.Why.TheVariants as why
use Rattle.js_ast.specs.declared.expression.Expr.{Expr}
use Rattle.js_ast.specs.declared.statement.Stmt.{Stmt}
use Rattle.term_table.specs.declared.shadow.Shadow.{Shadow}
use Rattle.term_table.specs.Views.{View}
use Rattle.js_meaning.specs.Values.{Text, Value, undefined, Scope, Place, statements, expression}
use Rattle.js_meaning.specs.Running.{done, bind, given, returns, leaves, on_value}
use Rattle.js_meaning.specs.Builtins.{Calls, call_builtin, construct}
use Rattle.js_meaning.specs.Parts.{invoke}
use Rattle.js_meaning.specs.Blocks.{block}
use Rattle.js_meaning.specs.Meaning.{expr, stmts, body_of, end_activation, returned}
use Rattle.js_state.specs.declared.completion.Completion.{Completion}
use Rattle.js_state.specs.declared.completion.Completion.TheVariants as c
use Rattle.js_state.specs.declared.completion.Reference.{Reference}
use Rattle.js_state.specs.declared.completion.Reference.TheVariants as ref
use Rattle.js_state.specs.Seen.{completion_at, reference_at}
use Rattle.js_frames.specs.Weight.{cost_of_given}

-- ---- built-ins, which leave the profile so far

pub builtin_leaves : (view : View) (calls : Calls) (site : ℕ) (r : Reference) (xs : List Value) (st : Place) → ((x : Shadow) (this : Option ℕ) → r ≡ ref.Callee x this → ⊥) →
    invoke calls site (reference_at view r) xs st ≡ leaves site why.Builtin st
unfolding call_builtin
builtin_leaves view calls site (ref.Callee x this) xs st n = absurd (n x this refl)
builtin_leaves view calls site (ref.Intrinsic at name) xs st n = refl
builtin_leaves view calls site (ref.Static at key) xs st n = refl
builtin_leaves view calls site (ref.Method at base m) xs st n = refl

pub new_leaves : (site : ℕ) (name : Text) (xs : List Value) (st : Place) → construct site name xs st ≡ leaves site why.Builtin st
unfolding construct
new_leaves site name xs st = refl

-- ---- bodies

pub body_statements : (ss : List Stmt) (calls : Calls) (k : ℕ) (scope : Scope) (st : Place) → body_of (statements ss) calls k scope st ≡ block ss (stmts ss) calls k scope st
unfolding body_of
body_statements ss calls k scope st = refl

pub body_expression : (e : Expr) (calls : Calls) (k : ℕ) (scope : Scope) (st : Place) → body_of (expression e) calls k scope st ≡ bind (expr e calls k scope st) (on_value (λ x st. done st (returns x)))
unfolding body_of
body_expression e calls k scope st = refl

-- any other completion of a body gives undefined
pub other_returns : (view : View) (st : Place) (x : Completion) → ((e : End) → x ≡ c.Stop e → ⊥) → ((s : Shadow) → x ≡ c.Return s → ⊥) → ((site : ℕ) (s : Shadow) → x ≡ c.Throw site s → ⊥) →
    returned st (completion_at view x) ≡ done (end_activation st) (given undefined)
other_returns view st (c.Value s) n m k = refl
other_returns view st (c.Refers r) n m k = refl
other_returns view st c.Normal n m k = refl
other_returns view st c.Break n m k = refl
other_returns view st c.Continue n m k = refl
other_returns view st (c.Return s) n m k = absurd (m s refl)
other_returns view st (c.Throw site s) n m k = absurd (k site s refl)
other_returns view st (c.Stop e) n m k = absurd (n e refl)

pub other_costs : (x : Completion) → ((e : End) → x ≡ c.Stop e → ⊥) → cost_of_given x ≡ 3
other_costs (c.Value s) n = refl
other_costs (c.Refers r) n = refl
other_costs c.Normal n = refl
other_costs c.Break n = refl
other_costs c.Continue n = refl
other_costs (c.Return s) n = refl
other_costs (c.Throw site s) n = refl
other_costs (c.Stop e) n = absurd (n e refl)
