-- Worked examples of calls within calls: the outcome of each call is a step of its own.
use Rattle.std.proofs.Common.{◌≡◌, ℕ, ℤ, negsuc, true, List, [], ◌∷◌, codes, Some, None, refl, ap, ◌∙◌}
use Rattle.std.specs.Fmt.{digits}
use Rattle.path_core.specs.declared.bounds.Declared.{Declared}
use Rattle.path_core.specs.declared.path.InputValue.TheVariants as input
use Rattle.path_core.specs.declared.path.Why.TheVariants as why
use Rattle.path_core.specs.declared.path.Event.{Event}
use Rattle.path_core.specs.declared.path.End.{End}
use Rattle.path_core.specs.declared.path.End.TheVariants.{Done, Left}
use Rattle.js_ast.specs.declared.operators.BinaryOp.TheVariants as op
use Rattle.js_ast.specs.declared.operators.DeclarationKind.TheVariants.{Let}
use Rattle.js_ast.specs.declared.parts.Identifier.{Identifier}
use Rattle.js_ast.specs.declared.expression.Expr.{Expr}
use Rattle.js_ast.specs.declared.expression.Expr.TheOpen.{Expr-F}
use Rattle.js_meaning.specs.Values.{Value, undefined, int, object as object_number, Scope, Binding, expression, function, Place}
use Rattle.js_meaning.specs.Running.{passed, refers, callee, Outcome, bind, count, turn, new_object, on_value, on_reference, on_normal}
use Rattle.js_meaning.specs.Builtins.{call_builtin, construct}
use Rattle.js_meaning.specs.Objects.{get_row, bracket_row, set_row}
use Rattle.js_meaning.specs.Operators.{test_row, logical_row, binary_row, unary_row, step_row}
use Rattle.js_meaning.specs.Names.{open_cell, init_name, find_name, read_name, put_name}
use Rattle.js_meaning.specs.Parts.{gather, chain, invoke}
use Rattle.js_meaning.specs.Blocks.{arrow_code, declare, run_all}
use Rattle.js_meaning.specs.Meaning.{meaning_of, body_of, calls_in}
use Rattle.js_meaning.specs.Path.{path_by}
use Rattle.js_meaning.proofs.Known.{Known, named, leaf, link, binary, call_, call}
use Rattle.js_meaning.proofs.KnownStatements.{KnownStmt, known_value, value_known, declare_}
use Rattle.js_meaning.proofs.Runs.{whole, goes, runs, shown, path_is}

-- ---- calls within calls: let f = x => x - 1; let t = f(f(n));

abbrev bounds_n : List Declared
bounds_n = whole (codes "n") (negsuc 9007199254740990) (negsuc 9007199254740988) ∷ []

abbrev parameters : List Identifier
parameters = named 8 (codes "x") ∷ []

-- inside both names
abbrev inner_scope : Scope
inner_scope = record { cell = Some 1; this = undefined }

abbrev minus_one : Known
minus_one = binary (leaf (Expr-F.Name (named 13 (codes "x")))) (link 15 op.Subtract (leaf (Expr-F.Number 17 1)) ∷ [])

-- behind the first declaration, where `t` isn't initialised, with so many turns, ended activations and nodes
abbrev between : Expr → ℤ → List Binding → ℕ → ℕ → ℕ → Place
between t n further turns ended nodes = record {
  run = record { inputs = (codes "n", int n) ∷ []; turns = 2; answers = [] };
  cells = record { name = codes "f"; is_mutable = true; outer = None; value = Some (object_number 0) }
      ∷ record { name = codes "t"; is_mutable = true; outer = Some 0; value = None } ∷ further;
  objects = record { class = function (arrow_code parameters (expression t) inner_scope); properties = []; items = [] } ∷ [];
  events = 0;
  turns = turns;
  ended = ended;
  nodes = nodes;
  joins = 0;
  execs = 0;
}

abbrev bound_x : ℤ → Binding
bound_x n = record { name = codes "x"; is_mutable = true; outer = Some 1; value = Some (int n) }

-- f(n)
abbrev once : Known
once = call (leaf (Expr-F.Name (named 30 (codes "f")))) (call_ 31 (leaf (Expr-F.Name (named 32 (codes "n"))) ∷ []) ∷ [])

abbrev once_gives : Expr → ℤ → ℤ → Outcome
once_gives t n m =
    (passed (Left 15 why.Range 1 0) ∷ [], (between t n (bound_x n ∷ []) 1 1 11, refers (callee (int m) undefined)))

-- what comes behind f(n)
abbrev outer_call : List Value → Place → Outcome
outer_call xs st =
    bind (invoke (calls_in 3) 29 (callee (object_number 0) undefined) xs st)
    (on_reference (chain (meaning_of {T = Expr}) [] (calls_in 3) 2 inner_scope))

abbrev behind_once : Outcome → List Event × End
behind_once o =
    shown (path_by (bind (bind (bind o
    (on_value (λ x. gather (meaning_of {T = Expr}) [] (calls_in 3) 2 inner_scope (x ∷ []) outer_call)))
    (on_value (λ x st. declare (meaning_of {T = Expr}) [] (calls_in 3) 2 inner_scope (init_name (codes "t") inner_scope x st)))) (on_normal (run_all [] (calls_in 3) 2 inner_scope))))

abbrev twice : Expr → List KnownStmt
twice t = declare_ 0 Let ((named 4 (codes "f"), Some (leaf (Expr-F.Arrow 8 parameters t))) ∷ [])
    ∷ declare_ 20 Let ((named 24 (codes "t"), Some (call (leaf (Expr-F.Name (named 28 (codes "f")))) (call_ 29 (once ∷ []) ∷ []))) ∷ []) ∷ []

abbrev Opens : Expr → Type 0
Opens t = body_of (expression t) ≡ known_value minus_one

once_next : (t : Expr) → Opens t →
    once.does (calls_in 3) 2 inner_scope (between t (negsuc 9007199254740989) [] 2 0 5) ≡ once_gives t (negsuc 9007199254740989) (negsuc 9007199254740990)
unfolding count turn new_object call_builtin construct get_row bracket_row set_row test_row logical_row binary_row unary_row step_row open_cell init_name find_name read_name put_name digits
once_next t p = rw p refl

once_third : (t : Expr) → Opens t →
    once.does (calls_in 3) 2 inner_scope (between t (negsuc 9007199254740988) [] 2 0 5) ≡ once_gives t (negsuc 9007199254740988) (negsuc 9007199254740989)
unfolding count turn new_object call_builtin construct get_row bracket_row set_row test_row logical_row binary_row unary_row step_row open_cell init_name find_name read_name put_name digits
once_third t p = rw p refl

-- the run up to f(n), and what comes behind it
runs_next : (t : Expr) →
    runs 2 bounds_n (input.Int (negsuc 9007199254740989) ∷ []) (twice t) ≡ behind_once (once.does (calls_in 3) 2 inner_scope (between t (negsuc 9007199254740989) [] 2 0 5))
unfolding count turn new_object call_builtin construct get_row bracket_row set_row test_row logical_row binary_row unary_row step_row open_cell init_name find_name read_name put_name digits
runs_next t = refl

behind_next : (t : Expr) → Opens t →
    behind_once (once_gives t (negsuc 9007199254740989) (negsuc 9007199254740990)) ≡ ([], Left 15 why.Range 2 0)
unfolding count turn new_object call_builtin construct get_row bracket_row set_row test_row logical_row binary_row unary_row step_row open_cell init_name find_name read_name put_name digits
behind_next t p = rw p refl

behind_third : (t : Expr) → Opens t →
    behind_once (once_gives t (negsuc 9007199254740988) (negsuc 9007199254740989)) ≡ ([], Done)
unfolding count turn new_object call_builtin construct get_row bracket_row set_row test_row logical_row binary_row unary_row step_row open_cell init_name find_name read_name put_name digits
behind_third t p = rw p refl

runs_third : (t : Expr) →
    runs 2 bounds_n (input.Int (negsuc 9007199254740988) ∷ []) (twice t) ≡ behind_once (once.does (calls_in 3) 2 inner_scope (between t (negsuc 9007199254740988) [] 2 0 5))
unfolding count turn new_object call_builtin construct get_row bracket_row set_row test_row logical_row binary_row unary_row step_row open_cell init_name find_name read_name put_name digits
runs_third t = refl

twice_next : goes 2 bounds_n (input.Int (negsuc 9007199254740989) ∷ []) (twice minus_one.tree) ≡ ([], Left 15 why.Range 2 0)
twice_next = path_is 2 bounds_n (input.Int (negsuc 9007199254740989) ∷ []) (twice minus_one.tree)
    (runs_next minus_one.tree
    ∙ ap behind_once (once_next minus_one.tree (value_known minus_one)) ∙ behind_next minus_one.tree (value_known minus_one))

twice_third : goes 2 bounds_n (input.Int (negsuc 9007199254740988) ∷ []) (twice minus_one.tree) ≡ ([], Done)
twice_third = path_is 2 bounds_n (input.Int (negsuc 9007199254740988) ∷ []) (twice minus_one.tree)
    (runs_third minus_one.tree
    ∙ ap behind_once (once_third minus_one.tree (value_known minus_one)) ∙ behind_third minus_one.tree (value_known minus_one))
