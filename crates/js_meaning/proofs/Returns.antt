-- A worked example of calls that return without a turn: two evaluations of one operator end differently, by the activations
-- that have ended since the last turn.
--
-- function f(n) { if (n === 0) return a; return f(n - 1) + a; } f(3);
use Rattle.std.proofs.Common.{◌≡◌, ℕ, pos, true, List, [], ◌∷◌, codes, Some, None, refl, ap, ◌∙◌}
use Rattle.std.specs.Fmt.{digits}
use Rattle.path_core.specs.declared.bounds.Declared.{Declared}
use Rattle.path_core.specs.declared.path.InputValue.TheVariants as input
use Rattle.path_core.specs.declared.path.Why.TheVariants as why
use Rattle.path_core.specs.declared.path.Event.{Event}
use Rattle.path_core.specs.declared.path.End.{End}
use Rattle.path_core.specs.declared.path.End.TheVariants.{Left}
use Rattle.js_ast.specs.declared.operators.BinaryOp.{BinaryOp}
use Rattle.js_ast.specs.declared.operators.BinaryOp.TheVariants as op
use Rattle.js_ast.specs.declared.parts.Identifier.{Identifier}
use Rattle.js_ast.specs.declared.expression.Expr.{Expr}
use Rattle.js_ast.specs.declared.expression.Expr.TheOpen.{Expr-F, Stmt-F}
use Rattle.js_ast.specs.declared.statement.Stmt.{Stmt}
use Rattle.js_meaning.specs.Values.{undefined, int, object as object_number, Scope, Binding, statements, function, Place}
use Rattle.js_meaning.specs.Running.{passed, made, given, returns, Outcome, done, after, bind, count, turn, new_object, on_value, on_reference, on_normal}
use Rattle.js_meaning.specs.Builtins.{call_builtin, construct}
use Rattle.js_meaning.specs.Objects.{get_row, bracket_row, set_row}
use Rattle.js_meaning.specs.Operators.{test_row, logical_row, binary_row, unary_row, step_row}
use Rattle.js_meaning.specs.Names.{open_cell, init_name, find_name, read_name, put_name}
use Rattle.js_meaning.specs.Parts.{Meaning, chain, links}
use Rattle.js_meaning.specs.Blocks.{plain_code, run_all}
use Rattle.js_meaning.specs.Meaning.{meaning_of, body_of, calls_in, returned, gives_nothing}
use Rattle.js_meaning.specs.Path.{path_by}
use Rattle.js_meaning.proofs.Known.{KnownLink, named, leaf, link, link_pairs, binary, call_, call}
use Rattle.js_meaning.proofs.KnownStatements.{KnownStmt, stmt_trees, known_block, body_known, still, express, return_}
use Rattle.js_meaning.proofs.KnownForms.{when, if_}
use Rattle.js_meaning.proofs.Runs.{whole, branched, goes, runs, shown, path_is}

abbrev bounds_a : List Declared
bounds_a = whole (codes "a") (pos 0) (pos 9007199254740991) ∷ []

abbrev parameters : List Identifier
parameters = named 11 (codes "n") ∷ []

abbrev plus_a : List (KnownLink BinaryOp)
plus_a = link 55 op.Add (leaf (Expr-F.Name (named 57 (codes "a")))) ∷ []

abbrev body : List KnownStmt
body = if_ (when 16 (binary (leaf (Expr-F.Name (named 20 (codes "n")))) (link 22 op.Equal (leaf (Expr-F.Number 26 0)) ∷ []))
    (return_ 29 (leaf (Expr-F.Name (named 36 (codes "a"))))) ∷ [])
    ∷ return_ 39 (binary (call (leaf (Expr-F.Name (named 46 (codes "f"))))
    (call_ 47 (binary (leaf (Expr-F.Name (named 48 (codes "n")))) (link 50 op.Subtract (leaf (Expr-F.Number 52 1)) ∷ []) ∷ []) ∷ [])) plus_a) ∷ []

abbrev script : List Stmt → List KnownStmt
script ss = still (Stmt-F.Function 0 (named 9 (codes "f")) parameters ss)
    ∷ express 62 (call (leaf (Expr-F.Name (named 62 (codes "f")))) (call_ 63 (leaf (Expr-F.Number 64 3) ∷ []) ∷ [])) ∷ []

abbrev Opens : List Stmt → Type 0
Opens ss = body_of (statements ss) ≡ known_block body

abbrev inside : ℕ → Scope
inside k = record { cell = Some k; this = undefined }

abbrev bound_n : ℕ → Binding
bound_n n = record { name = codes "n"; is_mutable = true; outer = Some 0; value = Some (int (pos n)) }

-- f, and these bindings of n
abbrev at : List Stmt → List Binding → ℕ → ℕ → ℕ → ℕ → Place
at ss further events turns ended nodes = record {
  run = record { inputs = (codes "a", int (pos 4503599627370495)) ∷ []; turns = 4; answers = [] };
  cells = record { name = codes "f"; is_mutable = true; outer = None; value = Some (object_number 0) } ∷ further;
  objects = record { class = function (plain_code parameters ss (inside 0)); properties = []; items = [] } ∷ [];
  events = events;
  turns = turns;
  ended = ended;
  nodes = nodes;
  joins = 0;
  execs = 0;
}

-- what an activation does with the outcome of the call inside it
abbrev behind : ℕ → ℕ → ℕ → Outcome → Outcome
behind m k turns o =
    bind (after (made (branched 16 0) ∷ []) (bind (bind (bind (after (passed (Left 50 why.Range turns 0) ∷ [])
    (bind o (on_reference (chain (meaning_of {T = Expr}) [] (calls_in m) m (inside k)))))
    (on_value (links meaning_of (link_pairs plus_a) (calls_in m) m (inside k))))
    (on_value (λ x st. done st (returns x)))) (on_normal (run_all [] (calls_in m) m (inside k))))) returned

-- an activation with its binding of n
abbrev activation : ℕ → ℕ → Meaning → Place → Outcome
activation m k does st = bind (does (calls_in m) m (inside k) st) returned

abbrev three : List Binding
three = bound_n 3 ∷ []

abbrev two : List Binding
two = bound_n 3 ∷ bound_n 2 ∷ []

abbrev one : List Binding
one = bound_n 3 ∷ bound_n 2 ∷ bound_n 1 ∷ []

-- each call enters its function
enters_third : (ss : List Stmt) → calls_in 5 63 (object_number 0) undefined (int (pos 3) ∷ []) (at ss [] 0 4 0 5) ≡ activation 4 1 (body_of (statements ss)) (at ss three 0 3 0 5)
unfolding count turn new_object call_builtin construct get_row bracket_row set_row test_row logical_row binary_row unary_row step_row open_cell init_name find_name read_name put_name digits
enters_third ss = refl

enters_second : (ss : List Stmt) → calls_in 4 47 (object_number 0) undefined (int (pos 2) ∷ []) (at ss three 1 3 0 15) ≡ activation 3 2 (body_of (statements ss)) (at ss two 1 2 0 15)
unfolding count turn new_object call_builtin construct get_row bracket_row set_row test_row logical_row binary_row unary_row step_row open_cell init_name find_name read_name put_name digits
enters_second ss = refl

enters_first : (ss : List Stmt) → calls_in 3 47 (object_number 0) undefined (int (pos 1) ∷ []) (at ss two 2 2 0 25) ≡ activation 2 3 (body_of (statements ss)) (at ss one 2 1 0 25)
unfolding count turn new_object call_builtin construct get_row bracket_row set_row test_row logical_row binary_row unary_row step_row open_cell init_name find_name read_name put_name digits
enters_first ss = refl

-- and comes to the call inside it
does_third : (ss : List Stmt) → activation 4 1 (known_block body) (at ss three 0 3 0 5) ≡ behind 4 1 1 (calls_in 4 47 (object_number 0) undefined (int (pos 2) ∷ []) (at ss three 1 3 0 15))
unfolding count turn new_object call_builtin construct get_row bracket_row set_row test_row logical_row binary_row unary_row step_row open_cell init_name find_name read_name put_name digits
does_third ss = refl

does_second : (ss : List Stmt) → activation 3 2 (known_block body) (at ss two 1 2 0 15) ≡ behind 3 2 2 (calls_in 3 47 (object_number 0) undefined (int (pos 1) ∷ []) (at ss two 2 2 0 25))
unfolding count turn new_object call_builtin construct get_row bracket_row set_row test_row logical_row binary_row unary_row step_row open_cell init_name find_name read_name put_name digits
does_second ss = refl

does_first : (ss : List Stmt) → activation 2 3 (known_block body) (at ss one 2 1 0 25) ≡ behind 2 3 3 (calls_in 2 47 (object_number 0) undefined (int (pos 0) ∷ []) (at ss one 3 1 0 35))
unfolding count turn new_object call_builtin construct get_row bracket_row set_row test_row logical_row binary_row unary_row step_row open_cell init_name find_name read_name put_name digits
does_first ss = refl

third : (ss : List Stmt) → Opens ss → calls_in 5 63 (object_number 0) undefined (int (pos 3) ∷ []) (at ss [] 0 4 0 5) ≡ behind 4 1 1 (calls_in 4 47 (object_number 0) undefined (int (pos 2) ∷ []) (at ss three 1 3 0 15))
third ss p = enters_third ss ∙ ap (λ (m : Meaning). activation 4 1 m (at ss three 0 3 0 5)) p ∙ does_third ss

second : (ss : List Stmt) → Opens ss → calls_in 4 47 (object_number 0) undefined (int (pos 2) ∷ []) (at ss three 1 3 0 15) ≡ behind 3 2 2 (calls_in 3 47 (object_number 0) undefined (int (pos 1) ∷ []) (at ss two 2 2 0 25))
second ss p = enters_second ss ∙ ap (λ (m : Meaning). activation 3 2 m (at ss two 1 2 0 15)) p ∙ does_second ss

first : (ss : List Stmt) → Opens ss → calls_in 3 47 (object_number 0) undefined (int (pos 1) ∷ []) (at ss two 2 2 0 25) ≡ behind 2 3 3 (calls_in 2 47 (object_number 0) undefined (int (pos 0) ∷ []) (at ss one 3 1 0 35))
first ss p = enters_first ss ∙ ap (λ (m : Meaning). activation 2 3 m (at ss one 2 1 0 25)) p ∙ does_first ss

abbrev last_bindings : List Binding
last_bindings = bound_n 3 ∷ bound_n 2 ∷ bound_n 1 ∷ bound_n 0 ∷ []

-- and the innermost one, which returns
last : (ss : List Stmt) → Opens ss → calls_in 2 47 (object_number 0) undefined (int (pos 0) ∷ []) (at ss one 3 1 0 35)
    ≡ (made (branched 16 1) ∷ [], (at ss last_bindings 4 0 1 41, given (int (pos 4503599627370495))))
unfolding count turn new_object call_builtin construct get_row bracket_row set_row test_row logical_row binary_row unary_row step_row open_cell init_name find_name read_name put_name digits
last ss p = rw p refl

-- what comes behind the outermost call
abbrev behind_call : Outcome → List Event × End
behind_call o = shown (path_by (bind (bind (bind o (on_reference (chain (meaning_of {T = Expr}) [] (calls_in 5) 4 (inside 0)))) (on_value gives_nothing)) (on_normal (run_all [] (calls_in 5) 4 (inside 0)))))

calls_run : (ss : List Stmt) → runs 4 bounds_a (input.Int (pos 4503599627370495) ∷ []) (script ss) ≡ behind_call (calls_in 5 63 (object_number 0) undefined (int (pos 3) ∷ []) (at ss [] 0 4 0 5))
unfolding count turn new_object call_builtin construct get_row bracket_row set_row test_row logical_row binary_row unary_row step_row open_cell init_name find_name read_name put_name digits
calls_run ss = refl

-- the first sum stays within the safe integers, behind one return; the second doesn't, behind two
unwound : (ss : List Stmt) → behind_call (behind 4 1 1 (behind 3 2 2 (behind 2 3 3 (made (branched 16 1) ∷ [], (at ss last_bindings 4 0 1 41, given (int (pos 4503599627370495)))))))
    ≡ (branched 16 0 ∷ branched 16 0 ∷ branched 16 0 ∷ branched 16 1 ∷ [], Left 55 why.Range 4 2)
unfolding count turn new_object call_builtin construct get_row bracket_row set_row test_row logical_row binary_row unary_row step_row open_cell init_name find_name read_name put_name digits
unwound ss = refl

unwinding : goes 4 bounds_a (input.Int (pos 4503599627370495) ∷ []) (script (stmt_trees body)) ≡ (branched 16 0 ∷ branched 16 0 ∷ branched 16 0 ∷ branched 16 1 ∷ [], Left 55 why.Range 4 2)
unwinding = path_is 4 bounds_a (input.Int (pos 4503599627370495) ∷ []) (script (stmt_trees body))
    (calls_run (stmt_trees body)
    ∙ ap behind_call (third (stmt_trees body) (body_known body))
    ∙ ap (λ o. behind_call (behind 4 1 1 o)) (second (stmt_trees body) (body_known body))
    ∙ ap (λ o. behind_call (behind 4 1 1 (behind 3 2 2 o))) (first (stmt_trees body) (body_known body))
    ∙ ap (λ o. behind_call (behind 4 1 1 (behind 3 2 2 (behind 2 3 3 o)))) (last (stmt_trees body) (body_known body))
    ∙ unwound (stmt_trees body))
