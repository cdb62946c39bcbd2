-- Worked examples of bindings in the head of a `for`: each round has fresh ones, and the first ones are there before it.
use Rattle.std.proofs.Common.{◌≡◌, ℕ, pos, true, false, List, [], ◌∷◌, codes, Option, Some, None, refl, ap, ◌∙◌}
use Rattle.std.specs.Fmt.{digits}
use Rattle.path_core.specs.declared.path.Event.{Event}
use Rattle.path_core.specs.declared.path.Thrown.TheVariants as thrown
use Rattle.path_core.specs.declared.path.End.{End}
use Rattle.path_core.specs.declared.path.End.TheVariants.{Threw}
use Rattle.js_ast.specs.declared.operators.BinaryOp.TheVariants as op
use Rattle.js_ast.specs.declared.operators.StepOp.TheVariants.{Increment}
use Rattle.js_ast.specs.declared.operators.DeclarationKind.TheVariants.{Let}
use Rattle.js_ast.specs.declared.expression.Expr.TheOpen.{Expr-F}
use Rattle.js_ast.specs.declared.statement.Stmt.{Stmt}
use Rattle.js_meaning.specs.Values.{Value, undefined, int, object as object_number, Scope, Binding, Object, statements, function, Place}
use Rattle.js_meaning.specs.Running.{made, throws, Outcome, after, bind, count, turn, new_object, on_value, on_normal}
use Rattle.js_meaning.specs.Builtins.{call_builtin, construct}
use Rattle.js_meaning.specs.Objects.{get_row, bracket_row, set_row}
use Rattle.js_meaning.specs.Operators.{test_row, logical_row, binary_row, unary_row, step_row}
use Rattle.js_meaning.specs.Names.{open_cell, init_name, find_name, read_name, put_name}
use Rattle.js_meaning.specs.Blocks.{arrow_code, run_all}
use Rattle.js_meaning.specs.Meaning.{body_of, calls_in, gives_nothing}
use Rattle.js_meaning.specs.Path.{path_by}
use Rattle.js_meaning.proofs.Known.{Known, named, leaf, link, binary, to_name, step, assign, call_, call}
use Rattle.js_meaning.proofs.KnownStatements.{KnownStmt, stmt_trees, known_block, body_known, arrow_block, braces, express, throw_, declare_}
use Rattle.js_meaning.proofs.KnownForms.{when, if_, declare_head, for_}
use Rattle.js_meaning.proofs.Runs.{branched, goes, runs, shown, path_is}

abbrev outer_scope : Scope
outer_scope = record { cell = Some 0; this = undefined }

abbrev bound : List ℕ → Option ℕ → Value → Binding
bound name outer x = record { name = name; is_mutable = true; outer = outer; value = Some x }

-- an arrow without parameters, inside a binding
abbrev an_arrow : List Stmt → ℕ → Object
an_arrow ss k =
    record { class = function (arrow_code [] (statements ss) (record { cell = Some k; this = undefined })); properties = []; items = [] }

-- behind one round and two tests, with these bindings and objects
abbrev behind_round : List Binding → List Object → ℕ → ℕ → ℕ → ℕ → Place
behind_round cells objects events turns ended nodes = record {
  run = record { inputs = []; turns = 2; answers = [] };
  cells = cells;
  objects = objects;
  events = events;
  turns = turns;
  ended = ended;
  nodes = nodes;
  joins = 0;
  execs = 0;
}

-- what comes behind the last call
abbrev behind_call : Outcome → List Event × End
behind_call o =
    shown (path_by (after (made (branched 7 1) ∷ made (branched 7 0) ∷ []) (bind (bind o
    (on_value gives_nothing)) (on_normal (run_all [] (calls_in 3) 2 outer_scope)))))

-- ---- let f; for (let i = 0; i < 1; i++) f = () => { if (i === 0) throw 1; }; f();

abbrev fresh_body : List KnownStmt
fresh_body =
    if_ (when 47 (binary (leaf (Expr-F.Name (named 51 (codes "i")))) (link 53 op.Equal (leaf (Expr-F.Number 57 0)) ∷ []))
    (throw_ 60 (leaf (Expr-F.Number 66 1))) ∷ []) ∷ []

abbrev fresh_call : Known
fresh_call = call (leaf (Expr-F.Name (named 72 (codes "f")))) (call_ 73 [] ∷ [])

abbrev fresh : List Stmt → List KnownStmt
fresh ss = declare_ 0 Let ((named 4 (codes "f"), None) ∷ [])
    ∷ for_ 7 (declare_head Let ((named 16 (codes "i"), Some (leaf (Expr-F.Number 20 0))) ∷ []))
    (Some (binary (leaf (Expr-F.Name (named 23 (codes "i")))) (link 25 op.Less (leaf (Expr-F.Number 27 1)) ∷ [])))
    (Some (step 30 31 Increment false (to_name (named 30 (codes "i")))))
    (express 35 (assign 35 37 None (to_name (named 35 (codes "f"))) (arrow_block 39 [] ss)))
    ∷ express 72 fresh_call ∷ []

-- f, the first i, the i of the round, and the i behind it
abbrev fresh_cells : List Binding
fresh_cells =
    bound (codes "f") None (object_number 0) ∷ bound (codes "i") (Some 0) (int (pos 0)) ∷ bound (codes "i") (Some 0) (int (pos 0)) ∷ bound (codes "i") (Some 0) (int (pos 1)) ∷ []

fresh_runs : (ss : List Stmt) →
    runs 2 [] [] (fresh ss) ≡ behind_call (fresh_call.does (calls_in 3) 2 outer_scope (behind_round fresh_cells (an_arrow ss 2 ∷ []) 2 1 0 16))
unfolding count turn new_object call_builtin construct get_row bracket_row set_row test_row logical_row binary_row unary_row step_row open_cell init_name find_name read_name put_name digits
fresh_runs ss = refl

-- the function that was made in the round sees the binding of the round
fresh_throws : (ss : List Stmt) → body_of (statements ss) ≡ known_block fresh_body →
    fresh_call.does (calls_in 3) 2 outer_scope (behind_round fresh_cells (an_arrow ss 2 ∷ []) 2 1 0 16)
    ≡ (made (branched 47 1) ∷ [], (behind_round fresh_cells (an_arrow ss 2 ∷ []) 3 0 1 24, throws 60 (int (pos 1))))
unfolding count turn new_object call_builtin construct get_row bracket_row set_row test_row logical_row binary_row unary_row step_row open_cell init_name find_name read_name put_name digits
fresh_throws ss p = rw p refl

fresh_path : goes 2 [] [] (fresh (stmt_trees fresh_body)) ≡ (branched 7 1 ∷ branched 7 0 ∷ branched 47 1 ∷ [], Threw 60 thrown.Value)
fresh_path =
    path_is 2 [] [] (fresh (stmt_trees fresh_body)) (fresh_runs (stmt_trees fresh_body)
    ∙ ap behind_call (fresh_throws (stmt_trees fresh_body) (body_known fresh_body)))

-- ---- let g; for (let i = 0, f = () => { if (i === 0) throw 1; }; i < 1; i++) { i = 5; g = f; } g();

abbrev first_body : List KnownStmt
first_body =
    if_ (when 35 (binary (leaf (Expr-F.Name (named 39 (codes "i")))) (link 41 op.Equal (leaf (Expr-F.Number 45 0)) ∷ []))
    (throw_ 48 (leaf (Expr-F.Number 54 1))) ∷ []) ∷ []

abbrev first_call : Known
first_call = call (leaf (Expr-F.Name (named 90 (codes "g")))) (call_ 91 [] ∷ [])

abbrev first : List Stmt → List KnownStmt
first ss = declare_ 0 Let ((named 4 (codes "g"), None) ∷ [])
    ∷ for_ 7 (declare_head Let ((named 16 (codes "i"), Some (leaf (Expr-F.Number 20 0))) ∷ (named 23 (codes "f"), Some (arrow_block 27 [] ss)) ∷ []))
    (Some (binary (leaf (Expr-F.Name (named 60 (codes "i")))) (link 62 op.Less (leaf (Expr-F.Number 64 1)) ∷ [])))
    (Some (step 67 68 Increment false (to_name (named 67 (codes "i")))))
    (braces 72 (express 74 (assign 74 76 None (to_name (named 74 (codes "i"))) (leaf (Expr-F.Number 78 5)))
    ∷ express 81 (assign 81 83 None (to_name (named 81 (codes "g"))) (leaf (Expr-F.Name (named 85 (codes "f"))))) ∷ []))
    ∷ express 90 first_call ∷ []

-- g; the first i and f; those of the round; and those behind it
abbrev first_cells : List Binding
first_cells = bound (codes "g") None (object_number 0)
    ∷ bound (codes "i") (Some 0) (int (pos 0)) ∷ bound (codes "f") (Some 1) (object_number 0)
    ∷ bound (codes "i") (Some 0) (int (pos 5)) ∷ bound (codes "f") (Some 3) (object_number 0)
    ∷ bound (codes "i") (Some 0) (int (pos 6)) ∷ bound (codes "f") (Some 5) (object_number 0) ∷ []

first_runs : (ss : List Stmt) →
    runs 2 [] [] (first ss) ≡ behind_call (first_call.does (calls_in 3) 2 outer_scope (behind_round first_cells (an_arrow ss 2 ∷ []) 2 1 0 22))
unfolding count turn new_object call_builtin construct get_row bracket_row set_row test_row logical_row binary_row unary_row step_row open_cell init_name find_name read_name put_name digits
first_runs ss = refl

-- the function that was made in the head sees the first binding, also behind a round that wrote its own
first_throws : (ss : List Stmt) → body_of (statements ss) ≡ known_block first_body →
    first_call.does (calls_in 3) 2 outer_scope (behind_round first_cells (an_arrow ss 2 ∷ []) 2 1 0 22)
    ≡ (made (branched 35 1) ∷ [], (behind_round first_cells (an_arrow ss 2 ∷ []) 3 0 1 30, throws 48 (int (pos 1))))
unfolding count turn new_object call_builtin construct get_row bracket_row set_row test_row logical_row binary_row unary_row step_row open_cell init_name find_name read_name put_name digits
first_throws ss p = rw p refl

first_path : goes 2 [] [] (first (stmt_trees first_body)) ≡ (branched 7 1 ∷ branched 7 0 ∷ branched 35 1 ∷ [], Threw 48 thrown.Value)
first_path =
    path_is 2 [] [] (first (stmt_trees first_body)) (first_runs (stmt_trees first_body)
    ∙ ap behind_call (first_throws (stmt_trees first_body) (body_known first_body)))
