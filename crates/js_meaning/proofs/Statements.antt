-- Examples of statements.
use Rattle.std.proofs.Common.{◌≡◌, false, List, [], ◌∷◌, codes, Some, None, refl}
use Rattle.std.specs.Fmt.{digits}
use Rattle.path_core.specs.declared.path.ErrorName.TheVariants as fault
use Rattle.path_core.specs.declared.path.Thrown.TheVariants as thrown
use Rattle.path_core.specs.declared.path.Budget.TheVariants as budget
use Rattle.path_core.specs.declared.path.Why.TheVariants as why
use Rattle.path_core.specs.declared.path.End.TheVariants.{Done, Threw, Left, Cut}
use Rattle.js_ast.specs.declared.operators.BinaryOp.TheVariants as op
use Rattle.js_ast.specs.declared.operators.StepOp.TheVariants.{Increment}
use Rattle.js_ast.specs.declared.operators.DeclarationKind.TheVariants.{Let, Const}
use Rattle.js_ast.specs.declared.expression.Expr.TheOpen.{Expr-F, Stmt-F}
use Rattle.js_meaning.specs.Running.{count, turn, new_object}
use Rattle.js_meaning.specs.Builtins.{call_builtin, construct}
use Rattle.js_meaning.specs.Objects.{get_row, bracket_row, set_row}
use Rattle.js_meaning.specs.Operators.{test_row, logical_row, binary_row, unary_row, step_row}
use Rattle.js_meaning.specs.Names.{open_cell, init_name, find_name, read_name, put_name}
use Rattle.js_meaning.proofs.Known.{named, leaf, array, link, binary, call_, call, to_name, step, assign}
use Rattle.js_meaning.proofs.KnownStatements.{KnownStmt, stmt_trees, known_block, body_known, still, braces, express, throw_, return_, declare_}
use Rattle.js_meaning.proofs.KnownForms.{when, if_, if_else, while_, do_, for_of_, no_head, value_head, declare_head, for_}
use Rattle.js_meaning.proofs.Runs.{branched, goes, uses, runs, path_is, steps_are}
use Rattle.js_ast.specs.declared.statement.Stmt.{Stmt}
use Rattle.js_meaning.specs.Values.{statements}
use Rattle.js_meaning.specs.Meaning.{body_of}

-- let a = 1; { let a = 2; } if (a === 1) {}
abbrev scopes_script : List KnownStmt
scopes_script = (declare_ 0 Let ((named 4 (codes "a"), (Some (leaf (Expr-F.Number 8 1)))) ∷ []) ∷ braces 11 (declare_
    13 Let ((named 17 (codes "a"), (Some (leaf (Expr-F.Number 21 2)))) ∷ []) ∷ []) ∷ if_ (when 26 (binary (leaf
    (Expr-F.Name (named 30 (codes "a")))) (link 32 op.Equal (leaf (Expr-F.Number 36 1)) ∷ [])) (braces 39 []) ∷ []) ∷
    [])

scopes : goes 10 [] [] scopes_script ≡ ((branched 26 1 ∷ []), Done)
unfolding count turn new_object call_builtin construct get_row bracket_row set_row test_row logical_row binary_row unary_row step_row open_cell init_name find_name read_name put_name digits
scopes = path_is 10 [] [] scopes_script refl

scopes_steps : uses 10 [] [] scopes_script ≡ 10
unfolding count turn new_object call_builtin construct get_row bracket_row set_row test_row logical_row binary_row unary_row step_row open_cell init_name find_name read_name put_name digits
scopes_steps = steps_are 10 [] [] scopes_script refl

-- ;
abbrev nothing_script : List KnownStmt
nothing_script = (still (Stmt-F.Nothing 0) ∷ [])

nothing : goes 10 [] [] nothing_script ≡ ([], Done)
unfolding count turn new_object call_builtin construct get_row bracket_row set_row test_row logical_row binary_row unary_row step_row open_cell init_name find_name read_name put_name digits
nothing = path_is 10 [] [] nothing_script refl

nothing_steps : uses 10 [] [] nothing_script ≡ 1
unfolding count turn new_object call_builtin construct get_row bracket_row set_row test_row logical_row binary_row unary_row step_row open_cell init_name find_name read_name put_name digits
nothing_steps = steps_are 10 [] [] nothing_script refl

-- let u; if (u === undefined) {}
abbrev no_value_script : List KnownStmt
no_value_script = (declare_ 0 Let ((named 4 (codes "u"), None) ∷ []) ∷ if_ (when 7 (binary (leaf (Expr-F.Name (named
    11 (codes "u")))) (link 13 op.Equal (leaf (Expr-F.Name (named 17 (codes "undefined")))) ∷ [])) (braces 28 []) ∷
    []) ∷ [])

no_value : goes 10 [] [] no_value_script ≡ ((branched 7 1 ∷ []), Done)
unfolding count turn new_object call_builtin construct get_row bracket_row set_row test_row logical_row binary_row unary_row step_row open_cell init_name find_name read_name put_name digits
no_value = path_is 10 [] [] no_value_script refl

-- if (f() === 1) {} function f() { return 1; }
abbrev entered_body_1 : List KnownStmt
entered_body_1 = (return_ 33 (leaf (Expr-F.Number 40 1)) ∷ [])

abbrev entered_script : List Stmt → List KnownStmt
entered_script ss1 = (if_ (when 0 (binary (call (leaf (Expr-F.Name (named 4 (codes "f")))) (call_ 5 [] ∷ [])) (link 8
    op.Equal (leaf (Expr-F.Number 12 1)) ∷ [])) (braces 15 []) ∷ []) ∷ still (Stmt-F.Function 18 (named 27 (codes
    "f")) [] ss1) ∷ [])

entered_run : (ss1 : List Stmt) → body_of (statements ss1) ≡ known_block entered_body_1 → runs 1 [] [] (entered_script
    ss1) ≡ ((branched 0 1 ∷ []), Done)
unfolding count turn new_object call_builtin construct get_row bracket_row set_row test_row logical_row binary_row unary_row step_row open_cell init_name find_name read_name put_name digits
entered_run ss1 p1 = rw p1 refl

entered : goes 1 [] [] (entered_script (stmt_trees entered_body_1)) ≡ ((branched 0 1 ∷ []), Done)
entered = path_is 1 [] [] (entered_script (stmt_trees entered_body_1)) (entered_run (stmt_trees entered_body_1)
    (body_known entered_body_1))

-- function f() { return; } if (f() === undefined) {}
abbrev no_return_body_1 : List KnownStmt
no_return_body_1 = (still (Stmt-F.Return 15 None) ∷ [])

abbrev no_return_script : List Stmt → List KnownStmt
no_return_script ss1 = (still (Stmt-F.Function 0 (named 9 (codes "f")) [] ss1) ∷ if_ (when 25 (binary (call (leaf
    (Expr-F.Name (named 29 (codes "f")))) (call_ 30 [] ∷ [])) (link 33 op.Equal (leaf (Expr-F.Name (named 37 (codes
    "undefined")))) ∷ [])) (braces 48 []) ∷ []) ∷ [])

no_return_run : (ss1 : List Stmt) → body_of (statements ss1) ≡ known_block no_return_body_1 → runs 1 [] []
    (no_return_script ss1) ≡ ((branched 25 1 ∷ []), Done)
unfolding count turn new_object call_builtin construct get_row bracket_row set_row test_row logical_row binary_row unary_row step_row open_cell init_name find_name read_name put_name digits
no_return_run ss1 p1 = rw p1 refl

no_return : goes 1 [] [] (no_return_script (stmt_trees no_return_body_1)) ≡ ((branched 25 1 ∷ []), Done)
no_return = path_is 1 [] [] (no_return_script (stmt_trees no_return_body_1)) (no_return_run (stmt_trees
    no_return_body_1) (body_known no_return_body_1))

-- function f() { 1; } if (f() === undefined) {}
abbrev body_ends_body_1 : List KnownStmt
body_ends_body_1 = (express 15 (leaf (Expr-F.Number 15 1)) ∷ [])

abbrev body_ends_script : List Stmt → List KnownStmt
body_ends_script ss1 = (still (Stmt-F.Function 0 (named 9 (codes "f")) [] ss1) ∷ if_ (when 20 (binary (call (leaf
    (Expr-F.Name (named 24 (codes "f")))) (call_ 25 [] ∷ [])) (link 28 op.Equal (leaf (Expr-F.Name (named 32 (codes
    "undefined")))) ∷ [])) (braces 43 []) ∷ []) ∷ [])

body_ends_run : (ss1 : List Stmt) → body_of (statements ss1) ≡ known_block body_ends_body_1 → runs 1 [] []
    (body_ends_script ss1) ≡ ((branched 20 1 ∷ []), Done)
unfolding count turn new_object call_builtin construct get_row bracket_row set_row test_row logical_row binary_row unary_row step_row open_cell init_name find_name read_name put_name digits
body_ends_run ss1 p1 = rw p1 refl

body_ends : goes 1 [] [] (body_ends_script (stmt_trees body_ends_body_1)) ≡ ((branched 20 1 ∷ []), Done)
body_ends = path_is 1 [] [] (body_ends_script (stmt_trees body_ends_body_1)) (body_ends_run (stmt_trees
    body_ends_body_1) (body_known body_ends_body_1))

-- if (0) {} else if (null) {} else throw 1;
abbrev arms_script : List KnownStmt
arms_script = (if_else (when 0 (leaf (Expr-F.Number 4 0)) (braces 7 []) ∷ when 15 (leaf (Expr-F.Null 19)) (braces 25
    []) ∷ []) (throw_ 33 (leaf (Expr-F.Number 39 1))) ∷ [])

arms : goes 10 [] [] arms_script ≡ ((branched 0 0 ∷ branched 15 0 ∷ []), Threw 33 thrown.Value)
unfolding count turn new_object call_builtin construct get_row bracket_row set_row test_row logical_row binary_row unary_row step_row open_cell init_name find_name read_name put_name digits
arms = path_is 10 [] [] arms_script refl

arms_steps : uses 10 [] [] arms_script ≡ 6
unfolding count turn new_object call_builtin construct get_row bracket_row set_row test_row logical_row binary_row unary_row step_row open_cell init_name find_name read_name put_name digits
arms_steps = steps_are 10 [] [] arms_script refl

-- let i = 0; while (true) { if (i === 1) break; i++; }
abbrev while_break_script : List KnownStmt
while_break_script = (declare_ 0 Let ((named 4 (codes "i"), (Some (leaf (Expr-F.Number 8 0)))) ∷ []) ∷ while_ 11 (leaf
    (Expr-F.True 18)) (braces 24 (if_ (when 26 (binary (leaf (Expr-F.Name (named 30 (codes "i")))) (link 32 op.Equal
    (leaf (Expr-F.Number 36 1)) ∷ [])) (still (Stmt-F.Break 39)) ∷ []) ∷ express 46 (step 46 47 Increment false
    (to_name (named 46 (codes "i")))) ∷ [])) ∷ [])

while_break : goes 10 [] [] while_break_script ≡ (
  (branched 11 1 ∷ branched 26 0 ∷ branched 11 1 ∷ branched 26 1 ∷
      []),
  Done,
)
unfolding count turn new_object call_builtin construct get_row bracket_row set_row test_row logical_row binary_row unary_row step_row open_cell init_name find_name read_name put_name digits
while_break = path_is 10 [] [] while_break_script refl

-- let i = 0; do { i++; if (i === 1) continue; } while (i < 2);
abbrev do_continue_script : List KnownStmt
do_continue_script = (declare_ 0 Let ((named 4 (codes "i"), (Some (leaf (Expr-F.Number 8 0)))) ∷ []) ∷ do_ 11 (braces
    14 (express 16 (step 16 17 Increment false (to_name (named 16 (codes "i")))) ∷ if_ (when 21 (binary (leaf
    (Expr-F.Name (named 25 (codes "i")))) (link 27 op.Equal (leaf (Expr-F.Number 31 1)) ∷ [])) (still (Stmt-F.Continue
    34)) ∷ []) ∷ [])) 46 (binary (leaf (Expr-F.Name (named 53 (codes "i")))) (link 55 op.Less (leaf (Expr-F.Number 57
    2)) ∷ [])) ∷ [])

do_continue : goes 10 [] [] do_continue_script ≡ (
  (branched 21 1 ∷ branched 46 1 ∷ branched 21 0 ∷ branched 46 0 ∷
      []),
  Done,
)
unfolding count turn new_object call_builtin construct get_row bracket_row set_row test_row logical_row binary_row unary_row step_row open_cell init_name find_name read_name put_name digits
do_continue = path_is 10 [] [] do_continue_script refl

-- do {} while (true);
abbrev do_endless_script : List KnownStmt
do_endless_script = (do_ 0 (braces 3 []) 6 (leaf (Expr-F.True 13)) ∷ [])

do_endless : goes 2 [] [] do_endless_script ≡ ((branched 6 1 ∷ branched 6 1 ∷ []), Cut 0 budget.Turns)
unfolding count turn new_object call_builtin construct get_row bracket_row set_row test_row logical_row binary_row unary_row step_row open_cell init_name find_name read_name put_name digits
do_endless = path_is 2 [] [] do_endless_script refl

-- for (let i = 0; i < 2; i++) {}
abbrev for_let_script : List KnownStmt
for_let_script = (for_ 0 (declare_head Let ((named 9 (codes "i"), (Some (leaf (Expr-F.Number 13 0)))) ∷ [])) (Some
    (binary (leaf (Expr-F.Name (named 16 (codes "i")))) (link 18 op.Less (leaf (Expr-F.Number 20 2)) ∷ []))) (Some
    (step 23 24 Increment false (to_name (named 23 (codes "i"))))) (braces 28 []) ∷ [])

for_let : goes 10 [] [] for_let_script ≡ ((branched 0 1 ∷ branched 0 1 ∷ branched 0 0 ∷ []), Done)
unfolding count turn new_object call_builtin construct get_row bracket_row set_row test_row logical_row binary_row unary_row step_row open_cell init_name find_name read_name put_name digits
for_let = path_is 10 [] [] for_let_script refl

for_let_steps : uses 10 [] [] for_let_script ≡ 17
unfolding count turn new_object call_builtin construct get_row bracket_row set_row test_row logical_row binary_row unary_row step_row open_cell init_name find_name read_name put_name digits
for_let_steps = steps_are 10 [] [] for_let_script refl

-- for (;;) break;
abbrev for_nothing_script : List KnownStmt
for_nothing_script = (for_ 0 no_head None None (still (Stmt-F.Break 9)) ∷ [])

for_nothing : goes 10 [] [] for_nothing_script ≡ ([], Done)
unfolding count turn new_object call_builtin construct get_row bracket_row set_row test_row logical_row binary_row unary_row step_row open_cell init_name find_name read_name put_name digits
for_nothing = path_is 10 [] [] for_nothing_script refl

-- for (;;) {}
abbrev for_endless_script : List KnownStmt
for_endless_script = (for_ 0 no_head None None (braces 9 []) ∷ [])

for_endless : goes 3 [] [] for_endless_script ≡ ([], Cut 0 budget.Turns)
unfolding count turn new_object call_builtin construct get_row bracket_row set_row test_row logical_row binary_row unary_row step_row open_cell init_name find_name read_name put_name digits
for_endless = path_is 3 [] [] for_endless_script refl

-- let i = 5; for (i = 0; i < 1; i += 1) {} if (i === 1) {}
abbrev for_value_script : List KnownStmt
for_value_script = (declare_ 0 Let ((named 4 (codes "i"), (Some (leaf (Expr-F.Number 8 5)))) ∷ []) ∷ for_ 11
    (value_head (assign 16 18 None (to_name (named 16 (codes "i"))) (leaf (Expr-F.Number 20 0)))) (Some (binary (leaf
    (Expr-F.Name (named 23 (codes "i")))) (link 25 op.Less (leaf (Expr-F.Number 27 1)) ∷ []))) (Some (assign 30 32
    (Some op.Add) (to_name (named 30 (codes "i"))) (leaf (Expr-F.Number 35 1)))) (braces 38 []) ∷ if_ (when 41 (binary
    (leaf (Expr-F.Name (named 45 (codes "i")))) (link 47 op.Equal (leaf (Expr-F.Number 51 1)) ∷ [])) (braces 54 []) ∷
    []) ∷ [])

for_value : goes 10 [] [] for_value_script ≡ ((branched 11 1 ∷ branched 11 0 ∷ branched 41 1 ∷ []), Done)
unfolding count turn new_object call_builtin construct get_row bracket_row set_row test_row logical_row binary_row unary_row step_row open_cell init_name find_name read_name put_name digits
for_value = path_is 10 [] [] for_value_script refl

-- for (const c = 1; c < 1;) {}
abbrev for_const_script : List KnownStmt
for_const_script = (for_ 0 (declare_head Const ((named 11 (codes "c"), (Some (leaf (Expr-F.Number 15 1)))) ∷ []))
    (Some (binary (leaf (Expr-F.Name (named 18 (codes "c")))) (link 20 op.Less (leaf (Expr-F.Number 22 1)) ∷ [])))
    None (braces 26 []) ∷ [])

for_const : goes 10 [] [] for_const_script ≡ ((branched 0 0 ∷ []), Done)
unfolding count turn new_object call_builtin construct get_row bracket_row set_row test_row logical_row binary_row unary_row step_row open_cell init_name find_name read_name put_name digits
for_const = path_is 10 [] [] for_const_script refl

-- for (const x of [1, 2]) { if (x === 2) {} }
abbrev for_of_script : List KnownStmt
for_of_script = (for_of_ 0 Const (named 11 (codes "x")) (array 16 (leaf (Expr-F.Number 17 1) ∷ leaf (Expr-F.Number 20
    2) ∷ [])) (braces 24 (if_ (when 26 (binary (leaf (Expr-F.Name (named 30 (codes "x")))) (link 32 op.Equal (leaf
    (Expr-F.Number 36 2)) ∷ [])) (braces 39 []) ∷ []) ∷ [])) ∷ [])

for_of : goes 10 [] [] for_of_script ≡ ((branched 26 0 ∷ branched 26 1 ∷ []), Done)
unfolding count turn new_object call_builtin construct get_row bracket_row set_row test_row logical_row binary_row unary_row step_row open_cell init_name find_name read_name put_name digits
for_of = path_is 10 [] [] for_of_script refl

-- for (let x of x) {}
abbrev of_itself_script : List KnownStmt
of_itself_script = (for_of_ 0 Let (named 9 (codes "x")) (leaf (Expr-F.Name (named 14 (codes "x")))) (braces 17 []) ∷
    [])

of_itself : goes 10 [] [] of_itself_script ≡ ([], Threw 14 (thrown.Named fault.ReferenceError))
unfolding count turn new_object call_builtin construct get_row bracket_row set_row test_row logical_row binary_row unary_row step_row open_cell init_name find_name read_name put_name digits
of_itself = path_is 10 [] [] of_itself_script refl

-- for (const x of "ab") {}
abbrev of_string_script : List KnownStmt
of_string_script = (for_of_ 0 Const (named 11 (codes "x")) (leaf (Expr-F.Text 16 (codes "ab"))) (braces 22 []) ∷ [])

of_string : goes 10 [] [] of_string_script ≡ ([], Left 0 why.Iterate 0 0)
unfolding count turn new_object call_builtin construct get_row bracket_row set_row test_row logical_row binary_row unary_row step_row open_cell init_name find_name read_name put_name digits
of_string = path_is 10 [] [] of_string_script refl

-- for (const x of 5) {}
abbrev of_number_script : List KnownStmt
of_number_script = (for_of_ 0 Const (named 11 (codes "x")) (leaf (Expr-F.Number 16 5)) (braces 19 []) ∷ [])

of_number : goes 10 [] [] of_number_script ≡ ([], Threw 0 (thrown.Named fault.TypeError))
unfolding count turn new_object call_builtin construct get_row bracket_row set_row test_row logical_row binary_row unary_row step_row open_cell init_name find_name read_name put_name digits
of_number = path_is 10 [] [] of_number_script refl

-- for (const x of [1]) x = 2;
abbrev of_const_script : List KnownStmt
of_const_script = (for_of_ 0 Const (named 11 (codes "x")) (array 16 (leaf (Expr-F.Number 17 1) ∷ [])) (express 21
    (assign 21 23 None (to_name (named 21 (codes "x"))) (leaf (Expr-F.Number 25 2)))) ∷ [])

of_const : goes 10 [] [] of_const_script ≡ ([], Threw 21 (thrown.Named fault.TypeError))
unfolding count turn new_object call_builtin construct get_row bracket_row set_row test_row logical_row binary_row unary_row step_row open_cell init_name find_name read_name put_name digits
of_const = path_is 10 [] [] of_const_script refl

-- function f() { while (true) { return 1; } } if (f() === 1) {}
abbrev return_from_loop_body_1 : List KnownStmt
return_from_loop_body_1 = (while_ 15 (leaf (Expr-F.True 22)) (braces 28 (return_ 30 (leaf (Expr-F.Number 37 1)) ∷ []))
    ∷ [])

abbrev return_from_loop_script : List Stmt → List KnownStmt
return_from_loop_script ss1 = (still (Stmt-F.Function 0 (named 9 (codes "f")) [] ss1) ∷ if_ (when 44 (binary (call
    (leaf (Expr-F.Name (named 48 (codes "f")))) (call_ 49 [] ∷ [])) (link 52 op.Equal (leaf (Expr-F.Number 56 1)) ∷
    [])) (braces 59 []) ∷ []) ∷ [])

return_from_loop_run : (ss1 : List Stmt) → body_of (statements ss1) ≡ known_block return_from_loop_body_1 → runs 2 []
    [] (return_from_loop_script ss1) ≡ ((branched 15 1 ∷ branched 44 1 ∷ []), Done)
unfolding count turn new_object call_builtin construct get_row bracket_row set_row test_row logical_row binary_row unary_row step_row open_cell init_name find_name read_name put_name digits
return_from_loop_run ss1 p1 = rw p1 refl

return_from_loop : goes 2 [] [] (return_from_loop_script (stmt_trees return_from_loop_body_1)) ≡ (
  (branched 15 1 ∷
      branched 44 1 ∷ []),
  Done,
)
return_from_loop = path_is 2 [] [] (return_from_loop_script (stmt_trees return_from_loop_body_1))
    (return_from_loop_run (stmt_trees return_from_loop_body_1) (body_known return_from_loop_body_1))

-- throw 1;
abbrev thrown_value_script : List KnownStmt
thrown_value_script = (throw_ 0 (leaf (Expr-F.Number 6 1)) ∷ [])

thrown_value : goes 10 [] [] thrown_value_script ≡ ([], Threw 0 thrown.Value)
unfolding count turn new_object call_builtin construct get_row bracket_row set_row test_row logical_row binary_row unary_row step_row open_cell init_name find_name read_name put_name digits
thrown_value = path_is 10 [] [] thrown_value_script refl

thrown_value_steps : uses 10 [] [] thrown_value_script ≡ 2
unfolding count turn new_object call_builtin construct get_row bracket_row set_row test_row logical_row binary_row unary_row step_row open_cell init_name find_name read_name put_name digits
thrown_value_steps = steps_are 10 [] [] thrown_value_script refl

-- function f() { f(); } f();
abbrev calls_run_out_body_1 : List KnownStmt
calls_run_out_body_1 = (express 15 (call (leaf (Expr-F.Name (named 15 (codes "f")))) (call_ 16 [] ∷ [])) ∷ [])

abbrev calls_run_out_script : List Stmt → List KnownStmt
calls_run_out_script ss1 = (still (Stmt-F.Function 0 (named 9 (codes "f")) [] ss1) ∷ express 22 (call (leaf
    (Expr-F.Name (named 22 (codes "f")))) (call_ 23 [] ∷ [])) ∷ [])

calls_run_out_run : (ss1 : List Stmt) → body_of (statements ss1) ≡ known_block calls_run_out_body_1 → runs 1 [] []
    (calls_run_out_script ss1) ≡ ([], Cut 16 budget.Turns)
unfolding count turn new_object call_builtin construct get_row bracket_row set_row test_row logical_row binary_row unary_row step_row open_cell init_name find_name read_name put_name digits
calls_run_out_run ss1 p1 = rw p1 refl

calls_run_out : goes 1 [] [] (calls_run_out_script (stmt_trees calls_run_out_body_1)) ≡ ([], Cut 16 budget.Turns)
calls_run_out = path_is 1 [] [] (calls_run_out_script (stmt_trees calls_run_out_body_1)) (calls_run_out_run
    (stmt_trees calls_run_out_body_1) (body_known calls_run_out_body_1))

-- function f() { for (;;) { return; } } let r = f(); if (r === undefined) {}
abbrev return_alone_body_1 : List KnownStmt
return_alone_body_1 = (for_ 15 no_head None None (braces 24 (still (Stmt-F.Return 26 None) ∷ [])) ∷ [])

abbrev return_alone_script : List Stmt → List KnownStmt
return_alone_script ss1 = (still (Stmt-F.Function 0 (named 9 (codes "f")) [] ss1) ∷ declare_ 38 Let ((
  named 42 (codes
      "r"),
  (Some (call (leaf (Expr-F.Name (named 46 (codes "f")))) (call_ 47 [] ∷ []))),
) ∷ []) ∷ if_ (when 51 (binary
    (leaf (Expr-F.Name (named 55 (codes "r")))) (link 57 op.Equal (leaf (Expr-F.Name (named 61 (codes "undefined"))))
    ∷ [])) (braces 72 []) ∷ []) ∷ [])

return_alone_run : (ss1 : List Stmt) → body_of (statements ss1) ≡ known_block return_alone_body_1 → runs 2 [] []
    (return_alone_script ss1) ≡ ((branched 51 1 ∷ []), Done)
unfolding count turn new_object call_builtin construct get_row bracket_row set_row test_row logical_row binary_row unary_row step_row open_cell init_name find_name read_name put_name digits
return_alone_run ss1 p1 = rw p1 refl

return_alone : goes 2 [] [] (return_alone_script (stmt_trees return_alone_body_1)) ≡ ((branched 51 1 ∷ []), Done)
return_alone = path_is 2 [] [] (return_alone_script (stmt_trees return_alone_body_1)) (return_alone_run (stmt_trees
    return_alone_body_1) (body_known return_alone_body_1))

-- let r = 1; { r = f; function f() {} } f;
abbrev block_functions_body_1 : List KnownStmt
block_functions_body_1 = []

abbrev block_functions_script : List Stmt → List KnownStmt
block_functions_script ss1 = (declare_ 0 Let ((named 4 (codes "r"), (Some (leaf (Expr-F.Number 8 1)))) ∷ []) ∷ braces
    11 (express 13 (assign 13 15 None (to_name (named 13 (codes "r"))) (leaf (Expr-F.Name (named 17 (codes "f"))))) ∷
    still (Stmt-F.Function 20 (named 29 (codes "f")) [] ss1) ∷ []) ∷ express 38 (leaf (Expr-F.Name (named 38 (codes
    "f")))) ∷ [])

block_functions : goes 10 [] [] (block_functions_script (stmt_trees block_functions_body_1)) ≡ (
  [],
  Left 38 why.Name 0
      0,
)
unfolding count turn new_object call_builtin construct get_row bracket_row set_row test_row logical_row binary_row unary_row step_row open_cell init_name find_name read_name put_name digits
block_functions = path_is 10 [] [] (block_functions_script (stmt_trees block_functions_body_1)) refl

-- for (const x of [1]) continue;
abbrev of_live_index_script : List KnownStmt
of_live_index_script = (for_of_ 0 Const (named 11 (codes "x")) (array 16 (leaf (Expr-F.Number 17 1) ∷ [])) (still
    (Stmt-F.Continue 21)) ∷ [])

of_live_index : goes 10 [] [] of_live_index_script ≡ ([], Done)
unfolding count turn new_object call_builtin construct get_row bracket_row set_row test_row logical_row binary_row unary_row step_row open_cell init_name find_name read_name put_name digits
of_live_index = path_is 10 [] [] of_live_index_script refl

-- for (const x of [1, 2]) {}
abbrev of_turns_run_out_script : List KnownStmt
of_turns_run_out_script = (for_of_ 0 Const (named 11 (codes "x")) (array 16 (leaf (Expr-F.Number 17 1) ∷ leaf
    (Expr-F.Number 20 2) ∷ [])) (braces 24 []) ∷ [])

of_turns_run_out : goes 1 [] [] of_turns_run_out_script ≡ ([], Cut 0 budget.Turns)
unfolding count turn new_object call_builtin construct get_row bracket_row set_row test_row logical_row binary_row unary_row step_row open_cell init_name find_name read_name put_name digits
of_turns_run_out = path_is 1 [] [] of_turns_run_out_script refl
