-- Examples of throws.
use Rattle.std.proofs.Common.{◌≡◌, pos, false, List, [], ◌∷◌, codes, Some, None, refl}
use Rattle.std.specs.Fmt.{digits}
use Rattle.path_core.specs.declared.path.ErrorName.TheVariants as fault
use Rattle.path_core.specs.declared.path.InputValue.TheVariants as input
use Rattle.path_core.specs.declared.path.Thrown.TheVariants as thrown
use Rattle.path_core.specs.declared.path.Why.TheVariants as why
use Rattle.path_core.specs.declared.path.End.TheVariants.{Done, Threw, Left}
use Rattle.js_ast.specs.declared.operators.BinaryOp.TheVariants as op
use Rattle.js_ast.specs.declared.operators.UnaryOp.TheVariants as un
use Rattle.js_ast.specs.declared.operators.StepOp.TheVariants.{Increment}
use Rattle.js_ast.specs.declared.operators.DeclarationKind.TheVariants.{Let, Const}
use Rattle.js_ast.specs.declared.parts.Key.TheVariants as key
use Rattle.js_ast.specs.declared.expression.Expr.TheOpen.{Expr-F}
use Rattle.js_meaning.specs.Running.{count, turn, new_object}
use Rattle.js_meaning.specs.Builtins.{call_builtin, construct}
use Rattle.js_meaning.specs.Objects.{get_row, bracket_row, set_row}
use Rattle.js_meaning.specs.Operators.{test_row, logical_row, binary_row, unary_row, step_row}
use Rattle.js_meaning.specs.Names.{open_cell, init_name, find_name, read_name, put_name}
use Rattle.js_meaning.proofs.Known.{named, leaf, unary, link, binary, valued, object, dot, get, call_, call, to_name, to_property, step, assign}
use Rattle.js_meaning.proofs.KnownStatements.{KnownStmt, stmt_trees, known_block, body_known, function_, braces, express, return_, declare_}
use Rattle.js_meaning.proofs.KnownForms.{when, if_, try_}
use Rattle.js_meaning.proofs.Runs.{whole, branched, goes, runs, path_is}
use Rattle.js_ast.specs.declared.statement.Stmt.{Stmt}
use Rattle.js_meaning.specs.Values.{statements}
use Rattle.js_meaning.specs.Meaning.{body_of}

-- undefined.x;
abbrev read_of_undefined_script : List KnownStmt
read_of_undefined_script = (express 0 (call (leaf (Expr-F.Name (named 0 (codes "undefined")))) (get (dot 9 (codes
    "x")) ∷ [])) ∷ [])

read_of_undefined : goes 10 [] [] read_of_undefined_script ≡ ([], Threw 9 (thrown.Named fault.TypeError))
unfolding count turn new_object call_builtin construct get_row bracket_row set_row test_row logical_row binary_row unary_row step_row open_cell init_name find_name read_name put_name digits
read_of_undefined = path_is 10 [] [] read_of_undefined_script refl

-- null.x;
abbrev read_of_null_script : List KnownStmt
read_of_null_script = (express 0 (call (leaf (Expr-F.Null 0)) (get (dot 4 (codes "x")) ∷ [])) ∷ [])

read_of_null : goes 10 [] [] read_of_null_script ≡ ([], Threw 4 (thrown.Named fault.TypeError))
unfolding count turn new_object call_builtin construct get_row bracket_row set_row test_row logical_row binary_row unary_row step_row open_cell init_name find_name read_name put_name digits
read_of_null = path_is 10 [] [] read_of_null_script refl

-- null.x = 1;
abbrev write_of_null_script : List KnownStmt
write_of_null_script = (express 0 (assign 0 7 None (to_property (leaf (Expr-F.Null 0)) (dot 4 (codes "x"))) (leaf
    (Expr-F.Number 9 1))) ∷ [])

write_of_null : goes 10 [] [] write_of_null_script ≡ ([], Threw 4 (thrown.Named fault.TypeError))
unfolding count turn new_object call_builtin construct get_row bracket_row set_row test_row logical_row binary_row unary_row step_row open_cell init_name find_name read_name put_name digits
write_of_null = path_is 10 [] [] write_of_null_script refl

-- null.x = y;
abbrev right_side_first_script : List KnownStmt
right_side_first_script = (express 0 (assign 0 7 None (to_property (leaf (Expr-F.Null 0)) (dot 4 (codes "x"))) (leaf
    (Expr-F.Name (named 9 (codes "y"))))) ∷ [])

right_side_first : goes 10 [] [] right_side_first_script ≡ ([], Left 9 why.Name 0 0)
unfolding count turn new_object call_builtin construct get_row bracket_row set_row test_row logical_row binary_row unary_row step_row open_cell init_name find_name read_name put_name digits
right_side_first = path_is 10 [] [] right_side_first_script refl

-- let a = 1; a();
abbrev no_function_script : List KnownStmt
no_function_script = (declare_ 0 Let ((named 4 (codes "a"), (Some (leaf (Expr-F.Number 8 1)))) ∷ []) ∷ express 11
    (call (leaf (Expr-F.Name (named 11 (codes "a")))) (call_ 12 [] ∷ [])) ∷ [])

no_function : goes 10 [] [] no_function_script ≡ ([], Threw 12 (thrown.Named fault.TypeError))
unfolding count turn new_object call_builtin construct get_row bracket_row set_row test_row logical_row binary_row unary_row step_row open_cell init_name find_name read_name put_name digits
no_function = path_is 10 [] [] no_function_script refl

-- let a = 1; a(b);
abbrev arguments_first_script : List KnownStmt
arguments_first_script = (declare_ 0 Let ((named 4 (codes "a"), (Some (leaf (Expr-F.Number 8 1)))) ∷ []) ∷ express 11
    (call (leaf (Expr-F.Name (named 11 (codes "a")))) (call_ 12 (leaf (Expr-F.Name (named 13 (codes "b"))) ∷ []) ∷
    [])) ∷ [])

arguments_first : goes 10 [] [] arguments_first_script ≡ ([], Left 13 why.Name 0 0)
unfolding count turn new_object call_builtin construct get_row bracket_row set_row test_row logical_row binary_row unary_row step_row open_cell init_name find_name read_name put_name digits
arguments_first = path_is 10 [] [] arguments_first_script refl

-- const c = 1; c = 2;
abbrev const_written_script : List KnownStmt
const_written_script = (declare_ 0 Const ((named 6 (codes "c"), (Some (leaf (Expr-F.Number 10 1)))) ∷ []) ∷ express 13
    (assign 13 15 None (to_name (named 13 (codes "c"))) (leaf (Expr-F.Number 17 2))) ∷ [])

const_written : goes 10 [] [] const_written_script ≡ ([], Threw 13 (thrown.Named fault.TypeError))
unfolding count turn new_object call_builtin construct get_row bracket_row set_row test_row logical_row binary_row unary_row step_row open_cell init_name find_name read_name put_name digits
const_written = path_is 10 [] [] const_written_script refl

-- const c = 1; c++;
abbrev const_stepped_script : List KnownStmt
const_stepped_script = (declare_ 0 Const ((named 6 (codes "c"), (Some (leaf (Expr-F.Number 10 1)))) ∷ []) ∷ express 13
    (step 13 14 Increment false (to_name (named 13 (codes "c")))) ∷ [])

const_stepped : goes 10 [] [] const_stepped_script ≡ ([], Threw 13 (thrown.Named fault.TypeError))
unfolding count turn new_object call_builtin construct get_row bracket_row set_row test_row logical_row binary_row unary_row step_row open_cell init_name find_name read_name put_name digits
const_stepped = path_is 10 [] [] const_stepped_script refl

-- n = 1;
abbrev input_written_script : List KnownStmt
input_written_script = (express 0 (assign 0 2 None (to_name (named 0 (codes "n"))) (leaf (Expr-F.Number 4 1))) ∷ [])

input_written : goes 10 (whole (codes "n") (pos 0) (pos 3) ∷ []) (input.Int (pos 2) ∷ []) input_written_script ≡ (
  [],
  Threw 0 (thrown.Named fault.TypeError),
)
unfolding count turn new_object call_builtin construct get_row bracket_row set_row test_row logical_row binary_row unary_row step_row open_cell init_name find_name read_name put_name digits
input_written = path_is 10 (whole (codes "n") (pos 0) (pos 3) ∷ []) (input.Int (pos 2) ∷ []) input_written_script refl

-- let g = function f() { f = 1; }; g();
abbrev own_name_written_body_1 : List KnownStmt
own_name_written_body_1 = (express 23 (assign 23 25 None (to_name (named 23 (codes "f"))) (leaf (Expr-F.Number 27 1)))
    ∷ [])

abbrev own_name_written_script : List Stmt → List KnownStmt
own_name_written_script ss1 = (declare_ 0 Let ((
  named 4 (codes "g"),
  (Some (function_ 8 (Some (named 17 (codes "f")))
      [] ss1)),
) ∷ []) ∷ express 33 (call (leaf (Expr-F.Name (named 33 (codes "g")))) (call_ 34 [] ∷ [])) ∷ [])

own_name_written_run : (ss1 : List Stmt) → body_of (statements ss1) ≡ known_block own_name_written_body_1 → runs 1 []
    [] (own_name_written_script ss1) ≡ ([], Threw 23 (thrown.Named fault.TypeError))
unfolding count turn new_object call_builtin construct get_row bracket_row set_row test_row logical_row binary_row unary_row step_row open_cell init_name find_name read_name put_name digits
own_name_written_run ss1 p1 = rw p1 refl

own_name_written : goes 1 [] [] (own_name_written_script (stmt_trees own_name_written_body_1)) ≡ (
  [],
  Threw 23
      (thrown.Named fault.TypeError),
)
own_name_written = path_is 1 [] [] (own_name_written_script (stmt_trees own_name_written_body_1))
    (own_name_written_run (stmt_trees own_name_written_body_1) (body_known own_name_written_body_1))

-- let g = function f() { return f; }; if (g() === g) {}
abbrev own_name_read_body_1 : List KnownStmt
own_name_read_body_1 = (return_ 23 (leaf (Expr-F.Name (named 30 (codes "f")))) ∷ [])

abbrev own_name_read_script : List Stmt → List KnownStmt
own_name_read_script ss1 = (declare_ 0 Let ((
  named 4 (codes "g"),
  (Some (function_ 8 (Some (named 17 (codes "f"))) []
      ss1)),
) ∷ []) ∷ if_ (when 36 (binary (call (leaf (Expr-F.Name (named 40 (codes "g")))) (call_ 41 [] ∷ [])) (link 44
    op.Equal (leaf (Expr-F.Name (named 48 (codes "g")))) ∷ [])) (braces 51 []) ∷ []) ∷ [])

own_name_read_run : (ss1 : List Stmt) → body_of (statements ss1) ≡ known_block own_name_read_body_1 → runs 1 [] []
    (own_name_read_script ss1) ≡ ((branched 36 1 ∷ []), Done)
unfolding count turn new_object call_builtin construct get_row bracket_row set_row test_row logical_row binary_row unary_row step_row open_cell init_name find_name read_name put_name digits
own_name_read_run ss1 p1 = rw p1 refl

own_name_read : goes 1 [] [] (own_name_read_script (stmt_trees own_name_read_body_1)) ≡ ((branched 36 1 ∷ []), Done)
own_name_read = path_is 1 [] [] (own_name_read_script (stmt_trees own_name_read_body_1)) (own_name_read_run
    (stmt_trees own_name_read_body_1) (body_known own_name_read_body_1))

-- a; let a;
abbrev read_too_early_script : List KnownStmt
read_too_early_script = (express 0 (leaf (Expr-F.Name (named 0 (codes "a")))) ∷ declare_ 3 Let ((
  named 7 (codes "a"),
  None,
) ∷ []) ∷ [])

read_too_early : goes 10 [] [] read_too_early_script ≡ ([], Threw 0 (thrown.Named fault.ReferenceError))
unfolding count turn new_object call_builtin construct get_row bracket_row set_row test_row logical_row binary_row unary_row step_row open_cell init_name find_name read_name put_name digits
read_too_early = path_is 10 [] [] read_too_early_script refl

-- a = 1; let a;
abbrev written_too_early_script : List KnownStmt
written_too_early_script = (express 0 (assign 0 2 None (to_name (named 0 (codes "a"))) (leaf (Expr-F.Number 4 1))) ∷
    declare_ 7 Let ((named 11 (codes "a"), None) ∷ []) ∷ [])

written_too_early : goes 10 [] [] written_too_early_script ≡ ([], Threw 0 (thrown.Named fault.ReferenceError))
unfolding count turn new_object call_builtin construct get_row bracket_row set_row test_row logical_row binary_row unary_row step_row open_cell init_name find_name read_name put_name digits
written_too_early = path_is 10 [] [] written_too_early_script refl

-- typeof a; let a;
abbrev typeof_too_early_script : List KnownStmt
typeof_too_early_script = (express 0 (unary 0 un.TypeOf (leaf (Expr-F.Name (named 7 (codes "a"))))) ∷ declare_ 10 Let
    ((named 14 (codes "a"), None) ∷ []) ∷ [])

typeof_too_early : goes 10 [] [] typeof_too_early_script ≡ ([], Threw 7 (thrown.Named fault.ReferenceError))
unfolding count turn new_object call_builtin construct get_row bracket_row set_row test_row logical_row binary_row unary_row step_row open_cell init_name find_name read_name put_name digits
typeof_too_early = path_is 10 [] [] typeof_too_early_script refl

-- let a = a;
abbrev its_own_value_script : List KnownStmt
its_own_value_script = (declare_ 0 Let ((named 4 (codes "a"), (Some (leaf (Expr-F.Name (named 8 (codes "a")))))) ∷ [])
    ∷ [])

its_own_value : goes 10 [] [] its_own_value_script ≡ ([], Threw 8 (thrown.Named fault.ReferenceError))
unfolding count turn new_object call_builtin construct get_row bracket_row set_row test_row logical_row binary_row unary_row step_row open_cell init_name find_name read_name put_name digits
its_own_value = path_is 10 [] [] its_own_value_script refl

-- try { null.x; } catch (e) { if (e.name === "TypeError") {} }
abbrev error_name_script : List KnownStmt
error_name_script = (try_ 0 (express 6 (call (leaf (Expr-F.Null 6)) (get (dot 10 (codes "x")) ∷ [])) ∷ []) (Some (
  (Some (named 23 (codes "e"))),
  (if_ (when 28 (binary (call (leaf (Expr-F.Name (named 32 (codes "e")))) (get (dot
      33 (codes "name")) ∷ [])) (link 39 op.Equal (leaf (Expr-F.Text 43 (codes "TypeError"))) ∷ [])) (braces 56 []) ∷
      []) ∷ []),
)) None ∷ [])

error_name : goes 10 [] [] error_name_script ≡ ((branched 28 1 ∷ []), Done)
unfolding count turn new_object call_builtin construct get_row bracket_row set_row test_row logical_row binary_row unary_row step_row open_cell init_name find_name read_name put_name digits
error_name = path_is 10 [] [] error_name_script refl

-- let d; try { null.x; } catch (e) { d = e; } try { null.x; } catch (e) { if (e === d) {} if (d === d) {} }
abbrev two_errors_script : List KnownStmt
two_errors_script = (declare_ 0 Let ((named 4 (codes "d"), None) ∷ []) ∷ try_ 7 (express 13 (call (leaf (Expr-F.Null
    13)) (get (dot 17 (codes "x")) ∷ [])) ∷ []) (Some (
      (Some (named 30 (codes "e"))),
      (express 35 (assign 35 37 None
          (to_name (named 35 (codes "d"))) (leaf (Expr-F.Name (named 39 (codes "e"))))) ∷ []),
    )) None ∷ try_ 44 (express 50
    (call (leaf (Expr-F.Null 50)) (get (dot 54 (codes "x")) ∷ [])) ∷ []) (Some (
      (Some (named 67 (codes "e"))),
      (if_
          (when 72 (binary (leaf (Expr-F.Name (named 76 (codes "e")))) (link 78 op.Equal (leaf (Expr-F.Name (named 82 (codes
          "d")))) ∷ [])) (braces 85 []) ∷ []) ∷ if_ (when 88 (binary (leaf (Expr-F.Name (named 92 (codes "d")))) (link 94
          op.Equal (leaf (Expr-F.Name (named 98 (codes "d")))) ∷ [])) (braces 101 []) ∷ []) ∷ []),
    )) None ∷ [])

two_errors : goes 10 [] [] two_errors_script ≡ ((branched 72 0 ∷ branched 88 1 ∷ []), Done)
unfolding count turn new_object call_builtin construct get_row bracket_row set_row test_row logical_row binary_row unary_row step_row open_cell init_name find_name read_name put_name digits
two_errors = path_is 10 [] [] two_errors_script refl

-- let o = {}; o.m(1);
abbrev call_of_property_script : List KnownStmt
call_of_property_script = (declare_ 0 Let ((named 4 (codes "o"), (Some (object 8 []))) ∷ []) ∷ express 12 (call (leaf
    (Expr-F.Name (named 12 (codes "o")))) (get (dot 13 (codes "m")) ∷ call_ 15 (leaf (Expr-F.Number 16 1) ∷ []) ∷ []))
    ∷ [])

call_of_property : goes 10 [] [] call_of_property_script ≡ ([], Threw 15 (thrown.Named fault.TypeError))
unfolding count turn new_object call_builtin construct get_row bracket_row set_row test_row logical_row binary_row unary_row step_row open_cell init_name find_name read_name put_name digits
call_of_property = path_is 10 [] [] call_of_property_script refl

-- let o = { f: null }; o.f.x;
abbrev write_then_read_script : List KnownStmt
write_then_read_script = (declare_ 0 Let ((
  named 4 (codes "o"),
  (Some (object 8 (valued 10 (key.Text (codes "f"))
      (leaf (Expr-F.Null 13)) ∷ []))),
) ∷ []) ∷ express 21 (call (leaf (Expr-F.Name (named 21 (codes "o")))) (get (dot 22
    (codes "f")) ∷ get (dot 24 (codes "x")) ∷ [])) ∷ [])

write_then_read : goes 10 [] [] write_then_read_script ≡ ([], Threw 24 (thrown.Named fault.TypeError))
unfolding count turn new_object call_builtin construct get_row bracket_row set_row test_row logical_row binary_row unary_row step_row open_cell init_name find_name read_name put_name digits
write_then_read = path_is 10 [] [] write_then_read_script refl
