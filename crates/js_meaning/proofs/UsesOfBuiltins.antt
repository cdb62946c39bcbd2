-- Examples of built-in names and methods, each use of which leaves the profile so far.
use Rattle.std.proofs.Common.{◌≡◌, true, false, List, [], ◌∷◌, codes, Some, None, refl}
use Rattle.std.specs.Fmt.{digits}
use Rattle.path_core.specs.declared.path.Why.TheVariants as why
use Rattle.path_core.specs.declared.path.End.TheVariants.{Left}
use Rattle.js_ast.specs.declared.operators.BinaryOp.TheVariants.{Add}
use Rattle.js_ast.specs.declared.operators.StepOp.TheVariants.{Increment}
use Rattle.js_ast.specs.declared.operators.LogicalOp.TheVariants as logic
use Rattle.js_ast.specs.declared.operators.DeclarationKind.TheVariants.{Let}
use Rattle.js_ast.specs.declared.expression.Expr.TheOpen.{Expr-F}
use Rattle.js_meaning.specs.Running.{count, turn, new_object}
use Rattle.js_meaning.specs.Builtins.{call_builtin, construct}
use Rattle.js_meaning.specs.Objects.{get_row, bracket_row, set_row}
use Rattle.js_meaning.specs.Operators.{test_row, logical_row, binary_row, unary_row, step_row}
use Rattle.js_meaning.specs.Names.{open_cell, init_name, find_name, read_name, put_name}
use Rattle.js_meaning.proofs.Known.{named, leaf, array, new_, conditional, link, logical, object, dot, bracket, get, call_, call, to_name, to_property, step, assign}
use Rattle.js_meaning.proofs.KnownStatements.{KnownStmt, express, declare_}
use Rattle.js_meaning.proofs.Runs.{branched, goes, path_is}

-- parseInt("1", 10);
abbrev function_called_script : List KnownStmt
function_called_script = (express 0 (call (leaf (Expr-F.Name (named 0 (codes "parseInt")))) (call_ 8 (leaf
    (Expr-F.Text 9 (codes "1")) ∷ leaf (Expr-F.Number 14 10) ∷ []) ∷ [])) ∷ [])

function_called : goes 10 [] [] function_called_script ≡ ([], Left 8 why.Builtin 0 0)
unfolding count turn new_object call_builtin construct get_row bracket_row set_row test_row logical_row binary_row unary_row step_row open_cell init_name find_name read_name put_name digits
function_called = path_is 10 [] [] function_called_script refl

-- parseInt;
abbrev function_alone_script : List KnownStmt
function_alone_script = (express 0 (leaf (Expr-F.Name (named 0 (codes "parseInt")))) ∷ [])

function_alone : goes 10 [] [] function_alone_script ≡ ([], Left 0 why.Builtin 0 0)
unfolding count turn new_object call_builtin construct get_row bracket_row set_row test_row logical_row binary_row unary_row step_row open_cell init_name find_name read_name put_name digits
function_alone = path_is 10 [] [] function_alone_script refl

-- (parseInt)("1", 10);
abbrev function_in_parentheses_script : List KnownStmt
function_in_parentheses_script = (express 0 (call (leaf (Expr-F.Name (named 1 (codes "parseInt")))) (call_ 10 (leaf
    (Expr-F.Text 11 (codes "1")) ∷ leaf (Expr-F.Number 16 10) ∷ []) ∷ [])) ∷ [])

function_in_parentheses : goes 10 [] [] function_in_parentheses_script ≡ ([], Left 10 why.Builtin 0 0)
unfolding count turn new_object call_builtin construct get_row bracket_row set_row test_row logical_row binary_row unary_row step_row open_cell init_name find_name read_name put_name digits
function_in_parentheses = path_is 10 [] [] function_in_parentheses_script refl

-- Object.keys({});
abbrev listed_called_script : List KnownStmt
listed_called_script = (express 0 (call (leaf (Expr-F.Name (named 0 (codes "Object")))) (get (dot 6 (codes "keys")) ∷
    call_ 11 (object 12 [] ∷ []) ∷ [])) ∷ [])

listed_called : goes 10 [] [] listed_called_script ≡ ([], Left 11 why.Builtin 0 0)
unfolding count turn new_object call_builtin construct get_row bracket_row set_row test_row logical_row binary_row unary_row step_row open_cell init_name find_name read_name put_name digits
listed_called = path_is 10 [] [] listed_called_script refl

-- Object.keys;
abbrev listed_alone_script : List KnownStmt
listed_alone_script = (express 0 (call (leaf (Expr-F.Name (named 0 (codes "Object")))) (get (dot 6 (codes "keys")) ∷
    [])) ∷ [])

listed_alone : goes 10 [] [] listed_alone_script ≡ ([], Left 6 why.Builtin 0 0)
unfolding count turn new_object call_builtin construct get_row bracket_row set_row test_row logical_row binary_row unary_row step_row open_cell init_name find_name read_name put_name digits
listed_alone = path_is 10 [] [] listed_alone_script refl

-- Object.values(foo);
abbrev not_listed_script : List KnownStmt
not_listed_script = (express 0 (call (leaf (Expr-F.Name (named 0 (codes "Object")))) (get (dot 6 (codes "values")) ∷
    call_ 13 (leaf (Expr-F.Name (named 14 (codes "foo"))) ∷ []) ∷ [])) ∷ [])

not_listed : goes 10 [] [] not_listed_script ≡ ([], Left 6 why.Builtin 0 0)
unfolding count turn new_object call_builtin construct get_row bracket_row set_row test_row logical_row binary_row unary_row step_row open_cell init_name find_name read_name put_name digits
not_listed = path_is 10 [] [] not_listed_script refl

-- Object[1];
abbrev bracket_of_builtin_script : List KnownStmt
bracket_of_builtin_script = (express 0 (call (leaf (Expr-F.Name (named 0 (codes "Object")))) (get (bracket 6 true
    (leaf (Expr-F.Number 7 1))) ∷ [])) ∷ [])

bracket_of_builtin : goes 10 [] [] bracket_of_builtin_script ≡ ([], Left 6 why.Builtin 0 0)
unfolding count turn new_object call_builtin construct get_row bracket_row set_row test_row logical_row binary_row unary_row step_row open_cell init_name find_name read_name put_name digits
bracket_of_builtin = path_is 10 [] [] bracket_of_builtin_script refl

-- "a".charAt(0);
abbrev method_called_script : List KnownStmt
method_called_script = (express 0 (call (leaf (Expr-F.Text 0 (codes "a"))) (get (dot 3 (codes "charAt")) ∷ call_ 10
    (leaf (Expr-F.Number 11 0) ∷ []) ∷ [])) ∷ [])

method_called : goes 10 [] [] method_called_script ≡ ([], Left 10 why.Builtin 0 0)
unfolding count turn new_object call_builtin construct get_row bracket_row set_row test_row logical_row binary_row unary_row step_row open_cell init_name find_name read_name put_name digits
method_called = path_is 10 [] [] method_called_script refl

-- "a".charAt;
abbrev method_alone_script : List KnownStmt
method_alone_script = (express 0 (call (leaf (Expr-F.Text 0 (codes "a"))) (get (dot 3 (codes "charAt")) ∷ [])) ∷ [])

method_alone : goes 10 [] [] method_alone_script ≡ ([], Left 3 why.Builtin 0 0)
unfolding count turn new_object call_builtin construct get_row bracket_row set_row test_row logical_row binary_row unary_row step_row open_cell init_name find_name read_name put_name digits
method_alone = path_is 10 [] [] method_alone_script refl

-- "a"["charAt"](0);
abbrev method_in_brackets_script : List KnownStmt
method_in_brackets_script = (express 0 (call (leaf (Expr-F.Text 0 (codes "a"))) (get (bracket 3 true (leaf
    (Expr-F.Text 4 (codes "charAt")))) ∷ call_ 13 (leaf (Expr-F.Number 14 0) ∷ []) ∷ [])) ∷ [])

method_in_brackets : goes 10 [] [] method_in_brackets_script ≡ ([], Left 13 why.Builtin 0 0)
unfolding count turn new_object call_builtin construct get_row bracket_row set_row test_row logical_row binary_row unary_row step_row open_cell init_name find_name read_name put_name digits
method_in_brackets = path_is 10 [] [] method_in_brackets_script refl

-- "a".charAt[foo];
abbrev method_then_key_script : List KnownStmt
method_then_key_script = (express 0 (call (leaf (Expr-F.Text 0 (codes "a"))) (get (dot 3 (codes "charAt")) ∷ get
    (bracket 10 false (leaf (Expr-F.Name (named 11 (codes "foo"))))) ∷ [])) ∷ [])

method_then_key : goes 10 [] [] method_then_key_script ≡ ([], Left 3 why.Builtin 0 0)
unfolding count turn new_object call_builtin construct get_row bracket_row set_row test_row logical_row binary_row unary_row step_row open_cell init_name find_name read_name put_name digits
method_then_key = path_is 10 [] [] method_then_key_script refl

-- undefined = 1;
abbrev undefined_written_script : List KnownStmt
undefined_written_script = (express 0 (assign 0 10 None (to_name (named 0 (codes "undefined"))) (leaf (Expr-F.Number
    12 1))) ∷ [])

undefined_written : goes 10 [] [] undefined_written_script ≡ ([], Left 0 why.Builtin 0 0)
unfolding count turn new_object call_builtin construct get_row bracket_row set_row test_row logical_row binary_row unary_row step_row open_cell init_name find_name read_name put_name digits
undefined_written = path_is 10 [] [] undefined_written_script refl

-- NaN++;
abbrev nan_stepped_script : List KnownStmt
nan_stepped_script = (express 0 (step 0 3 Increment false (to_name (named 0 (codes "NaN")))) ∷ [])

nan_stepped : goes 10 [] [] nan_stepped_script ≡ ([], Left 0 why.Builtin 0 0)
unfolding count turn new_object call_builtin construct get_row bracket_row set_row test_row logical_row binary_row unary_row step_row open_cell init_name find_name read_name put_name digits
nan_stepped = path_is 10 [] [] nan_stepped_script refl

-- Object.x = foo;
abbrev builtin_property_written_script : List KnownStmt
builtin_property_written_script = (express 0 (assign 0 9 None (to_property (leaf (Expr-F.Name (named 0 (codes
    "Object")))) (dot 6 (codes "x"))) (leaf (Expr-F.Name (named 11 (codes "foo"))))) ∷ [])

builtin_property_written : goes 10 [] [] builtin_property_written_script ≡ ([], Left 6 why.Builtin 0 0)
unfolding count turn new_object call_builtin construct get_row bracket_row set_row test_row logical_row binary_row unary_row step_row open_cell init_name find_name read_name put_name digits
builtin_property_written = path_is 10 [] [] builtin_property_written_script refl

-- new Error("x");
abbrev error_made_script : List KnownStmt
error_made_script = (express 0 (new_ 0 (named 4 (codes "Error")) (leaf (Expr-F.Text 10 (codes "x")) ∷ [])) ∷ [])

error_made : goes 10 [] [] error_made_script ≡ ([], Left 0 why.Builtin 0 0)
unfolding count turn new_object call_builtin construct get_row bracket_row set_row test_row logical_row binary_row unary_row step_row open_cell init_name find_name read_name put_name digits
error_made = path_is 10 [] [] error_made_script refl

-- let F = 1; new F(foo);
abbrev not_new_script : List KnownStmt
not_new_script = (declare_ 0 Let ((named 4 (codes "F"), (Some (leaf (Expr-F.Number 8 1)))) ∷ []) ∷ express 11 (new_ 11
    (named 15 (codes "F")) (leaf (Expr-F.Name (named 17 (codes "foo"))) ∷ [])) ∷ [])

not_new : goes 10 [] [] not_new_script ≡ ([], Left 11 why.New 0 0)
unfolding count turn new_object call_builtin construct get_row bracket_row set_row test_row logical_row binary_row unary_row step_row open_cell init_name find_name read_name put_name digits
not_new = path_is 10 [] [] not_new_script refl

-- new Object(foo);
abbrev builtin_not_new_script : List KnownStmt
builtin_not_new_script = (express 0 (new_ 0 (named 4 (codes "Object")) (leaf (Expr-F.Name (named 11 (codes "foo"))) ∷
    [])) ∷ [])

builtin_not_new : goes 10 [] [] builtin_not_new_script ≡ ([], Left 0 why.New 0 0)
unfolding count turn new_object call_builtin construct get_row bracket_row set_row test_row logical_row binary_row unary_row step_row open_cell init_name find_name read_name put_name digits
builtin_not_new = path_is 10 [] [] builtin_not_new_script refl

-- (1 ? "a".charAt : 0)(0);
abbrev method_chosen_script : List KnownStmt
method_chosen_script = (express 0 (call (conditional 1 3 (leaf (Expr-F.Number 1 1)) (call (leaf (Expr-F.Text 5 (codes
    "a"))) (get (dot 8 (codes "charAt")) ∷ [])) (leaf (Expr-F.Number 18 0))) (call_ 20 (leaf (Expr-F.Number 21 0) ∷
    []) ∷ [])) ∷ [])

method_chosen : goes 10 [] [] method_chosen_script ≡ ((branched 3 1 ∷ []), Left 8 why.Builtin 0 0)
unfolding count turn new_object call_builtin construct get_row bracket_row set_row test_row logical_row binary_row unary_row step_row open_cell init_name find_name read_name put_name digits
method_chosen = path_is 10 [] [] method_chosen_script refl

-- (0 || "a".charAt)(0);
abbrev method_behind_or_script : List KnownStmt
method_behind_or_script = (express 0 (call (logical (leaf (Expr-F.Number 1 0)) (link 3 logic.Or (call (leaf
    (Expr-F.Text 6 (codes "a"))) (get (dot 9 (codes "charAt")) ∷ [])) ∷ [])) (call_ 17 (leaf (Expr-F.Number 18 0) ∷
    []) ∷ [])) ∷ [])

method_behind_or : goes 10 [] [] method_behind_or_script ≡ ((branched 3 0 ∷ []), Left 9 why.Builtin 0 0)
unfolding count turn new_object call_builtin construct get_row bracket_row set_row test_row logical_row binary_row unary_row step_row open_cell init_name find_name read_name put_name digits
method_behind_or = path_is 10 [] [] method_behind_or_script refl

-- (0 || Object.keys)(0);
abbrev listed_behind_or_script : List KnownStmt
listed_behind_or_script = (express 0 (call (logical (leaf (Expr-F.Number 1 0)) (link 3 logic.Or (call (leaf
    (Expr-F.Name (named 6 (codes "Object")))) (get (dot 12 (codes "keys")) ∷ [])) ∷ [])) (call_ 18 (leaf
    (Expr-F.Number 19 0) ∷ []) ∷ [])) ∷ [])

listed_behind_or : goes 10 [] [] listed_behind_or_script ≡ ((branched 3 0 ∷ []), Left 12 why.Builtin 0 0)
unfolding count turn new_object call_builtin construct get_row bracket_row set_row test_row logical_row binary_row unary_row step_row open_cell init_name find_name read_name put_name digits
listed_behind_or = path_is 10 [] [] listed_behind_or_script refl

-- (Object.keys)(0);
abbrev listed_in_parentheses_script : List KnownStmt
listed_in_parentheses_script = (express 0 (call (call (leaf (Expr-F.Name (named 1 (codes "Object")))) (get (dot 7
    (codes "keys")) ∷ [])) (call_ 13 (leaf (Expr-F.Number 14 0) ∷ []) ∷ [])) ∷ [])

listed_in_parentheses : goes 10 [] [] listed_in_parentheses_script ≡ ([], Left 13 why.Builtin 0 0)
unfolding count turn new_object call_builtin construct get_row bracket_row set_row test_row logical_row binary_row unary_row step_row open_cell init_name find_name read_name put_name digits
listed_in_parentheses = path_is 10 [] [] listed_in_parentheses_script refl

-- [].keys();
abbrev listed_of_array_script : List KnownStmt
listed_of_array_script = (express 0 (call (array 0 []) (get (dot 2 (codes "keys")) ∷ call_ 7 [] ∷ [])) ∷ [])

listed_of_array : goes 10 [] [] listed_of_array_script ≡ ([], Left 7 why.Builtin 0 0)
unfolding count turn new_object call_builtin construct get_row bracket_row set_row test_row logical_row binary_row unary_row step_row open_cell init_name find_name read_name put_name digits
listed_of_array = path_is 10 [] [] listed_of_array_script refl

-- (5).slice(1);
abbrev method_of_number_script : List KnownStmt
method_of_number_script = (express 0 (call (leaf (Expr-F.Number 1 5)) (get (dot 3 (codes "slice")) ∷ call_ 9 (leaf
    (Expr-F.Number 10 1) ∷ []) ∷ [])) ∷ [])

method_of_number : goes 10 [] [] method_of_number_script ≡ ([], Left 9 why.Builtin 0 0)
unfolding count turn new_object call_builtin construct get_row bracket_row set_row test_row logical_row binary_row unary_row step_row open_cell init_name find_name read_name put_name digits
method_of_number = path_is 10 [] [] method_of_number_script refl

-- "a".exec;
abbrev pattern_method_of_text_script : List KnownStmt
pattern_method_of_text_script = (express 0 (call (leaf (Expr-F.Text 0 (codes "a"))) (get (dot 3 (codes "exec")) ∷ []))
    ∷ [])

pattern_method_of_text : goes 10 [] [] pattern_method_of_text_script ≡ ([], Left 3 why.Builtin 0 0)
unfolding count turn new_object call_builtin construct get_row bracket_row set_row test_row logical_row binary_row unary_row step_row open_cell init_name find_name read_name put_name digits
pattern_method_of_text = path_is 10 [] [] pattern_method_of_text_script refl

-- "a"["charAt"] += zz; which is read before its right side
abbrev method_read_and_written_script : List KnownStmt
method_read_and_written_script = (express 0 (assign 0 14 (Some Add) (to_property (leaf (Expr-F.Text 0 (codes "a"))) (bracket 3 true
    (leaf (Expr-F.Text 4 (codes "charAt"))))) (leaf (Expr-F.Name (named 17 (codes "zz"))))) ∷ [])

method_read_and_written : goes 10 [] [] method_read_and_written_script ≡ ([], Left 3 why.Builtin 0 0)
unfolding count turn new_object call_builtin construct get_row bracket_row set_row test_row logical_row binary_row unary_row step_row open_cell init_name find_name read_name put_name digits
method_read_and_written = path_is 10 [] [] method_read_and_written_script refl

-- "a"["charAt"] = zz; which isn't read
abbrev method_written_script : List KnownStmt
method_written_script = (express 0 (assign 0 14 None (to_property (leaf (Expr-F.Text 0 (codes "a"))) (bracket 3 true
    (leaf (Expr-F.Text 4 (codes "charAt"))))) (leaf (Expr-F.Name (named 16 (codes "zz"))))) ∷ [])

method_written : goes 10 [] [] method_written_script ≡ ([], Left 3 why.Key 0 0)
unfolding count turn new_object call_builtin construct get_row bracket_row set_row test_row logical_row binary_row unary_row step_row open_cell init_name find_name read_name put_name digits
method_written = path_is 10 [] [] method_written_script refl
