-- Examples of expressions.
use Rattle.std.proofs.Common.{◌≡◌, true, false, List, [], ◌∷◌, codes, Some, None, refl}
use Rattle.std.specs.Fmt.{digits}
use Rattle.path_core.specs.declared.path.End.TheVariants.{Done}
use Rattle.js_ast.specs.declared.operators.BinaryOp.TheVariants as op
use Rattle.js_ast.specs.declared.operators.StepOp.TheVariants.{Increment, Decrement}
use Rattle.js_ast.specs.declared.operators.LogicalOp.TheVariants as logic
use Rattle.js_ast.specs.declared.operators.DeclarationKind.TheVariants.{Let}
use Rattle.js_ast.specs.declared.parts.Key.TheVariants as key
use Rattle.js_ast.specs.declared.expression.Expr.TheOpen.{Expr-F, Stmt-F}
use Rattle.js_meaning.specs.Running.{count, turn, new_object}
use Rattle.js_meaning.specs.Builtins.{call_builtin, construct}
use Rattle.js_meaning.specs.Objects.{get_row, bracket_row, set_row}
use Rattle.js_meaning.specs.Operators.{test_row, logical_row, binary_row, unary_row, step_row}
use Rattle.js_meaning.specs.Names.{open_cell, init_name, find_name, read_name, put_name}
use Rattle.js_meaning.proofs.Known.{named, leaf, conditional, link, binary, logical, valued, short, object, dot, get, call_, call, to_name, to_property, step, assign}
use Rattle.js_meaning.proofs.KnownStatements.{KnownStmt, stmt_trees, known_block, body_known, function_, arrow_block, still, braces, express, return_, declare_}
use Rattle.js_meaning.proofs.KnownForms.{when, if_}
use Rattle.js_meaning.proofs.Runs.{branched, goes, uses, runs, path_is, steps_are}
use Rattle.js_ast.specs.declared.statement.Stmt.{Stmt}
use Rattle.js_meaning.specs.Values.{statements}
use Rattle.js_meaning.specs.Meaning.{body_of}

-- 0 && 1 && 2;
abbrev chain_of_and_script : List KnownStmt
chain_of_and_script = (express 0 (logical (leaf (Expr-F.Number 0 0)) (link 2 logic.And (leaf (Expr-F.Number 5 1)) ∷
    link 7 logic.And (leaf (Expr-F.Number 10 2)) ∷ [])) ∷ [])

chain_of_and : goes 10 [] [] chain_of_and_script ≡ ((branched 2 0 ∷ branched 7 0 ∷ []), Done)
unfolding count turn new_object call_builtin construct get_row bracket_row set_row test_row logical_row binary_row unary_row step_row open_cell init_name find_name read_name put_name digits
chain_of_and = path_is 10 [] [] chain_of_and_script refl

chain_of_and_steps : uses 10 [] [] chain_of_and_script ≡ 4
unfolding count turn new_object call_builtin construct get_row bracket_row set_row test_row logical_row binary_row unary_row step_row open_cell init_name find_name read_name put_name digits
chain_of_and_steps = steps_are 10 [] [] chain_of_and_script refl

-- 0 || 2 || foo;
abbrev chain_of_or_script : List KnownStmt
chain_of_or_script = (express 0 (logical (leaf (Expr-F.Number 0 0)) (link 2 logic.Or (leaf (Expr-F.Number 5 2)) ∷ link
    7 logic.Or (leaf (Expr-F.Name (named 10 (codes "foo")))) ∷ [])) ∷ [])

chain_of_or : goes 10 [] [] chain_of_or_script ≡ ((branched 2 0 ∷ branched 7 1 ∷ []), Done)
unfolding count turn new_object call_builtin construct get_row bracket_row set_row test_row logical_row binary_row unary_row step_row open_cell init_name find_name read_name put_name digits
chain_of_or = path_is 10 [] [] chain_of_or_script refl

-- null ?? 0 ?? foo;
abbrev coalesce_script : List KnownStmt
coalesce_script = (express 0 (logical (leaf (Expr-F.Null 0)) (link 5 logic.Coalesce (leaf (Expr-F.Number 8 0)) ∷ link
    10 logic.Coalesce (leaf (Expr-F.Name (named 13 (codes "foo")))) ∷ [])) ∷ [])

coalesce : goes 10 [] [] coalesce_script ≡ ((branched 5 1 ∷ branched 10 0 ∷ []), Done)
unfolding count turn new_object call_builtin construct get_row bracket_row set_row test_row logical_row binary_row unary_row step_row open_cell init_name find_name read_name put_name digits
coalesce = path_is 10 [] [] coalesce_script refl

-- let x = 1; if (x++ === 1) {} if (x === 2) {} if (--x === 1) {}
abbrev stepped_behind_script : List KnownStmt
stepped_behind_script = (declare_ 0 Let ((named 4 (codes "x"), (Some (leaf (Expr-F.Number 8 1)))) ∷ []) ∷ if_ (when 11
    (binary (step 15 16 Increment false (to_name (named 15 (codes "x")))) (link 19 op.Equal (leaf (Expr-F.Number 23
    1)) ∷ [])) (braces 26 []) ∷ []) ∷ if_ (when 29 (binary (leaf (Expr-F.Name (named 33 (codes "x")))) (link 35
    op.Equal (leaf (Expr-F.Number 39 2)) ∷ [])) (braces 42 []) ∷ []) ∷ if_ (when 45 (binary (step 49 49 Decrement true
    (to_name (named 51 (codes "x")))) (link 53 op.Equal (leaf (Expr-F.Number 57 1)) ∷ [])) (braces 60 []) ∷ []) ∷ [])

stepped_behind : goes 10 [] [] stepped_behind_script ≡ ((branched 11 1 ∷ branched 29 1 ∷ branched 45 1 ∷ []), Done)
unfolding count turn new_object call_builtin construct get_row bracket_row set_row test_row logical_row binary_row unary_row step_row open_cell init_name find_name read_name put_name digits
stepped_behind = path_is 10 [] [] stepped_behind_script refl

-- let s = "a"; s += 1; if (s === "a1") {}
abbrev compound_script : List KnownStmt
compound_script = (declare_ 0 Let ((named 4 (codes "s"), (Some (leaf (Expr-F.Text 8 (codes "a"))))) ∷ []) ∷ express 13
    (assign 13 15 (Some op.Add) (to_name (named 13 (codes "s"))) (leaf (Expr-F.Number 18 1))) ∷ if_ (when 21 (binary
    (leaf (Expr-F.Name (named 25 (codes "s")))) (link 27 op.Equal (leaf (Expr-F.Text 31 (codes "a1"))) ∷ [])) (braces
    37 []) ∷ []) ∷ [])

compound : goes 10 [] [] compound_script ≡ ((branched 21 1 ∷ []), Done)
unfolding count turn new_object call_builtin construct get_row bracket_row set_row test_row logical_row binary_row unary_row step_row open_cell init_name find_name read_name put_name digits
compound = path_is 10 [] [] compound_script refl

compound_steps : uses 10 [] [] compound_script ≡ 11
unfolding count turn new_object call_builtin construct get_row bracket_row set_row test_row logical_row binary_row unary_row step_row open_cell init_name find_name read_name put_name digits
compound_steps = steps_are 10 [] [] compound_script refl

-- let o = { a: 1 }; o.a += 2; if (o.a === 3) {}
abbrev compound_property_script : List KnownStmt
compound_property_script = (declare_ 0 Let ((
  named 4 (codes "o"),
  (Some (object 8 (valued 10 (key.Text (codes "a"))
      (leaf (Expr-F.Number 13 1)) ∷ []))),
) ∷ []) ∷ express 18 (assign 18 22 (Some op.Add) (to_property (leaf
    (Expr-F.Name (named 18 (codes "o")))) (dot 19 (codes "a"))) (leaf (Expr-F.Number 25 2))) ∷ if_ (when 28 (binary
    (call (leaf (Expr-F.Name (named 32 (codes "o")))) (get (dot 33 (codes "a")) ∷ [])) (link 36 op.Equal (leaf
    (Expr-F.Number 40 3)) ∷ [])) (braces 43 []) ∷ []) ∷ [])

compound_property : goes 10 [] [] compound_property_script ≡ ((branched 28 1 ∷ []), Done)
unfolding count turn new_object call_builtin construct get_row bracket_row set_row test_row logical_row binary_row unary_row step_row open_cell init_name find_name read_name put_name digits
compound_property = path_is 10 [] [] compound_property_script refl

-- let a = 1; let o = { a, 7: 2 }; if (o.a === 1) {} if (o.b === undefined) {}
abbrev own_keys_of_plain_script : List KnownStmt
own_keys_of_plain_script = (declare_ 0 Let ((named 4 (codes "a"), (Some (leaf (Expr-F.Number 8 1)))) ∷ []) ∷ declare_
    11 Let ((
      named 15 (codes "o"),
      (Some (object 19 (short (named 21 (codes "a")) ∷ valued 24 (key.Number 7) (leaf
          (Expr-F.Number 27 2)) ∷ []))),
    ) ∷ []) ∷ if_ (when 32 (binary (call (leaf (Expr-F.Name (named 36 (codes "o")))) (get
    (dot 37 (codes "a")) ∷ [])) (link 40 op.Equal (leaf (Expr-F.Number 44 1)) ∷ [])) (braces 47 []) ∷ []) ∷ if_ (when
    50 (binary (call (leaf (Expr-F.Name (named 54 (codes "o")))) (get (dot 55 (codes "b")) ∷ [])) (link 58 op.Equal
    (leaf (Expr-F.Name (named 62 (codes "undefined")))) ∷ [])) (braces 73 []) ∷ []) ∷ [])

own_keys_of_plain : goes 10 [] [] own_keys_of_plain_script ≡ ((branched 32 1 ∷ branched 50 1 ∷ []), Done)
unfolding count turn new_object call_builtin construct get_row bracket_row set_row test_row logical_row binary_row unary_row step_row open_cell init_name find_name read_name put_name digits
own_keys_of_plain = path_is 10 [] [] own_keys_of_plain_script refl

-- let o = {}; o.x = 1; if (o.x === 1) {}
abbrev property_made_script : List KnownStmt
property_made_script = (declare_ 0 Let ((named 4 (codes "o"), (Some (object 8 []))) ∷ []) ∷ express 12 (assign 12 16
    None (to_property (leaf (Expr-F.Name (named 12 (codes "o")))) (dot 13 (codes "x"))) (leaf (Expr-F.Number 18 1))) ∷
    if_ (when 21 (binary (call (leaf (Expr-F.Name (named 25 (codes "o")))) (get (dot 26 (codes "x")) ∷ [])) (link 29
    op.Equal (leaf (Expr-F.Number 33 1)) ∷ [])) (braces 36 []) ∷ []) ∷ [])

property_made : goes 10 [] [] property_made_script ≡ ((branched 21 1 ∷ []), Done)
unfolding count turn new_object call_builtin construct get_row bracket_row set_row test_row logical_row binary_row unary_row step_row open_cell init_name find_name read_name put_name digits
property_made = path_is 10 [] [] property_made_script refl

property_made_steps : uses 10 [] [] property_made_script ≡ 13
unfolding count turn new_object call_builtin construct get_row bracket_row set_row test_row logical_row binary_row unary_row step_row open_cell init_name find_name read_name put_name digits
property_made_steps = steps_are 10 [] [] property_made_script refl

-- let o = { m: function () { return this; } }; let r = o.m(); if (r === o) {}
abbrev this_of_method_body_1 : List KnownStmt
this_of_method_body_1 = (return_ 27 (leaf (Expr-F.This 34)) ∷ [])

abbrev this_of_method_script : List Stmt → List KnownStmt
this_of_method_script ss1 = (declare_ 0 Let ((
  named 4 (codes "o"),
  (Some (object 8 (valued 10 (key.Text (codes "m"))
      (function_ 13 None [] ss1) ∷ []))),
) ∷ []) ∷ declare_ 45 Let ((
  named 49 (codes "r"),
  (Some (call (leaf (Expr-F.Name
      (named 53 (codes "o")))) (get (dot 54 (codes "m")) ∷ call_ 56 [] ∷ []))),
) ∷ []) ∷ if_ (when 60 (binary (leaf
    (Expr-F.Name (named 64 (codes "r")))) (link 66 op.Equal (leaf (Expr-F.Name (named 70 (codes "o")))) ∷ [])) (braces
    73 []) ∷ []) ∷ [])

this_of_method_run : (ss1 : List Stmt) → body_of (statements ss1) ≡ known_block this_of_method_body_1 → runs 1 [] []
    (this_of_method_script ss1) ≡ ((branched 60 1 ∷ []), Done)
unfolding count turn new_object call_builtin construct get_row bracket_row set_row test_row logical_row binary_row unary_row step_row open_cell init_name find_name read_name put_name digits
this_of_method_run ss1 p1 = rw p1 refl

this_of_method : goes 1 [] [] (this_of_method_script (stmt_trees this_of_method_body_1)) ≡ (
  (branched 60 1 ∷ []),
  Done,
)
this_of_method = path_is 1 [] [] (this_of_method_script (stmt_trees this_of_method_body_1)) (this_of_method_run
    (stmt_trees this_of_method_body_1) (body_known this_of_method_body_1))

-- let o = { m: function () { return this; } }; let r = (o.m)(); if (r === o) {}
abbrev this_in_parentheses_body_1 : List KnownStmt
this_in_parentheses_body_1 = (return_ 27 (leaf (Expr-F.This 34)) ∷ [])

abbrev this_in_parentheses_script : List Stmt → List KnownStmt
this_in_parentheses_script ss1 = (declare_ 0 Let ((
  named 4 (codes "o"),
  (Some (object 8 (valued 10 (key.Text (codes
      "m")) (function_ 13 None [] ss1) ∷ []))),
) ∷ []) ∷ declare_ 45 Let ((
  named 49 (codes "r"),
  (Some (call (call (leaf
      (Expr-F.Name (named 54 (codes "o")))) (get (dot 55 (codes "m")) ∷ [])) (call_ 58 [] ∷ []))),
) ∷ []) ∷ if_ (when 62
    (binary (leaf (Expr-F.Name (named 66 (codes "r")))) (link 68 op.Equal (leaf (Expr-F.Name (named 72 (codes "o"))))
    ∷ [])) (braces 75 []) ∷ []) ∷ [])

this_in_parentheses_run : (ss1 : List Stmt) → body_of (statements ss1) ≡ known_block this_in_parentheses_body_1 → runs
    1 [] [] (this_in_parentheses_script ss1) ≡ ((branched 62 1 ∷ []), Done)
unfolding count turn new_object call_builtin construct get_row bracket_row set_row test_row logical_row binary_row unary_row step_row open_cell init_name find_name read_name put_name digits
this_in_parentheses_run ss1 p1 = rw p1 refl

this_in_parentheses : goes 1 [] [] (this_in_parentheses_script (stmt_trees this_in_parentheses_body_1)) ≡ (
  (branched
      62 1 ∷ []),
  Done,
)
this_in_parentheses = path_is 1 [] [] (this_in_parentheses_script (stmt_trees this_in_parentheses_body_1))
    (this_in_parentheses_run (stmt_trees this_in_parentheses_body_1) (body_known this_in_parentheses_body_1))

-- let r = (function () { return this; })(); if (r === undefined) {}
abbrev this_of_function_body_1 : List KnownStmt
this_of_function_body_1 = (return_ 23 (leaf (Expr-F.This 30)) ∷ [])

abbrev this_of_function_script : List Stmt → List KnownStmt
this_of_function_script ss1 = (declare_ 0 Let ((
  named 4 (codes "r"),
  (Some (call (function_ 9 None [] ss1) (call_ 38
      [] ∷ []))),
) ∷ []) ∷ if_ (when 42 (binary (leaf (Expr-F.Name (named 46 (codes "r")))) (link 48 op.Equal (leaf
    (Expr-F.Name (named 52 (codes "undefined")))) ∷ [])) (braces 63 []) ∷ []) ∷ [])

this_of_function_run : (ss1 : List Stmt) → body_of (statements ss1) ≡ known_block this_of_function_body_1 → runs 1 []
    [] (this_of_function_script ss1) ≡ ((branched 42 1 ∷ []), Done)
unfolding count turn new_object call_builtin construct get_row bracket_row set_row test_row logical_row binary_row unary_row step_row open_cell init_name find_name read_name put_name digits
this_of_function_run ss1 p1 = rw p1 refl

this_of_function : goes 1 [] [] (this_of_function_script (stmt_trees this_of_function_body_1)) ≡ (
  (branched 42 1 ∷
      []),
  Done,
)
this_of_function = path_is 1 [] [] (this_of_function_script (stmt_trees this_of_function_body_1))
    (this_of_function_run (stmt_trees this_of_function_body_1) (body_known this_of_function_body_1))

-- function f(a, b) { return b; } let r = f(1); if (r === undefined) {}
abbrev missing_argument_body_1 : List KnownStmt
missing_argument_body_1 = (return_ 19 (leaf (Expr-F.Name (named 26 (codes "b")))) ∷ [])

abbrev missing_argument_script : List Stmt → List KnownStmt
missing_argument_script ss1 = (still (Stmt-F.Function 0 (named 9 (codes "f")) ((named 11 (codes "a")) ∷ (named 14
    (codes "b")) ∷ []) ss1) ∷ declare_ 31 Let ((
      named 35 (codes "r"),
      (Some (call (leaf (Expr-F.Name (named 39 (codes
          "f")))) (call_ 40 (leaf (Expr-F.Number 41 1) ∷ []) ∷ []))),
    ) ∷ []) ∷ if_ (when 45 (binary (leaf (Expr-F.Name (named
    49 (codes "r")))) (link 51 op.Equal (leaf (Expr-F.Name (named 55 (codes "undefined")))) ∷ [])) (braces 66 []) ∷
    []) ∷ [])

missing_argument_run : (ss1 : List Stmt) → body_of (statements ss1) ≡ known_block missing_argument_body_1 → runs 1 []
    [] (missing_argument_script ss1) ≡ ((branched 45 1 ∷ []), Done)
unfolding count turn new_object call_builtin construct get_row bracket_row set_row test_row logical_row binary_row unary_row step_row open_cell init_name find_name read_name put_name digits
missing_argument_run ss1 p1 = rw p1 refl

missing_argument : goes 1 [] [] (missing_argument_script (stmt_trees missing_argument_body_1)) ≡ (
  (branched 45 1 ∷
      []),
  Done,
)
missing_argument = path_is 1 [] [] (missing_argument_script (stmt_trees missing_argument_body_1))
    (missing_argument_run (stmt_trees missing_argument_body_1) (body_known missing_argument_body_1))

-- function f(a) { return a; } let r = f(1, 2); if (r === 1) {}
abbrev further_argument_body_1 : List KnownStmt
further_argument_body_1 = (return_ 16 (leaf (Expr-F.Name (named 23 (codes "a")))) ∷ [])

abbrev further_argument_script : List Stmt → List KnownStmt
further_argument_script ss1 = (still (Stmt-F.Function 0 (named 9 (codes "f")) ((named 11 (codes "a")) ∷ []) ss1) ∷
    declare_ 28 Let ((
      named 32 (codes "r"),
      (Some (call (leaf (Expr-F.Name (named 36 (codes "f")))) (call_ 37 (leaf
          (Expr-F.Number 38 1) ∷ leaf (Expr-F.Number 41 2) ∷ []) ∷ []))),
    ) ∷ []) ∷ if_ (when 45 (binary (leaf (Expr-F.Name
    (named 49 (codes "r")))) (link 51 op.Equal (leaf (Expr-F.Number 55 1)) ∷ [])) (braces 58 []) ∷ []) ∷ [])

further_argument_run : (ss1 : List Stmt) → body_of (statements ss1) ≡ known_block further_argument_body_1 → runs 1 []
    [] (further_argument_script ss1) ≡ ((branched 45 1 ∷ []), Done)
unfolding count turn new_object call_builtin construct get_row bracket_row set_row test_row logical_row binary_row unary_row step_row open_cell init_name find_name read_name put_name digits
further_argument_run ss1 p1 = rw p1 refl

further_argument : goes 1 [] [] (further_argument_script (stmt_trees further_argument_body_1)) ≡ (
  (branched 45 1 ∷
      []),
  Done,
)
further_argument = path_is 1 [] [] (further_argument_script (stmt_trees further_argument_body_1))
    (further_argument_run (stmt_trees further_argument_body_1) (body_known further_argument_body_1))

-- let c = 0; let f = () => { c++; }; f(); if (c === 1) {}
abbrev counter_body_1 : List KnownStmt
counter_body_1 = (express 27 (step 27 28 Increment false (to_name (named 27 (codes "c")))) ∷ [])

abbrev counter_script : List Stmt → List KnownStmt
counter_script ss1 = (declare_ 0 Let ((named 4 (codes "c"), (Some (leaf (Expr-F.Number 8 0)))) ∷ []) ∷ declare_ 11 Let
    ((named 15 (codes "f"), (Some (arrow_block 19 [] ss1))) ∷ []) ∷ express 35 (call (leaf (Expr-F.Name (named 35
    (codes "f")))) (call_ 36 [] ∷ [])) ∷ if_ (when 40 (binary (leaf (Expr-F.Name (named 44 (codes "c")))) (link 46
    op.Equal (leaf (Expr-F.Number 50 1)) ∷ [])) (braces 53 []) ∷ []) ∷ [])

counter_run : (ss1 : List Stmt) → body_of (statements ss1) ≡ known_block counter_body_1 → runs 1 [] [] (counter_script
    ss1) ≡ ((branched 40 1 ∷ []), Done)
unfolding count turn new_object call_builtin construct get_row bracket_row set_row test_row logical_row binary_row unary_row step_row open_cell init_name find_name read_name put_name digits
counter_run ss1 p1 = rw p1 refl

counter : goes 1 [] [] (counter_script (stmt_trees counter_body_1)) ≡ ((branched 40 1 ∷ []), Done)
counter = path_is 1 [] [] (counter_script (stmt_trees counter_body_1)) (counter_run (stmt_trees counter_body_1)
    (body_known counter_body_1))

-- let o = { m: function () { return this; } }; let r = (1 ? o.m : 0)(); if (r === undefined) {}
abbrev no_this_of_choice_body_1 : List KnownStmt
no_this_of_choice_body_1 = (return_ 27 (leaf (Expr-F.This 34)) ∷ [])

abbrev no_this_of_choice_script : List Stmt → List KnownStmt
no_this_of_choice_script ss1 = (declare_ 0 Let ((
  named 4 (codes "o"),
  (Some (object 8 (valued 10 (key.Text (codes
      "m")) (function_ 13 None [] ss1) ∷ []))),
) ∷ []) ∷ declare_ 45 Let ((
  named 49 (codes "r"),
  (Some (call (conditional
      54 56 (leaf (Expr-F.Number 54 1)) (call (leaf (Expr-F.Name (named 58 (codes "o")))) (get (dot 59 (codes "m")) ∷
      [])) (leaf (Expr-F.Number 64 0))) (call_ 66 [] ∷ []))),
) ∷ []) ∷ if_ (when 70 (binary (leaf (Expr-F.Name (named 74
    (codes "r")))) (link 76 op.Equal (leaf (Expr-F.Name (named 80 (codes "undefined")))) ∷ [])) (braces 91 []) ∷ []) ∷
    [])

no_this_of_choice_run : (ss1 : List Stmt) → body_of (statements ss1) ≡ known_block no_this_of_choice_body_1 → runs 1
    [] [] (no_this_of_choice_script ss1) ≡ ((branched 56 1 ∷ branched 70 1 ∷ []), Done)
unfolding count turn new_object call_builtin construct get_row bracket_row set_row test_row logical_row binary_row unary_row step_row open_cell init_name find_name read_name put_name digits
no_this_of_choice_run ss1 p1 = rw p1 refl

no_this_of_choice : goes 1 [] [] (no_this_of_choice_script (stmt_trees no_this_of_choice_body_1)) ≡ (
  (branched 56 1 ∷
      branched 70 1 ∷ []),
  Done,
)
no_this_of_choice = path_is 1 [] [] (no_this_of_choice_script (stmt_trees no_this_of_choice_body_1))
    (no_this_of_choice_run (stmt_trees no_this_of_choice_body_1) (body_known no_this_of_choice_body_1))

-- let o = { m: function () { return this; } }; let r = (0 || o.m)(); if (r === undefined) {}
abbrev no_this_of_or_body_1 : List KnownStmt
no_this_of_or_body_1 = (return_ 27 (leaf (Expr-F.This 34)) ∷ [])

abbrev no_this_of_or_script : List Stmt → List KnownStmt
no_this_of_or_script ss1 = (declare_ 0 Let ((
  named 4 (codes "o"),
  (Some (object 8 (valued 10 (key.Text (codes "m"))
      (function_ 13 None [] ss1) ∷ []))),
) ∷ []) ∷ declare_ 45 Let ((
  named 49 (codes "r"),
  (Some (call (logical (leaf
      (Expr-F.Number 54 0)) (link 56 logic.Or (call (leaf (Expr-F.Name (named 59 (codes "o")))) (get (dot 60 (codes
      "m")) ∷ [])) ∷ [])) (call_ 63 [] ∷ []))),
) ∷ []) ∷ if_ (when 67 (binary (leaf (Expr-F.Name (named 71 (codes "r"))))
    (link 73 op.Equal (leaf (Expr-F.Name (named 77 (codes "undefined")))) ∷ [])) (braces 88 []) ∷ []) ∷ [])

no_this_of_or_run : (ss1 : List Stmt) → body_of (statements ss1) ≡ known_block no_this_of_or_body_1 → runs 1 [] []
    (no_this_of_or_script ss1) ≡ ((branched 56 0 ∷ branched 67 1 ∷ []), Done)
unfolding count turn new_object call_builtin construct get_row bracket_row set_row test_row logical_row binary_row unary_row step_row open_cell init_name find_name read_name put_name digits
no_this_of_or_run ss1 p1 = rw p1 refl

no_this_of_or : goes 1 [] [] (no_this_of_or_script (stmt_trees no_this_of_or_body_1)) ≡ (
  (branched 56 0 ∷ branched 67
      1 ∷ []),
  Done,
)
no_this_of_or = path_is 1 [] [] (no_this_of_or_script (stmt_trees no_this_of_or_body_1)) (no_this_of_or_run
    (stmt_trees no_this_of_or_body_1) (body_known no_this_of_or_body_1))

-- let x = 7; x -= 2; x *= 6; x /= 5; x %= 4; if (x === 2) {}
abbrev compounds_script : List KnownStmt
compounds_script = (declare_ 0 Let ((named 4 (codes "x"), (Some (leaf (Expr-F.Number 8 7)))) ∷ []) ∷ express 11
    (assign 11 13 (Some op.Subtract) (to_name (named 11 (codes "x"))) (leaf (Expr-F.Number 16 2))) ∷ express 19
    (assign 19 21 (Some op.Multiply) (to_name (named 19 (codes "x"))) (leaf (Expr-F.Number 24 6))) ∷ express 27
    (assign 27 29 (Some op.Divide) (to_name (named 27 (codes "x"))) (leaf (Expr-F.Number 32 5))) ∷ express 35 (assign
    35 37 (Some op.Remainder) (to_name (named 35 (codes "x"))) (leaf (Expr-F.Number 40 4))) ∷ if_ (when 43 (binary
    (leaf (Expr-F.Name (named 47 (codes "x")))) (link 49 op.Equal (leaf (Expr-F.Number 53 2)) ∷ [])) (braces 56 []) ∷
    []) ∷ [])

compounds : goes 10 [] [] compounds_script ≡ ((branched 43 1 ∷ []), Done)
unfolding count turn new_object call_builtin construct get_row bracket_row set_row test_row logical_row binary_row unary_row step_row open_cell init_name find_name read_name put_name digits
compounds = path_is 10 [] [] compounds_script refl

compounds_steps : uses 10 [] [] compounds_script ≡ 23
unfolding count turn new_object call_builtin construct get_row bracket_row set_row test_row logical_row binary_row unary_row step_row open_cell init_name find_name read_name put_name digits
compounds_steps = steps_are 10 [] [] compounds_script refl

-- let x = 5; x <<= 3; x >>= 1; x >>>= 1; x &= 6; x |= 9; x ^= 1; if (x === 10) {}
abbrev more_compounds_script : List KnownStmt
more_compounds_script = (declare_ 0 Let ((named 4 (codes "x"), (Some (leaf (Expr-F.Number 8 5)))) ∷ []) ∷ express 11
    (assign 11 13 (Some op.ShiftLeft) (to_name (named 11 (codes "x"))) (leaf (Expr-F.Number 17 3))) ∷ express 20
    (assign 20 22 (Some op.ShiftRight) (to_name (named 20 (codes "x"))) (leaf (Expr-F.Number 26 1))) ∷ express 29
    (assign 29 31 (Some op.ShiftRightZero) (to_name (named 29 (codes "x"))) (leaf (Expr-F.Number 36 1))) ∷ express 39
    (assign 39 41 (Some op.BitAnd) (to_name (named 39 (codes "x"))) (leaf (Expr-F.Number 44 6))) ∷ express 47 (assign
    47 49 (Some op.BitOr) (to_name (named 47 (codes "x"))) (leaf (Expr-F.Number 52 9))) ∷ express 55 (assign 55 57
    (Some op.BitXor) (to_name (named 55 (codes "x"))) (leaf (Expr-F.Number 60 1))) ∷ if_ (when 63 (binary (leaf
    (Expr-F.Name (named 67 (codes "x")))) (link 69 op.Equal (leaf (Expr-F.Number 73 10)) ∷ [])) (braces 77 []) ∷ []) ∷
    [])

more_compounds : goes 10 [] [] more_compounds_script ≡ ((branched 63 1 ∷ []), Done)
unfolding count turn new_object call_builtin construct get_row bracket_row set_row test_row logical_row binary_row unary_row step_row open_cell init_name find_name read_name put_name digits
more_compounds = path_is 10 [] [] more_compounds_script refl

-- let x; let y = x = 3; if (y === 3) {}
abbrev assigned_value_script : List KnownStmt
assigned_value_script = (declare_ 0 Let ((named 4 (codes "x"), None) ∷ []) ∷ declare_ 7 Let ((
  named 11 (codes "y"),
  (Some (assign 15 17 None (to_name (named 15 (codes "x"))) (leaf (Expr-F.Number 19 3)))),
) ∷ []) ∷ if_ (when 22
    (binary (leaf (Expr-F.Name (named 26 (codes "y")))) (link 28 op.Equal (leaf (Expr-F.Number 32 3)) ∷ [])) (braces
    35 []) ∷ []) ∷ [])

assigned_value : goes 10 [] [] assigned_value_script ≡ ((branched 22 1 ∷ []), Done)
unfolding count turn new_object call_builtin construct get_row bracket_row set_row test_row logical_row binary_row unary_row step_row open_cell init_name find_name read_name put_name digits
assigned_value = path_is 10 [] [] assigned_value_script refl
