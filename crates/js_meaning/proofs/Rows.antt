-- Worked examples: whole scripts, with the paths of some of their inputs.
use Rattle.std.proofs.Common.{◌≡◌, pos, negsuc, true, List, [], ◌∷◌, codes, Some, refl}
use Rattle.std.specs.Fmt.{digits}
use Rattle.path_core.specs.declared.path.InputValue.TheVariants as input
use Rattle.path_core.specs.declared.path.Thrown.TheVariants as thrown
use Rattle.path_core.specs.declared.path.Budget.TheVariants as budget
use Rattle.path_core.specs.declared.path.Why.TheVariants as why
use Rattle.path_core.specs.declared.path.End.TheVariants.{Done, Threw, Left, Cut}
use Rattle.js_ast.specs.declared.operators.BinaryOp.TheVariants as op
use Rattle.js_ast.specs.declared.operators.StepOp.TheVariants.{Increment}
use Rattle.js_ast.specs.declared.operators.DeclarationKind.TheVariants.{Let}
use Rattle.js_ast.specs.declared.expression.Expr.TheOpen.{Expr-F}
use Rattle.js_meaning.specs.Running.{count, turn, new_object}
use Rattle.js_meaning.specs.Builtins.{call_builtin, construct}
use Rattle.js_meaning.specs.Objects.{get_row, bracket_row, set_row}
use Rattle.js_meaning.specs.Operators.{test_row, logical_row, binary_row, unary_row, step_row}
use Rattle.js_meaning.specs.Names.{open_cell, init_name, find_name, read_name, put_name}
use Rattle.js_meaning.proofs.Known.{Known, named, leaf, link, binary, dot, get, call_, call, to_name, step}
use Rattle.js_meaning.proofs.KnownStatements.{KnownStmt, known_value, value_known, braces, express, throw_, declare_}
use Rattle.js_meaning.proofs.KnownForms.{when, if_, while_, try_}
use Rattle.js_meaning.proofs.Runs.{whole, branched, goes, uses, runs, path_is, steps_are}
use Rattle.js_ast.specs.declared.expression.Expr.{Expr}
use Rattle.js_meaning.specs.Values.{expression}
use Rattle.js_meaning.specs.Meaning.{body_of}

-- the empty script
abbrev empty_script : List KnownStmt
empty_script = []

empty : goes 10 [] [] empty_script ≡ ([], Done)
unfolding count turn new_object call_builtin construct get_row bracket_row set_row test_row logical_row binary_row unary_row step_row open_cell init_name find_name read_name put_name digits
empty = path_is 10 [] [] empty_script refl

empty_steps : uses 10 [] [] empty_script ≡ 0
unfolding count turn new_object call_builtin construct get_row bracket_row set_row test_row logical_row binary_row unary_row step_row open_cell init_name find_name read_name put_name digits
empty_steps = steps_are 10 [] [] empty_script refl

-- if (n === 5) {}
abbrev five_of_0_script : List KnownStmt
five_of_0_script = (if_ (when 0 (binary (leaf (Expr-F.Name (named 4 (codes "n")))) (link 6 op.Equal (leaf
    (Expr-F.Number 10 5)) ∷ [])) (braces 13 []) ∷ []) ∷ [])

five_of_0 : goes 10 (whole (codes "n") (pos 0) (pos 7) ∷ []) (input.Int (pos 0) ∷ []) five_of_0_script ≡ (
  (branched 0
      0 ∷ []),
  Done,
)
unfolding count turn new_object call_builtin construct get_row bracket_row set_row test_row logical_row binary_row unary_row step_row open_cell init_name find_name read_name put_name digits
five_of_0 = path_is 10 (whole (codes "n") (pos 0) (pos 7) ∷ []) (input.Int (pos 0) ∷ []) five_of_0_script refl

five_of_5 : goes 10 (whole (codes "n") (pos 0) (pos 7) ∷ []) (input.Int (pos 5) ∷ []) five_of_0_script ≡ (
  (branched 0
      1 ∷ []),
  Done,
)
unfolding count turn new_object call_builtin construct get_row bracket_row set_row test_row logical_row binary_row unary_row step_row open_cell init_name find_name read_name put_name digits
five_of_5 = path_is 10 (whole (codes "n") (pos 0) (pos 7) ∷ []) (input.Int (pos 5) ∷ []) five_of_0_script refl

five_of_5_steps : uses 10 (whole (codes "n") (pos 0) (pos 7) ∷ []) (input.Int (pos 5) ∷ []) five_of_0_script ≡ 5
unfolding count turn new_object call_builtin construct get_row bracket_row set_row test_row logical_row binary_row unary_row step_row open_cell init_name find_name read_name put_name digits
five_of_5_steps = steps_are 10 (whole (codes "n") (pos 0) (pos 7) ∷ []) (input.Int (pos 5) ∷ []) five_of_0_script refl

-- if (n > 3) { if (n < 2) {} }
abbrev nested_of_0_script : List KnownStmt
nested_of_0_script = (if_ (when 0 (binary (leaf (Expr-F.Name (named 4 (codes "n")))) (link 6 op.Greater (leaf
    (Expr-F.Number 8 3)) ∷ [])) (braces 11 (if_ (when 13 (binary (leaf (Expr-F.Name (named 17 (codes "n")))) (link 19
    op.Less (leaf (Expr-F.Number 21 2)) ∷ [])) (braces 24 []) ∷ []) ∷ [])) ∷ []) ∷ [])

nested_of_0 : goes 10 (whole (codes "n") (pos 0) (pos 4) ∷ []) (input.Int (pos 0) ∷ []) nested_of_0_script ≡
    ((branched 0 0 ∷ []), Done)
unfolding count turn new_object call_builtin construct get_row bracket_row set_row test_row logical_row binary_row unary_row step_row open_cell init_name find_name read_name put_name digits
nested_of_0 = path_is 10 (whole (codes "n") (pos 0) (pos 4) ∷ []) (input.Int (pos 0) ∷ []) nested_of_0_script refl

nested_of_4 : goes 10 (whole (codes "n") (pos 0) (pos 4) ∷ []) (input.Int (pos 4) ∷ []) nested_of_0_script ≡
    ((branched 0 1 ∷ branched 13 0 ∷ []), Done)
unfolding count turn new_object call_builtin construct get_row bracket_row set_row test_row logical_row binary_row unary_row step_row open_cell init_name find_name read_name put_name digits
nested_of_4 = path_is 10 (whole (codes "n") (pos 0) (pos 4) ∷ []) (input.Int (pos 4) ∷ []) nested_of_0_script refl

-- let t = n + 1;
abbrev most_but_one_script : List KnownStmt
most_but_one_script = (declare_ 0 Let ((
  named 4 (codes "t"),
  (Some (binary (leaf (Expr-F.Name (named 8 (codes "n"))))
      (link 10 op.Add (leaf (Expr-F.Number 12 1)) ∷ []))),
) ∷ []) ∷ [])

most_but_one : goes 10 (whole (codes "n") (pos 9007199254740990) (pos 9007199254740991) ∷ []) (input.Int (pos
    9007199254740990) ∷ []) most_but_one_script ≡ ([], Done)
unfolding count turn new_object call_builtin construct get_row bracket_row set_row test_row logical_row binary_row unary_row step_row open_cell init_name find_name read_name put_name digits
most_but_one = path_is 10 (whole (codes "n") (pos 9007199254740990) (pos 9007199254740991) ∷ []) (input.Int (pos
    9007199254740990) ∷ []) most_but_one_script refl

most : goes 10 (whole (codes "n") (pos 9007199254740990) (pos 9007199254740991) ∷ []) (input.Int (pos
    9007199254740991) ∷ []) most_but_one_script ≡ ([], Left 10 why.Range 0 0)
unfolding count turn new_object call_builtin construct get_row bracket_row set_row test_row logical_row binary_row unary_row step_row open_cell init_name find_name read_name put_name digits
most = path_is 10 (whole (codes "n") (pos 9007199254740990) (pos 9007199254740991) ∷ []) (input.Int (pos
    9007199254740991) ∷ []) most_but_one_script refl

-- while (true) {}
abbrev endless_script : List KnownStmt
endless_script = (while_ 0 (leaf (Expr-F.True 7)) (braces 13 []) ∷ [])

endless : goes 10 [] [] endless_script ≡ (
  (branched 0 1 ∷ branched 0 1 ∷ branched 0 1 ∷ branched 0 1 ∷ branched 0 1 ∷
      branched 0 1 ∷ branched 0 1 ∷ branched 0 1 ∷ branched 0 1 ∷ branched 0 1 ∷ branched 0 1 ∷ []),
  Cut 0 budget.Turns,
)
unfolding count turn new_object call_builtin construct get_row bracket_row set_row test_row logical_row binary_row unary_row step_row open_cell init_name find_name read_name put_name digits
endless = path_is 10 [] [] endless_script refl

-- try { null.x } catch (e) { throw 1 } finally { }
abbrev replaced_script : List KnownStmt
replaced_script = (try_ 0 (express 6 (call (leaf (Expr-F.Null 6)) (get (dot 10 (codes "x")) ∷ [])) ∷ []) (Some (
  (Some
      (named 22 (codes "e"))),
  (throw_ 27 (leaf (Expr-F.Number 33 1)) ∷ []),
)) (Some []) ∷ [])

replaced : goes 10 [] [] replaced_script ≡ ([], Threw 27 thrown.Value)
unfolding count turn new_object call_builtin construct get_row bracket_row set_row test_row logical_row binary_row unary_row step_row open_cell init_name find_name read_name put_name digits
replaced = path_is 10 [] [] replaced_script refl

-- let a = 1 ⏎ let b = a ⏎ ++b ⏎ if (b === 2) {}
abbrev lines_script : List KnownStmt
lines_script = (declare_ 0 Let ((named 4 (codes "a"), (Some (leaf (Expr-F.Number 8 1)))) ∷ []) ∷ declare_ 10 Let
    ((named 14 (codes "b"), (Some (leaf (Expr-F.Name (named 18 (codes "a")))))) ∷ []) ∷ express 20 (step 20 20
    Increment true (to_name (named 22 (codes "b")))) ∷ if_ (when 24 (binary (leaf (Expr-F.Name (named 28 (codes
    "b")))) (link 30 op.Equal (leaf (Expr-F.Number 34 2)) ∷ [])) (braces 37 []) ∷ []) ∷ [])

lines : goes 10 [] [] lines_script ≡ ((branched 24 1 ∷ []), Done)
unfolding count turn new_object call_builtin construct get_row bracket_row set_row test_row logical_row binary_row unary_row step_row open_cell init_name find_name read_name put_name digits
lines = path_is 10 [] [] lines_script refl

-- let f = x => x - 1; let t = f(f(n));
abbrev twice_of_least_value_1 : Known
twice_of_least_value_1 = binary (leaf (Expr-F.Name (named 13 (codes "x")))) (link 15 op.Subtract (leaf (Expr-F.Number
    17 1)) ∷ [])

abbrev twice_of_least_script : Expr → List KnownStmt
twice_of_least_script t1 = (declare_ 0 Let ((
  named 4 (codes "f"),
  (Some (leaf (Expr-F.Arrow 8 ((named 8 (codes "x")) ∷
      []) t1))),
) ∷ []) ∷ declare_ 20 Let ((
  named 24 (codes "t"),
  (Some (call (leaf (Expr-F.Name (named 28 (codes "f"))))
      (call_ 29 (call (leaf (Expr-F.Name (named 30 (codes "f")))) (call_ 31 (leaf (Expr-F.Name (named 32 (codes "n"))) ∷
      []) ∷ []) ∷ []) ∷ []))),
) ∷ []) ∷ [])

twice_of_least_run : (t1 : Expr) → body_of (expression t1) ≡ known_value twice_of_least_value_1 → runs 2 (whole (codes
    "n") (negsuc 9007199254740990) (negsuc 9007199254740988) ∷ []) (input.Int (negsuc 9007199254740990) ∷ [])
    (twice_of_least_script t1) ≡ ([], Left 15 why.Range 1 0)
unfolding count turn new_object call_builtin construct get_row bracket_row set_row test_row logical_row binary_row unary_row step_row open_cell init_name find_name read_name put_name digits
twice_of_least_run t1 p1 = rw p1 refl

twice_of_least : goes 2 (whole (codes "n") (negsuc 9007199254740990) (negsuc 9007199254740988) ∷ []) (input.Int
    (negsuc 9007199254740990) ∷ []) (twice_of_least_script twice_of_least_value_1.tree) ≡ ([], Left 15 why.Range 1 0)
twice_of_least = path_is 2 (whole (codes "n") (negsuc 9007199254740990) (negsuc 9007199254740988) ∷ []) (input.Int
    (negsuc 9007199254740990) ∷ []) (twice_of_least_script twice_of_least_value_1.tree) (twice_of_least_run
    twice_of_least_value_1.tree (value_known twice_of_least_value_1))

-- let f = x => x; f(1) + 9007199254740991;
abbrev behind_a_return_value_1 : Known
behind_a_return_value_1 = leaf (Expr-F.Name (named 13 (codes "x")))

abbrev behind_a_return_script : Expr → List KnownStmt
behind_a_return_script t1 = (declare_ 0 Let ((
  named 4 (codes "f"),
  (Some (leaf (Expr-F.Arrow 8 ((named 8 (codes "x"))
      ∷ []) t1))),
) ∷ []) ∷ express 16 (binary (call (leaf (Expr-F.Name (named 16 (codes "f")))) (call_ 17 (leaf
    (Expr-F.Number 18 1) ∷ []) ∷ [])) (link 21 op.Add (leaf (Expr-F.Number 23 9007199254740991)) ∷ [])) ∷ [])

behind_a_return_run : (t1 : Expr) → body_of (expression t1) ≡ known_value behind_a_return_value_1 → runs 1 [] []
    (behind_a_return_script t1) ≡ ([], Left 21 why.Range 1 1)
unfolding count turn new_object call_builtin construct get_row bracket_row set_row test_row logical_row binary_row unary_row step_row open_cell init_name find_name read_name put_name digits
behind_a_return_run t1 p1 = rw p1 refl

behind_a_return : goes 1 [] [] (behind_a_return_script behind_a_return_value_1.tree) ≡ ([], Left 21 why.Range 1 1)
behind_a_return = path_is 1 [] [] (behind_a_return_script behind_a_return_value_1.tree) (behind_a_return_run
    behind_a_return_value_1.tree (value_known behind_a_return_value_1))
