-- Examples of `try`, `catch` and `finally`.
use Rattle.std.proofs.Common.{◌≡◌, List, [], ◌∷◌, codes, Some, None, refl}
use Rattle.std.specs.Fmt.{digits}
use Rattle.path_core.specs.declared.path.ErrorName.TheVariants as fault
use Rattle.path_core.specs.declared.path.Thrown.TheVariants as thrown
use Rattle.path_core.specs.declared.path.End.TheVariants.{Done, Threw}
use Rattle.js_ast.specs.declared.operators.BinaryOp.TheVariants as op
use Rattle.js_ast.specs.declared.expression.Expr.TheOpen.{Expr-F, Stmt-F}
use Rattle.js_meaning.specs.Running.{count, turn, new_object}
use Rattle.js_meaning.specs.Builtins.{call_builtin, construct}
use Rattle.js_meaning.specs.Objects.{get_row, bracket_row, set_row}
use Rattle.js_meaning.specs.Operators.{test_row, logical_row, binary_row, unary_row, step_row}
use Rattle.js_meaning.specs.Names.{open_cell, init_name, find_name, read_name, put_name}
use Rattle.js_meaning.proofs.Known.{named, leaf, link, binary, dot, get, call_, call}
use Rattle.js_meaning.proofs.KnownStatements.{KnownStmt, stmt_trees, known_block, body_known, still, braces, express, throw_, return_}
use Rattle.js_meaning.proofs.KnownForms.{when, if_, while_, try_}
use Rattle.js_meaning.proofs.Runs.{branched, goes, runs, path_is}
use Rattle.js_ast.specs.declared.statement.Stmt.{Stmt}
use Rattle.js_meaning.specs.Values.{statements}
use Rattle.js_meaning.specs.Meaning.{body_of}

-- try { null.x; } catch (e) { throw e; }
abbrev thrown_again_script : List KnownStmt
thrown_again_script = (try_ 0 (express 6 (call (leaf (Expr-F.Null 6)) (get (dot 10 (codes "x")) ∷ [])) ∷ []) (Some
    ((Some (named 23 (codes "e"))), (throw_ 28 (leaf (Expr-F.Name (named 34 (codes "e")))) ∷ []))) None ∷ [])

thrown_again : goes 10 [] [] thrown_again_script ≡ ([], Threw 28 (thrown.Named fault.TypeError))
unfolding count turn new_object call_builtin construct get_row bracket_row set_row test_row logical_row binary_row unary_row step_row open_cell init_name find_name read_name put_name digits
thrown_again = path_is 10 [] [] thrown_again_script refl

-- try { throw 1; } catch (e) { if (e === 1) {} }
abbrev catch_name_script : List KnownStmt
catch_name_script = (try_ 0 (throw_ 6 (leaf (Expr-F.Number 12 1)) ∷ []) (Some (
  (Some (named 24 (codes "e"))),
  (if_
      (when 29 (binary (leaf (Expr-F.Name (named 33 (codes "e")))) (link 35 op.Equal (leaf (Expr-F.Number 39 1)) ∷ []))
      (braces 42 []) ∷ []) ∷ []),
)) None ∷ [])

catch_name : goes 10 [] [] catch_name_script ≡ ((branched 29 1 ∷ []), Done)
unfolding count turn new_object call_builtin construct get_row bracket_row set_row test_row logical_row binary_row unary_row step_row open_cell init_name find_name read_name put_name digits
catch_name = path_is 10 [] [] catch_name_script refl

-- try { throw 1; } catch { }
abbrev catch_alone_script : List KnownStmt
catch_alone_script = (try_ 0 (throw_ 6 (leaf (Expr-F.Number 12 1)) ∷ []) (Some (None, [])) None ∷ [])

catch_alone : goes 10 [] [] catch_alone_script ≡ ([], Done)
unfolding count turn new_object call_builtin construct get_row bracket_row set_row test_row logical_row binary_row unary_row step_row open_cell init_name find_name read_name put_name digits
catch_alone = path_is 10 [] [] catch_alone_script refl

-- function f() { throw 1; } try { f(); } catch (e) { throw 2; }
abbrev through_call_body_1 : List KnownStmt
through_call_body_1 = (throw_ 15 (leaf (Expr-F.Number 21 1)) ∷ [])

abbrev through_call_script : List Stmt → List KnownStmt
through_call_script ss1 = (still (Stmt-F.Function 0 (named 9 (codes "f")) [] ss1) ∷ try_ 26 (express 32 (call (leaf
    (Expr-F.Name (named 32 (codes "f")))) (call_ 33 [] ∷ [])) ∷ []) (Some (
      (Some (named 46 (codes "e"))),
      (throw_ 51
          (leaf (Expr-F.Number 57 2)) ∷ []),
    )) None ∷ [])

through_call_run : (ss1 : List Stmt) → body_of (statements ss1) ≡ known_block through_call_body_1 → runs 1 [] []
    (through_call_script ss1) ≡ ([], Threw 51 thrown.Value)
unfolding count turn new_object call_builtin construct get_row bracket_row set_row test_row logical_row binary_row unary_row step_row open_cell init_name find_name read_name put_name digits
through_call_run ss1 p1 = rw p1 refl

through_call : goes 1 [] [] (through_call_script (stmt_trees through_call_body_1)) ≡ ([], Threw 51 thrown.Value)
through_call = path_is 1 [] [] (through_call_script (stmt_trees through_call_body_1)) (through_call_run (stmt_trees
    through_call_body_1) (body_known through_call_body_1))

-- function f() { try { return 1; } finally { return 2; } } if (f() === 2) {}
abbrev finally_replaces_body_1 : List KnownStmt
finally_replaces_body_1 = (try_ 15 (return_ 21 (leaf (Expr-F.Number 28 1)) ∷ []) None (Some (return_ 43 (leaf
    (Expr-F.Number 50 2)) ∷ [])) ∷ [])

abbrev finally_replaces_script : List Stmt → List KnownStmt
finally_replaces_script ss1 = (still (Stmt-F.Function 0 (named 9 (codes "f")) [] ss1) ∷ if_ (when 57 (binary (call
    (leaf (Expr-F.Name (named 61 (codes "f")))) (call_ 62 [] ∷ [])) (link 65 op.Equal (leaf (Expr-F.Number 69 2)) ∷
    [])) (braces 72 []) ∷ []) ∷ [])

finally_replaces_run : (ss1 : List Stmt) → body_of (statements ss1) ≡ known_block finally_replaces_body_1 → runs 1 []
    [] (finally_replaces_script ss1) ≡ ((branched 57 1 ∷ []), Done)
unfolding count turn new_object call_builtin construct get_row bracket_row set_row test_row logical_row binary_row unary_row step_row open_cell init_name find_name read_name put_name digits
finally_replaces_run ss1 p1 = rw p1 refl

finally_replaces : goes 1 [] [] (finally_replaces_script (stmt_trees finally_replaces_body_1)) ≡ (
  (branched 57 1 ∷
      []),
  Done,
)
finally_replaces = path_is 1 [] [] (finally_replaces_script (stmt_trees finally_replaces_body_1))
    (finally_replaces_run (stmt_trees finally_replaces_body_1) (body_known finally_replaces_body_1))

-- function f() { try { return 1; } finally { 0; } } if (f() === 1) {}
abbrev finally_keeps_body_1 : List KnownStmt
finally_keeps_body_1 = (try_ 15 (return_ 21 (leaf (Expr-F.Number 28 1)) ∷ []) None (Some (express 43 (leaf
    (Expr-F.Number 43 0)) ∷ [])) ∷ [])

abbrev finally_keeps_script : List Stmt → List KnownStmt
finally_keeps_script ss1 = (still (Stmt-F.Function 0 (named 9 (codes "f")) [] ss1) ∷ if_ (when 50 (binary (call (leaf
    (Expr-F.Name (named 54 (codes "f")))) (call_ 55 [] ∷ [])) (link 58 op.Equal (leaf (Expr-F.Number 62 1)) ∷ []))
    (braces 65 []) ∷ []) ∷ [])

finally_keeps_run : (ss1 : List Stmt) → body_of (statements ss1) ≡ known_block finally_keeps_body_1 → runs 1 [] []
    (finally_keeps_script ss1) ≡ ((branched 50 1 ∷ []), Done)
unfolding count turn new_object call_builtin construct get_row bracket_row set_row test_row logical_row binary_row unary_row step_row open_cell init_name find_name read_name put_name digits
finally_keeps_run ss1 p1 = rw p1 refl

finally_keeps : goes 1 [] [] (finally_keeps_script (stmt_trees finally_keeps_body_1)) ≡ ((branched 50 1 ∷ []), Done)
finally_keeps = path_is 1 [] [] (finally_keeps_script (stmt_trees finally_keeps_body_1)) (finally_keeps_run
    (stmt_trees finally_keeps_body_1) (body_known finally_keeps_body_1))

-- try { throw 1; } finally { ; }
abbrev finally_goes_on_script : List KnownStmt
finally_goes_on_script = (try_ 0 (throw_ 6 (leaf (Expr-F.Number 12 1)) ∷ []) None (Some (still (Stmt-F.Nothing 27) ∷
    [])) ∷ [])

finally_goes_on : goes 10 [] [] finally_goes_on_script ≡ ([], Threw 6 thrown.Value)
unfolding count turn new_object call_builtin construct get_row bracket_row set_row test_row logical_row binary_row unary_row step_row open_cell init_name find_name read_name put_name digits
finally_goes_on = path_is 10 [] [] finally_goes_on_script refl

-- while (true) { try { throw 1; } finally { break; } }
abbrev finally_breaks_script : List KnownStmt
finally_breaks_script = (while_ 0 (leaf (Expr-F.True 7)) (braces 13 (try_ 15 (throw_ 21 (leaf (Expr-F.Number 27 1)) ∷
    []) None (Some (still (Stmt-F.Break 42) ∷ [])) ∷ [])) ∷ [])

finally_breaks : goes 10 [] [] finally_breaks_script ≡ ((branched 0 1 ∷ []), Done)
unfolding count turn new_object call_builtin construct get_row bracket_row set_row test_row logical_row binary_row unary_row step_row open_cell init_name find_name read_name put_name digits
finally_breaks = path_is 10 [] [] finally_breaks_script refl

-- try { throw 1; } catch (e) { throw 2; } finally { if (1) {} }
abbrev catch_finally_script : List KnownStmt
catch_finally_script = (try_ 0 (throw_ 6 (leaf (Expr-F.Number 12 1)) ∷ []) (Some (
  (Some (named 24 (codes "e"))),
  (throw_ 29 (leaf (Expr-F.Number 35 2)) ∷ []),
)) (Some (if_ (when 50 (leaf (Expr-F.Number 54 1)) (braces 57 []) ∷
    []) ∷ [])) ∷ [])

catch_finally : goes 10 [] [] catch_finally_script ≡ ((branched 50 1 ∷ []), Threw 29 thrown.Value)
unfolding count turn new_object call_builtin construct get_row bracket_row set_row test_row logical_row binary_row unary_row step_row open_cell init_name find_name read_name put_name digits
catch_finally = path_is 10 [] [] catch_finally_script refl
