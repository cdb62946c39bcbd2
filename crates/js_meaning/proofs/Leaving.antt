-- Examples of runs that leave the profile.
use Rattle.std.proofs.Common.{◌≡◌, true, false, List, [], ◌∷◌, codes, Some, None, refl}
use Rattle.std.specs.Fmt.{digits}
use Rattle.path_core.specs.declared.path.ErrorName.TheVariants as fault
use Rattle.path_core.specs.declared.path.Thrown.TheVariants as thrown
use Rattle.path_core.specs.declared.path.Why.TheVariants as why
use Rattle.path_core.specs.declared.path.End.TheVariants.{Threw, Left}
use Rattle.js_ast.specs.declared.operators.BinaryOp.TheVariants as op
use Rattle.js_ast.specs.declared.operators.UnaryOp.TheVariants as un
use Rattle.js_ast.specs.declared.operators.StepOp.TheVariants.{Increment}
use Rattle.js_ast.specs.declared.operators.DeclarationKind.TheVariants.{Let, Const}
use Rattle.js_ast.specs.declared.expression.Expr.TheOpen.{Expr-F}
use Rattle.js_meaning.specs.Running.{count, turn, new_object}
use Rattle.js_meaning.specs.Builtins.{call_builtin, construct}
use Rattle.js_meaning.specs.Objects.{get_row, bracket_row, set_row}
use Rattle.js_meaning.specs.Operators.{test_row, logical_row, binary_row, unary_row, step_row}
use Rattle.js_meaning.specs.Names.{open_cell, init_name, find_name, read_name, put_name}
use Rattle.js_meaning.proofs.Known.{Known, named, leaf, array, new_, unary, link, binary, object, dot, bracket, get, call_, call, to_name, to_property, step, assign}
use Rattle.js_meaning.proofs.KnownStatements.{KnownStmt, express, declare_}
use Rattle.js_meaning.proofs.KnownForms.{try_}
use Rattle.js_meaning.proofs.Runs.{goes, uses, path_is, steps_are}
use Rattle.js_ast.specs.declared.expression.Expr.{Expr}

-- 9007199254740991 + 1;
abbrev sum_script : List KnownStmt
sum_script = (express 0 (binary (leaf (Expr-F.Number 0 9007199254740991)) (link 17 op.Add (leaf (Expr-F.Number 19 1))
    ∷ [])) ∷ [])

sum : goes 10 [] [] sum_script ≡ ([], Left 17 why.Range 0 0)
unfolding count turn new_object call_builtin construct get_row bracket_row set_row test_row logical_row binary_row unary_row step_row open_cell init_name find_name read_name put_name digits
sum = path_is 10 [] [] sum_script refl

sum_steps : uses 10 [] [] sum_script ≡ 4
unfolding count turn new_object call_builtin construct get_row bracket_row set_row test_row logical_row binary_row unary_row step_row open_cell init_name find_name read_name put_name digits
sum_steps = steps_are 10 [] [] sum_script refl

-- -9007199254740991 - 1;
abbrev difference_script : List KnownStmt
difference_script = (express 0 (binary (unary 0 un.Minus (leaf (Expr-F.Number 1 9007199254740991))) (link 18
    op.Subtract (leaf (Expr-F.Number 20 1)) ∷ [])) ∷ [])

difference : goes 10 [] [] difference_script ≡ ([], Left 18 why.Range 0 0)
unfolding count turn new_object call_builtin construct get_row bracket_row set_row test_row logical_row binary_row unary_row step_row open_cell init_name find_name read_name put_name digits
difference = path_is 10 [] [] difference_script refl

-- 9007199254740991 * 2;
abbrev product_script : List KnownStmt
product_script = (express 0 (binary (leaf (Expr-F.Number 0 9007199254740991)) (link 17 op.Multiply (leaf
    (Expr-F.Number 19 2)) ∷ [])) ∷ [])

product : goes 10 [] [] product_script ≡ ([], Left 17 why.Range 0 0)
unfolding count turn new_object call_builtin construct get_row bracket_row set_row test_row logical_row binary_row unary_row step_row open_cell init_name find_name read_name put_name digits
product = path_is 10 [] [] product_script refl

-- let m = 9007199254740991; m++;
abbrev step_up_script : List KnownStmt
step_up_script = (declare_ 0 Let ((named 4 (codes "m"), (Some (leaf (Expr-F.Number 8 9007199254740991)))) ∷ []) ∷
    express 26 (step 26 27 Increment false (to_name (named 26 (codes "m")))) ∷ [])

step_up : goes 10 [] [] step_up_script ≡ ([], Left 27 why.Range 0 0)
unfolding count turn new_object call_builtin construct get_row bracket_row set_row test_row logical_row binary_row unary_row step_row open_cell init_name find_name read_name put_name digits
step_up = path_is 10 [] [] step_up_script refl

-- 1 / 0;
abbrev by_zero_script : List KnownStmt
by_zero_script = (express 0 (binary (leaf (Expr-F.Number 0 1)) (link 2 op.Divide (leaf (Expr-F.Number 4 0)) ∷ [])) ∷
    [])

by_zero : goes 10 [] [] by_zero_script ≡ ([], Left 2 why.Divide 0 0)
unfolding count turn new_object call_builtin construct get_row bracket_row set_row test_row logical_row binary_row unary_row step_row open_cell init_name find_name read_name put_name digits
by_zero = path_is 10 [] [] by_zero_script refl

-- 7 / 2;
abbrev not_whole_script : List KnownStmt
not_whole_script = (express 0 (binary (leaf (Expr-F.Number 0 7)) (link 2 op.Divide (leaf (Expr-F.Number 4 2)) ∷ [])) ∷
    [])

not_whole : goes 10 [] [] not_whole_script ≡ ([], Left 2 why.Divide 0 0)
unfolding count turn new_object call_builtin construct get_row bracket_row set_row test_row logical_row binary_row unary_row step_row open_cell init_name find_name read_name put_name digits
not_whole = path_is 10 [] [] not_whole_script refl

-- "a" - 1;
abbrev from_text_script : List KnownStmt
from_text_script = (express 0 (binary (leaf (Expr-F.Text 0 (codes "a"))) (link 4 op.Subtract (leaf (Expr-F.Number 6
    1)) ∷ [])) ∷ [])

from_text : goes 10 [] [] from_text_script ≡ ([], Left 4 why.Convert 0 0)
unfolding count turn new_object call_builtin construct get_row bracket_row set_row test_row logical_row binary_row unary_row step_row open_cell init_name find_name read_name put_name digits
from_text = path_is 10 [] [] from_text_script refl

-- ({}) + 1;
abbrev from_object_script : List KnownStmt
from_object_script = (express 0 (binary (object 1 []) (link 5 op.Add (leaf (Expr-F.Number 7 1)) ∷ [])) ∷ [])

from_object : goes 10 [] [] from_object_script ≡ ([], Left 5 why.Convert 0 0)
unfolding count turn new_object call_builtin construct get_row bracket_row set_row test_row logical_row binary_row unary_row step_row open_cell init_name find_name read_name put_name digits
from_object = path_is 10 [] [] from_object_script refl

-- "a" < 1;
abbrev order_of_kinds_script : List KnownStmt
order_of_kinds_script = (express 0 (binary (leaf (Expr-F.Text 0 (codes "a"))) (link 4 op.Less (leaf (Expr-F.Number 6
    1)) ∷ [])) ∷ [])

order_of_kinds : goes 10 [] [] order_of_kinds_script ≡ ([], Left 4 why.Convert 0 0)
unfolding count turn new_object call_builtin construct get_row bracket_row set_row test_row logical_row binary_row unary_row step_row open_cell init_name find_name read_name put_name digits
order_of_kinds = path_is 10 [] [] order_of_kinds_script refl

-- let o = {}; o.toString;
abbrev inherited_key_script : List KnownStmt
inherited_key_script = (declare_ 0 Let ((named 4 (codes "o"), (Some (object 8 []))) ∷ []) ∷ express 12 (call (leaf
    (Expr-F.Name (named 12 (codes "o")))) (get (dot 13 (codes "toString")) ∷ [])) ∷ [])

inherited_key : goes 10 [] [] inherited_key_script ≡ ([], Left 13 why.Inherited 0 0)
unfolding count turn new_object call_builtin construct get_row bracket_row set_row test_row logical_row binary_row unary_row step_row open_cell init_name find_name read_name put_name digits
inherited_key = path_is 10 [] [] inherited_key_script refl

-- "a".foo;
abbrev inherited_of_text_script : List KnownStmt
inherited_of_text_script = (express 0 (call (leaf (Expr-F.Text 0 (codes "a"))) (get (dot 3 (codes "foo")) ∷ [])) ∷ [])

inherited_of_text : goes 10 [] [] inherited_of_text_script ≡ ([], Left 3 why.Inherited 0 0)
unfolding count turn new_object call_builtin construct get_row bracket_row set_row test_row logical_row binary_row unary_row step_row open_cell init_name find_name read_name put_name digits
inherited_of_text = path_is 10 [] [] inherited_of_text_script refl

-- (() => 1).name;
abbrev inherited_of_function_value_1 : Known
inherited_of_function_value_1 = leaf (Expr-F.Number 7 1)

abbrev inherited_of_function_script : Expr → List KnownStmt
inherited_of_function_script t1 = (express 0 (call (leaf (Expr-F.Arrow 1 [] t1)) (get (dot 9 (codes "name")) ∷ [])) ∷
    [])

inherited_of_function : goes 10 [] [] (inherited_of_function_script inherited_of_function_value_1.tree) ≡ (
  [],
  Left 9
      why.Inherited 0 0,
)
unfolding count turn new_object call_builtin construct get_row bracket_row set_row test_row logical_row binary_row unary_row step_row open_cell init_name find_name read_name put_name digits
inherited_of_function = path_is 10 [] [] (inherited_of_function_script inherited_of_function_value_1.tree) refl

-- let o = {}; o.__proto__ = 1;
abbrev prototype_written_script : List KnownStmt
prototype_written_script = (declare_ 0 Let ((named 4 (codes "o"), (Some (object 8 []))) ∷ []) ∷ express 12 (assign 12
    24 None (to_property (leaf (Expr-F.Name (named 12 (codes "o")))) (dot 13 (codes "__proto__"))) (leaf
    (Expr-F.Number 26 1))) ∷ [])

prototype_written : goes 10 [] [] prototype_written_script ≡ ([], Left 13 why.Inherited 0 0)
unfolding count turn new_object call_builtin construct get_row bracket_row set_row test_row logical_row binary_row unary_row step_row open_cell init_name find_name read_name put_name digits
prototype_written = path_is 10 [] [] prototype_written_script refl

-- let a = []; a.foo = 1;
abbrev array_name_written_script : List KnownStmt
array_name_written_script = (declare_ 0 Let ((named 4 (codes "a"), (Some (array 8 []))) ∷ []) ∷ express 12 (assign 12
    18 None (to_property (leaf (Expr-F.Name (named 12 (codes "a")))) (dot 13 (codes "foo"))) (leaf (Expr-F.Number 20
    1))) ∷ [])

array_name_written : goes 10 [] [] array_name_written_script ≡ ([], Left 13 why.Inherited 0 0)
unfolding count turn new_object call_builtin construct get_row bracket_row set_row test_row logical_row binary_row unary_row step_row open_cell init_name find_name read_name put_name digits
array_name_written = path_is 10 [] [] array_name_written_script refl

-- try { null.x; } catch (e) { e.message; }
abbrev engine_message_script : List KnownStmt
engine_message_script = (try_ 0 (express 6 (call (leaf (Expr-F.Null 6)) (get (dot 10 (codes "x")) ∷ [])) ∷ []) (Some (
  (Some (named 23 (codes "e"))),
  (express 28 (call (leaf (Expr-F.Name (named 28 (codes "e")))) (get (dot 29 (codes
      "message")) ∷ [])) ∷ []),
)) None ∷ [])

engine_message : goes 10 [] [] engine_message_script ≡ ([], Left 29 why.Message 0 0)
unfolding count turn new_object call_builtin construct get_row bracket_row set_row test_row logical_row binary_row unary_row step_row open_cell init_name find_name read_name put_name digits
engine_message = path_is 10 [] [] engine_message_script refl

-- let a = [1]; a[0];
abbrev in_brackets_script : List KnownStmt
in_brackets_script = (declare_ 0 Let ((named 4 (codes "a"), (Some (array 8 (leaf (Expr-F.Number 9 1) ∷ [])))) ∷ []) ∷
    express 13 (call (leaf (Expr-F.Name (named 13 (codes "a")))) (get (bracket 14 true (leaf (Expr-F.Number 15 0))) ∷
    [])) ∷ [])

in_brackets : goes 10 [] [] in_brackets_script ≡ ([], Left 14 why.Key 0 0)
unfolding count turn new_object call_builtin construct get_row bracket_row set_row test_row logical_row binary_row unary_row step_row open_cell init_name find_name read_name put_name digits
in_brackets = path_is 10 [] [] in_brackets_script refl

-- let o = {}; o["a"] = foo;
abbrev brackets_written_script : List KnownStmt
brackets_written_script = (declare_ 0 Let ((named 4 (codes "o"), (Some (object 8 []))) ∷ []) ∷ express 12 (assign 12
    19 None (to_property (leaf (Expr-F.Name (named 12 (codes "o")))) (bracket 13 true (leaf (Expr-F.Text 14 (codes
    "a"))))) (leaf (Expr-F.Name (named 21 (codes "foo"))))) ∷ [])

brackets_written : goes 10 [] [] brackets_written_script ≡ ([], Left 13 why.Key 0 0)
unfolding count turn new_object call_builtin construct get_row bracket_row set_row test_row logical_row binary_row unary_row step_row open_cell init_name find_name read_name put_name digits
brackets_written = path_is 10 [] [] brackets_written_script refl

-- let o = {}; o[foo];
abbrev key_first_script : List KnownStmt
key_first_script = (declare_ 0 Let ((named 4 (codes "o"), (Some (object 8 []))) ∷ []) ∷ express 12 (call (leaf
    (Expr-F.Name (named 12 (codes "o")))) (get (bracket 13 false (leaf (Expr-F.Name (named 14 (codes "foo"))))) ∷ []))
    ∷ [])

key_first : goes 10 [] [] key_first_script ≡ ([], Left 14 why.Name 0 0)
unfolding count turn new_object call_builtin construct get_row bracket_row set_row test_row logical_row binary_row unary_row step_row open_cell init_name find_name read_name put_name digits
key_first = path_is 10 [] [] key_first_script refl

-- "a".length = 1;
abbrev length_written_script : List KnownStmt
length_written_script = (express 0 (assign 0 11 None (to_property (leaf (Expr-F.Text 0 (codes "a"))) (dot 3 (codes
    "length"))) (leaf (Expr-F.Number 13 1))) ∷ [])

length_written : goes 10 [] [] length_written_script ≡ ([], Left 3 why.Set 0 0)
unfolding count turn new_object call_builtin construct get_row bracket_row set_row test_row logical_row binary_row unary_row step_row open_cell init_name find_name read_name put_name digits
length_written = path_is 10 [] [] length_written_script refl

-- let a = []; a.push = 1;
abbrev method_written_script : List KnownStmt
method_written_script = (declare_ 0 Let ((named 4 (codes "a"), (Some (array 8 []))) ∷ []) ∷ express 12 (assign 12 19
    None (to_property (leaf (Expr-F.Name (named 12 (codes "a")))) (dot 13 (codes "push"))) (leaf (Expr-F.Number 21
    1))) ∷ [])

method_written : goes 10 [] [] method_written_script ≡ ([], Left 13 why.Set 0 0)
unfolding count turn new_object call_builtin construct get_row bracket_row set_row test_row logical_row binary_row unary_row step_row open_cell init_name find_name read_name put_name digits
method_written = path_is 10 [] [] method_written_script refl

-- "a".charAt(foo);
abbrev method_after_arguments_script : List KnownStmt
method_after_arguments_script = (express 0 (call (leaf (Expr-F.Text 0 (codes "a"))) (get (dot 3 (codes "charAt")) ∷
    call_ 10 (leaf (Expr-F.Name (named 11 (codes "foo"))) ∷ []) ∷ [])) ∷ [])

method_after_arguments : goes 10 [] [] method_after_arguments_script ≡ ([], Left 11 why.Name 0 0)
unfolding count turn new_object call_builtin construct get_row bracket_row set_row test_row logical_row binary_row unary_row step_row open_cell init_name find_name read_name put_name digits
method_after_arguments = path_is 10 [] [] method_after_arguments_script refl

-- foo;
abbrev unknown_script : List KnownStmt
unknown_script = (express 0 (leaf (Expr-F.Name (named 0 (codes "foo")))) ∷ [])

unknown : goes 10 [] [] unknown_script ≡ ([], Left 0 why.Name 0 0)
unfolding count turn new_object call_builtin construct get_row bracket_row set_row test_row logical_row binary_row unary_row step_row open_cell init_name find_name read_name put_name digits
unknown = path_is 10 [] [] unknown_script refl

-- typeof foo;
abbrev unknown_type_script : List KnownStmt
unknown_type_script = (express 0 (unary 0 un.TypeOf (leaf (Expr-F.Name (named 7 (codes "foo"))))) ∷ [])

unknown_type : goes 10 [] [] unknown_type_script ≡ ([], Left 7 why.Name 0 0)
unfolding count turn new_object call_builtin construct get_row bracket_row set_row test_row logical_row binary_row unary_row step_row open_cell init_name find_name read_name put_name digits
unknown_type = path_is 10 [] [] unknown_type_script refl

-- foo = bar;
abbrev unknown_written_script : List KnownStmt
unknown_written_script = (express 0 (assign 0 4 None (to_name (named 0 (codes "foo"))) (leaf (Expr-F.Name (named 6
    (codes "bar"))))) ∷ [])

unknown_written : goes 10 [] [] unknown_written_script ≡ ([], Left 6 why.Name 0 0)
unfolding count turn new_object call_builtin construct get_row bracket_row set_row test_row logical_row binary_row unary_row step_row open_cell init_name find_name read_name put_name digits
unknown_written = path_is 10 [] [] unknown_written_script refl

-- foo = 1;
abbrev unknown_set_script : List KnownStmt
unknown_set_script = (express 0 (assign 0 4 None (to_name (named 0 (codes "foo"))) (leaf (Expr-F.Number 6 1))) ∷ [])

unknown_set : goes 10 [] [] unknown_set_script ≡ ([], Left 0 why.Name 0 0)
unfolding count turn new_object call_builtin construct get_row bracket_row set_row test_row logical_row binary_row unary_row step_row open_cell init_name find_name read_name put_name digits
unknown_set = path_is 10 [] [] unknown_set_script refl

-- new foo();
abbrev unknown_new_script : List KnownStmt
unknown_new_script = (express 0 (new_ 0 (named 4 (codes "foo")) []) ∷ [])

unknown_new : goes 10 [] [] unknown_new_script ≡ ([], Left 4 why.Name 0 0)
unfolding count turn new_object call_builtin construct get_row bracket_row set_row test_row logical_row binary_row unary_row step_row open_cell init_name find_name read_name put_name digits
unknown_new = path_is 10 [] [] unknown_new_script refl

-- new F(); let F;
abbrev early_new_script : List KnownStmt
early_new_script = (express 0 (new_ 0 (named 4 (codes "F")) []) ∷ declare_ 9 Let ((named 13 (codes "F"), None) ∷ []) ∷
    [])

early_new : goes 10 [] [] early_new_script ≡ ([], Threw 4 (thrown.Named fault.ReferenceError))
unfolding count turn new_object call_builtin construct get_row bracket_row set_row test_row logical_row binary_row unary_row step_row open_cell init_name find_name read_name put_name digits
early_new = path_is 10 [] [] early_new_script refl

-- undefined[foo];
abbrev name_in_brackets_script : List KnownStmt
name_in_brackets_script = (express 0 (call (leaf (Expr-F.Name (named 0 (codes "undefined")))) (get (bracket 9 false
    (leaf (Expr-F.Name (named 10 (codes "foo"))))) ∷ [])) ∷ [])

name_in_brackets : goes 10 [] [] name_in_brackets_script ≡ ([], Left 10 why.Name 0 0)
unfolding count turn new_object call_builtin construct get_row bracket_row set_row test_row logical_row binary_row unary_row step_row open_cell init_name find_name read_name put_name digits
name_in_brackets = path_is 10 [] [] name_in_brackets_script refl

-- ({}).charAt(0);
abbrev method_of_plain_script : List KnownStmt
method_of_plain_script = (express 0 (call (object 1 []) (get (dot 4 (codes "charAt")) ∷ call_ 11 (leaf (Expr-F.Number
    12 0) ∷ []) ∷ [])) ∷ [])

method_of_plain : goes 10 [] [] method_of_plain_script ≡ ([], Threw 11 (thrown.Named fault.TypeError))
unfolding count turn new_object call_builtin construct get_row bracket_row set_row test_row logical_row binary_row unary_row step_row open_cell init_name find_name read_name put_name digits
method_of_plain = path_is 10 [] [] method_of_plain_script refl

-- let o = {}; o.valueOf(foo);
abbrev inherited_after_arguments_script : List KnownStmt
inherited_after_arguments_script = (declare_ 0 Let ((named 4 (codes "o"), (Some (object 8 []))) ∷ []) ∷ express 12
    (call (leaf (Expr-F.Name (named 12 (codes "o")))) (get (dot 13 (codes "valueOf")) ∷ call_ 21 (leaf (Expr-F.Name
    (named 22 (codes "foo"))) ∷ []) ∷ [])) ∷ [])

inherited_after_arguments : goes 10 [] [] inherited_after_arguments_script ≡ ([], Left 13 why.Inherited 0 0)
unfolding count turn new_object call_builtin construct get_row bracket_row set_row test_row logical_row binary_row unary_row step_row open_cell init_name find_name read_name put_name digits
inherited_after_arguments = path_is 10 [] [] inherited_after_arguments_script refl

-- let m = 9007199254740991; m += 1;
abbrev compound_range_script : List KnownStmt
compound_range_script = (declare_ 0 Let ((named 4 (codes "m"), (Some (leaf (Expr-F.Number 8 9007199254740991)))) ∷ [])
    ∷ express 26 (assign 26 28 (Some op.Add) (to_name (named 26 (codes "m"))) (leaf (Expr-F.Number 31 1))) ∷ [])

compound_range : goes 10 [] [] compound_range_script ≡ ([], Left 28 why.Range 0 0)
unfolding count turn new_object call_builtin construct get_row bracket_row set_row test_row logical_row binary_row unary_row step_row open_cell init_name find_name read_name put_name digits
compound_range = path_is 10 [] [] compound_range_script refl

-- const m = 9007199254740991; m += 1;
abbrev compound_of_const_script : List KnownStmt
compound_of_const_script = (declare_ 0 Const ((named 6 (codes "m"), (Some (leaf (Expr-F.Number 10 9007199254740991))))
    ∷ []) ∷ express 28 (assign 28 30 (Some op.Add) (to_name (named 28 (codes "m"))) (leaf (Expr-F.Number 33 1))) ∷ [])

compound_of_const : goes 10 [] [] compound_of_const_script ≡ ([], Left 30 why.Range 0 0)
unfolding count turn new_object call_builtin construct get_row bracket_row set_row test_row logical_row binary_row unary_row step_row open_cell init_name find_name read_name put_name digits
compound_of_const = path_is 10 [] [] compound_of_const_script refl

-- let s = "a"; s++;
abbrev step_of_text_script : List KnownStmt
step_of_text_script = (declare_ 0 Let ((named 4 (codes "s"), (Some (leaf (Expr-F.Text 8 (codes "a"))))) ∷ []) ∷
    express 13 (step 13 14 Increment false (to_name (named 13 (codes "s")))) ∷ [])

step_of_text : goes 10 [] [] step_of_text_script ≡ ([], Left 14 why.Convert 0 0)
unfolding count turn new_object call_builtin construct get_row bracket_row set_row test_row logical_row binary_row unary_row step_row open_cell init_name find_name read_name put_name digits
step_of_text = path_is 10 [] [] step_of_text_script refl

-- foo.x = 1;
abbrev property_of_unknown_script : List KnownStmt
property_of_unknown_script = (express 0 (assign 0 6 None (to_property (leaf (Expr-F.Name (named 0 (codes "foo"))))
    (dot 3 (codes "x"))) (leaf (Expr-F.Number 8 1))) ∷ [])

property_of_unknown : goes 10 [] [] property_of_unknown_script ≡ ([], Left 0 why.Name 0 0)
unfolding count turn new_object call_builtin construct get_row bracket_row set_row test_row logical_row binary_row unary_row step_row open_cell init_name find_name read_name put_name digits
property_of_unknown = path_is 10 [] [] property_of_unknown_script refl

-- try { null.x; } catch (e) { e.message = 1; }
abbrev engine_message_written_script : List KnownStmt
engine_message_written_script = (try_ 0 (express 6 (call (leaf (Expr-F.Null 6)) (get (dot 10 (codes "x")) ∷ [])) ∷ [])
    (Some (
      (Some (named 23 (codes "e"))),
      (express 28 (assign 28 38 None (to_property (leaf (Expr-F.Name (named 28
          (codes "e")))) (dot 29 (codes "message"))) (leaf (Expr-F.Number 40 1))) ∷ []),
    )) None ∷ [])

engine_message_written : goes 10 [] [] engine_message_written_script ≡ ([], Left 29 why.Set 0 0)
unfolding count turn new_object call_builtin construct get_row bracket_row set_row test_row logical_row binary_row unary_row step_row open_cell init_name find_name read_name put_name digits
engine_message_written = path_is 10 [] [] engine_message_written_script refl

-- let f = () => 1; f.x = foo;
abbrev function_written_value_1 : Known
function_written_value_1 = leaf (Expr-F.Number 14 1)

abbrev function_written_script : Expr → List KnownStmt
function_written_script t1 = (declare_ 0 Let ((named 4 (codes "f"), (Some (leaf (Expr-F.Arrow 8 [] t1)))) ∷ []) ∷
    express 17 (assign 17 21 None (to_property (leaf (Expr-F.Name (named 17 (codes "f")))) (dot 18 (codes "x"))) (leaf
    (Expr-F.Name (named 23 (codes "foo"))))) ∷ [])

function_written : goes 10 [] [] (function_written_script function_written_value_1.tree) ≡ ([], Left 23 why.Name 0 0)
unfolding count turn new_object call_builtin construct get_row bracket_row set_row test_row logical_row binary_row unary_row step_row open_cell init_name find_name read_name put_name digits
function_written = path_is 10 [] [] (function_written_script function_written_value_1.tree) refl

-- let f = () => 1; f.x = 1;
abbrev function_set_value_1 : Known
function_set_value_1 = leaf (Expr-F.Number 14 1)

abbrev function_set_script : Expr → List KnownStmt
function_set_script t1 = (declare_ 0 Let ((named 4 (codes "f"), (Some (leaf (Expr-F.Arrow 8 [] t1)))) ∷ []) ∷ express
    17 (assign 17 21 None (to_property (leaf (Expr-F.Name (named 17 (codes "f")))) (dot 18 (codes "x"))) (leaf
    (Expr-F.Number 23 1))) ∷ [])

function_set : goes 10 [] [] (function_set_script function_set_value_1.tree) ≡ ([], Left 18 why.Set 0 0)
unfolding count turn new_object call_builtin construct get_row bracket_row set_row test_row logical_row binary_row unary_row step_row open_cell init_name find_name read_name put_name digits
function_set = path_is 10 [] [] (function_set_script function_set_value_1.tree) refl

-- let a = []; a.length = 0;
abbrev array_length_written_script : List KnownStmt
array_length_written_script = (declare_ 0 Let ((named 4 (codes "a"), (Some (array 8 []))) ∷ []) ∷ express 12 (assign
    12 21 None (to_property (leaf (Expr-F.Name (named 12 (codes "a")))) (dot 13 (codes "length"))) (leaf
    (Expr-F.Number 23 0))) ∷ [])

array_length_written : goes 10 [] [] array_length_written_script ≡ ([], Left 13 why.Set 0 0)
unfolding count turn new_object call_builtin construct get_row bracket_row set_row test_row logical_row binary_row unary_row step_row open_cell init_name find_name read_name put_name digits
array_length_written = path_is 10 [] [] array_length_written_script refl
