-- Examples of operators and their values.
use Rattle.std.proofs.Common.{◌≡◌, pos, List, [], ◌∷◌, codes, refl}
use Rattle.std.specs.Fmt.{digits}
use Rattle.path_core.specs.declared.path.InputValue.TheVariants as input
use Rattle.path_core.specs.declared.path.End.TheVariants.{Done}
use Rattle.js_ast.specs.declared.operators.BinaryOp.TheVariants as op
use Rattle.js_ast.specs.declared.operators.UnaryOp.TheVariants as un
use Rattle.js_ast.specs.declared.expression.Expr.TheOpen.{Expr-F}
use Rattle.js_meaning.specs.Running.{count, turn, new_object}
use Rattle.js_meaning.specs.Builtins.{call_builtin, construct}
use Rattle.js_meaning.specs.Objects.{get_row, bracket_row, set_row}
use Rattle.js_meaning.specs.Operators.{test_row, logical_row, binary_row, unary_row, step_row}
use Rattle.js_meaning.specs.Names.{open_cell, init_name, find_name, read_name, put_name}
use Rattle.js_meaning.proofs.Known.{Known, named, leaf, array, unary, conditional, link, binary, object, dot, get, call}
use Rattle.js_meaning.proofs.KnownStatements.{KnownStmt, braces}
use Rattle.js_meaning.proofs.KnownForms.{when, if_}
use Rattle.js_meaning.proofs.Runs.{whole, branched, goes, path_is}
use Rattle.js_ast.specs.declared.expression.Expr.{Expr}

-- if ((n ? 5 : 6) === 6) {}
abbrev chosen_value_script : List KnownStmt
chosen_value_script = (if_ (when 0 (binary (conditional 5 7 (leaf (Expr-F.Name (named 5 (codes "n")))) (leaf
    (Expr-F.Number 9 5)) (leaf (Expr-F.Number 13 6))) (link 16 op.Equal (leaf (Expr-F.Number 20 6)) ∷ [])) (braces 23
    []) ∷ []) ∷ [])

chosen_value : goes 10 (whole (codes "n") (pos 0) (pos 3) ∷ []) (input.Int (pos 0) ∷ []) chosen_value_script ≡
    ((branched 7 0 ∷ branched 0 1 ∷ []), Done)
unfolding count turn new_object call_builtin construct get_row bracket_row set_row test_row logical_row binary_row unary_row step_row open_cell init_name find_name read_name put_name digits
chosen_value = path_is 10 (whole (codes "n") (pos 0) (pos 3) ∷ []) (input.Int (pos 0) ∷ []) chosen_value_script refl

-- if (typeof null === "object") {} if (typeof (() => 1) === "function") {} if (typeof NaN === "number") {}
abbrev types_value_1 : Known
types_value_1 = leaf (Expr-F.Number 51 1)

abbrev types_script : Expr → List KnownStmt
types_script t1 = (if_ (when 0 (binary (unary 4 un.TypeOf (leaf (Expr-F.Null 11))) (link 16 op.Equal (leaf
    (Expr-F.Text 20 (codes "object"))) ∷ [])) (braces 30 []) ∷ []) ∷ if_ (when 33 (binary (unary 37 un.TypeOf (leaf
    (Expr-F.Arrow 45 [] t1))) (link 54 op.Equal (leaf (Expr-F.Text 58 (codes "function"))) ∷ [])) (braces 70 []) ∷ [])
    ∷ if_ (when 73 (binary (unary 77 un.TypeOf (leaf (Expr-F.Name (named 84 (codes "NaN"))))) (link 88 op.Equal (leaf
    (Expr-F.Text 92 (codes "number"))) ∷ [])) (braces 102 []) ∷ []) ∷ [])

types : goes 10 [] [] (types_script types_value_1.tree) ≡ ((branched 0 1 ∷ branched 33 1 ∷ branched 73 1 ∷ []), Done)
unfolding count turn new_object call_builtin construct get_row bracket_row set_row test_row logical_row binary_row unary_row step_row open_cell init_name find_name read_name put_name digits
types = path_is 10 [] [] (types_script types_value_1.tree) refl

-- if (-7 % 3 === -1) {} if (7 % -3 === 1) {} if (7 % 0 === 7 % 0) {}
abbrev remainders_script : List KnownStmt
remainders_script = (if_ (when 0 (binary (binary (unary 4 un.Minus (leaf (Expr-F.Number 5 7))) (link 7 op.Remainder
    (leaf (Expr-F.Number 9 3)) ∷ [])) (link 11 op.Equal (unary 15 un.Minus (leaf (Expr-F.Number 16 1))) ∷ [])) (braces
    19 []) ∷ []) ∷ if_ (when 22 (binary (binary (leaf (Expr-F.Number 26 7)) (link 28 op.Remainder (unary 30 un.Minus
    (leaf (Expr-F.Number 31 3))) ∷ [])) (link 33 op.Equal (leaf (Expr-F.Number 37 1)) ∷ [])) (braces 40 []) ∷ []) ∷
    if_ (when 43 (binary (binary (leaf (Expr-F.Number 47 7)) (link 49 op.Remainder (leaf (Expr-F.Number 51 0)) ∷ []))
    (link 53 op.Equal (binary (leaf (Expr-F.Number 57 7)) (link 59 op.Remainder (leaf (Expr-F.Number 61 0)) ∷ [])) ∷
    [])) (braces 64 []) ∷ []) ∷ [])

remainders : goes 10 [] [] remainders_script ≡ ((branched 0 1 ∷ branched 22 1 ∷ branched 43 0 ∷ []), Done)
unfolding count turn new_object call_builtin construct get_row bracket_row set_row test_row logical_row binary_row unary_row step_row open_cell init_name find_name read_name put_name digits
remainders = path_is 10 [] [] remainders_script refl

-- if (-6 / 3 === -2) {} if (NaN / 0 === 1) {}
abbrev quotients_script : List KnownStmt
quotients_script = (if_ (when 0 (binary (binary (unary 4 un.Minus (leaf (Expr-F.Number 5 6))) (link 7 op.Divide (leaf
    (Expr-F.Number 9 3)) ∷ [])) (link 11 op.Equal (unary 15 un.Minus (leaf (Expr-F.Number 16 2))) ∷ [])) (braces 19
    []) ∷ []) ∷ if_ (when 22 (binary (binary (leaf (Expr-F.Name (named 26 (codes "NaN")))) (link 30 op.Divide (leaf
    (Expr-F.Number 32 0)) ∷ [])) (link 34 op.Equal (leaf (Expr-F.Number 38 1)) ∷ [])) (braces 41 []) ∷ []) ∷ [])

quotients : goes 10 [] [] quotients_script ≡ ((branched 0 1 ∷ branched 22 0 ∷ []), Done)
unfolding count turn new_object call_builtin construct get_row bracket_row set_row test_row logical_row binary_row unary_row step_row open_cell init_name find_name read_name put_name digits
quotients = path_is 10 [] [] quotients_script refl

-- if (-4 % 2 === 0) {} if (0 * -5 === 0) {} if (-0 === 0) {} if (0 / -5 === 0) {}
abbrev zeros_script : List KnownStmt
zeros_script = (if_ (when 0 (binary (binary (unary 4 un.Minus (leaf (Expr-F.Number 5 4))) (link 7 op.Remainder (leaf
    (Expr-F.Number 9 2)) ∷ [])) (link 11 op.Equal (leaf (Expr-F.Number 15 0)) ∷ [])) (braces 18 []) ∷ []) ∷ if_ (when
    21 (binary (binary (leaf (Expr-F.Number 25 0)) (link 27 op.Multiply (unary 29 un.Minus (leaf (Expr-F.Number 30
    5))) ∷ [])) (link 32 op.Equal (leaf (Expr-F.Number 36 0)) ∷ [])) (braces 39 []) ∷ []) ∷ if_ (when 42 (binary
    (unary 46 un.Minus (leaf (Expr-F.Number 47 0))) (link 49 op.Equal (leaf (Expr-F.Number 53 0)) ∷ [])) (braces 56
    []) ∷ []) ∷ if_ (when 59 (binary (binary (leaf (Expr-F.Number 63 0)) (link 65 op.Divide (unary 67 un.Minus (leaf
    (Expr-F.Number 68 5))) ∷ [])) (link 70 op.Equal (leaf (Expr-F.Number 74 0)) ∷ [])) (braces 77 []) ∷ []) ∷ [])

zeros : goes 10 [] [] zeros_script ≡ ((branched 0 1 ∷ branched 21 1 ∷ branched 42 1 ∷ branched 59 1 ∷ []), Done)
unfolding count turn new_object call_builtin construct get_row bracket_row set_row test_row logical_row binary_row unary_row step_row open_cell init_name find_name read_name put_name digits
zeros = path_is 10 [] [] zeros_script refl

-- if ((7 & -4) === 4) {} if ((5 ^ -1) === -6) {} if ((NaN | 3) === 3) {} if (~5 === -6) {}
abbrev bits_script : List KnownStmt
bits_script = (if_ (when 0 (binary (binary (leaf (Expr-F.Number 5 7)) (link 7 op.BitAnd (unary 9 un.Minus (leaf
    (Expr-F.Number 10 4))) ∷ [])) (link 13 op.Equal (leaf (Expr-F.Number 17 4)) ∷ [])) (braces 20 []) ∷ []) ∷ if_
    (when 23 (binary (binary (leaf (Expr-F.Number 28 5)) (link 30 op.BitXor (unary 32 un.Minus (leaf (Expr-F.Number 33
    1))) ∷ [])) (link 36 op.Equal (unary 40 un.Minus (leaf (Expr-F.Number 41 6))) ∷ [])) (braces 44 []) ∷ []) ∷ if_
    (when 47 (binary (binary (leaf (Expr-F.Name (named 52 (codes "NaN")))) (link 56 op.BitOr (leaf (Expr-F.Number 58
    3)) ∷ [])) (link 61 op.Equal (leaf (Expr-F.Number 65 3)) ∷ [])) (braces 68 []) ∷ []) ∷ if_ (when 71 (binary (unary
    75 un.Complement (leaf (Expr-F.Number 76 5))) (link 78 op.Equal (unary 82 un.Minus (leaf (Expr-F.Number 83 6))) ∷
    [])) (braces 86 []) ∷ []) ∷ [])

bits : goes 10 [] [] bits_script ≡ ((branched 0 1 ∷ branched 23 1 ∷ branched 47 1 ∷ branched 71 1 ∷ []), Done)
unfolding count turn new_object call_builtin construct get_row bracket_row set_row test_row logical_row binary_row unary_row step_row open_cell init_name find_name read_name put_name digits
bits = path_is 10 [] [] bits_script refl

-- if (1 << 33 === 2) {} if (1 << 31 === -2147483648) {} if (-5 >> 1 === -3) {} if (-1 >>> 28 === 15) {}
abbrev shifts_script : List KnownStmt
shifts_script = (if_ (when 0 (binary (binary (leaf (Expr-F.Number 4 1)) (link 6 op.ShiftLeft (leaf (Expr-F.Number 9
    33)) ∷ [])) (link 12 op.Equal (leaf (Expr-F.Number 16 2)) ∷ [])) (braces 19 []) ∷ []) ∷ if_ (when 22 (binary
    (binary (leaf (Expr-F.Number 26 1)) (link 28 op.ShiftLeft (leaf (Expr-F.Number 31 31)) ∷ [])) (link 34 op.Equal
    (unary 38 un.Minus (leaf (Expr-F.Number 39 2147483648))) ∷ [])) (braces 51 []) ∷ []) ∷ if_ (when 54 (binary
    (binary (unary 58 un.Minus (leaf (Expr-F.Number 59 5))) (link 61 op.ShiftRight (leaf (Expr-F.Number 64 1)) ∷ []))
    (link 66 op.Equal (unary 70 un.Minus (leaf (Expr-F.Number 71 3))) ∷ [])) (braces 74 []) ∷ []) ∷ if_ (when 77
    (binary (binary (unary 81 un.Minus (leaf (Expr-F.Number 82 1))) (link 84 op.ShiftRightZero (leaf (Expr-F.Number 88
    28)) ∷ [])) (link 91 op.Equal (leaf (Expr-F.Number 95 15)) ∷ [])) (braces 99 []) ∷ []) ∷ [])

shifts : goes 10 [] [] shifts_script ≡ ((branched 0 1 ∷ branched 22 1 ∷ branched 54 1 ∷ branched 77 1 ∷ []), Done)
unfolding count turn new_object call_builtin construct get_row bracket_row set_row test_row logical_row binary_row unary_row step_row open_cell init_name find_name read_name put_name digits
shifts = path_is 10 [] [] shifts_script refl

-- if ("ab" < "b") {} if ("a" >= "ab") {} if (NaN <= NaN) {} if (null <= 0) {}
abbrev orders_script : List KnownStmt
orders_script = (if_ (when 0 (binary (leaf (Expr-F.Text 4 (codes "ab"))) (link 9 op.Less (leaf (Expr-F.Text 11 (codes
    "b"))) ∷ [])) (braces 16 []) ∷ []) ∷ if_ (when 19 (binary (leaf (Expr-F.Text 23 (codes "a"))) (link 27
    op.GreaterEqual (leaf (Expr-F.Text 30 (codes "ab"))) ∷ [])) (braces 36 []) ∷ []) ∷ if_ (when 39 (binary (leaf
    (Expr-F.Name (named 43 (codes "NaN")))) (link 47 op.LessEqual (leaf (Expr-F.Name (named 50 (codes "NaN")))) ∷ []))
    (braces 55 []) ∷ []) ∷ if_ (when 58 (binary (leaf (Expr-F.Null 62)) (link 67 op.LessEqual (leaf (Expr-F.Number 70
    0)) ∷ [])) (braces 73 []) ∷ []) ∷ [])

orders : goes 10 [] [] orders_script ≡ ((branched 0 1 ∷ branched 19 0 ∷ branched 39 0 ∷ branched 58 1 ∷ []), Done)
unfolding count turn new_object call_builtin construct get_row bracket_row set_row test_row logical_row binary_row unary_row step_row open_cell init_name find_name read_name put_name digits
orders = path_is 10 [] [] orders_script refl

-- if (NaN === NaN) {} if (null === undefined) {} if ("a" === "a") {} if ([] !== []) {}
abbrev equals_script : List KnownStmt
equals_script = (if_ (when 0 (binary (leaf (Expr-F.Name (named 4 (codes "NaN")))) (link 8 op.Equal (leaf (Expr-F.Name
    (named 12 (codes "NaN")))) ∷ [])) (braces 17 []) ∷ []) ∷ if_ (when 20 (binary (leaf (Expr-F.Null 24)) (link 29
    op.Equal (leaf (Expr-F.Name (named 33 (codes "undefined")))) ∷ [])) (braces 44 []) ∷ []) ∷ if_ (when 47 (binary
    (leaf (Expr-F.Text 51 (codes "a"))) (link 55 op.Equal (leaf (Expr-F.Text 59 (codes "a"))) ∷ [])) (braces 64 []) ∷
    []) ∷ if_ (when 67 (binary (array 71 []) (link 74 op.NotEqual (array 78 []) ∷ [])) (braces 82 []) ∷ []) ∷ [])

equals : goes 10 [] [] equals_script ≡ ((branched 0 0 ∷ branched 20 0 ∷ branched 47 1 ∷ branched 67 1 ∷ []), Done)
unfolding count turn new_object call_builtin construct get_row bracket_row set_row test_row logical_row binary_row unary_row step_row open_cell init_name find_name read_name put_name digits
equals = path_is 10 [] [] equals_script refl

-- if ("a" + -12 + null + true === "a-12nulltrue") {}
abbrev texts_script : List KnownStmt
texts_script = (if_ (when 0 (binary (binary (leaf (Expr-F.Text 4 (codes "a"))) (link 8 op.Add (unary 10 un.Minus (leaf
    (Expr-F.Number 11 12))) ∷ link 14 op.Add (leaf (Expr-F.Null 16)) ∷ link 21 op.Add (leaf (Expr-F.True 23)) ∷ []))
    (link 28 op.Equal (leaf (Expr-F.Text 32 (codes "a-12nulltrue"))) ∷ [])) (braces 48 []) ∷ []) ∷ [])

texts : goes 10 [] [] texts_script ≡ ((branched 0 1 ∷ []), Done)
unfolding count turn new_object call_builtin construct get_row bracket_row set_row test_row logical_row binary_row unary_row step_row open_cell init_name find_name read_name put_name digits
texts = path_is 10 [] [] texts_script refl

-- if ([1, 2].length === "ab".length) {}
abbrev array_length_script : List KnownStmt
array_length_script = (if_ (when 0 (binary (call (array 4 (leaf (Expr-F.Number 5 1) ∷ leaf (Expr-F.Number 8 2) ∷ []))
    (get (dot 10 (codes "length")) ∷ [])) (link 18 op.Equal (call (leaf (Expr-F.Text 22 (codes "ab"))) (get (dot 26
    (codes "length")) ∷ [])) ∷ [])) (braces 35 []) ∷ []) ∷ [])

array_length : goes 10 [] [] array_length_script ≡ ((branched 0 1 ∷ []), Done)
unfolding count turn new_object call_builtin construct get_row bracket_row set_row test_row logical_row binary_row unary_row step_row open_cell init_name find_name read_name put_name digits
array_length = path_is 10 [] [] array_length_script refl

-- if (NaN) {} if ("") {} if (undefined) {} if (null) {} if (false) {}
abbrev falsy_script : List KnownStmt
falsy_script = (if_ (when 0 (leaf (Expr-F.Name (named 4 (codes "NaN")))) (braces 9 []) ∷ []) ∷ if_ (when 12 (leaf
    (Expr-F.Text 16 [])) (braces 20 []) ∷ []) ∷ if_ (when 23 (leaf (Expr-F.Name (named 27 (codes "undefined"))))
    (braces 38 []) ∷ []) ∷ if_ (when 41 (leaf (Expr-F.Null 45)) (braces 51 []) ∷ []) ∷ if_ (when 54 (leaf
    (Expr-F.False 58)) (braces 65 []) ∷ []) ∷ [])

falsy : goes 10 [] [] falsy_script ≡ (
  (branched 0 0 ∷ branched 12 0 ∷ branched 23 0 ∷ branched 41 0 ∷ branched 54 0 ∷
      []),
  Done,
)
unfolding count turn new_object call_builtin construct get_row bracket_row set_row test_row logical_row binary_row unary_row step_row open_cell init_name find_name read_name put_name digits
falsy = path_is 10 [] [] falsy_script refl

-- if (-1) {} if ("0") {} if ([]) {} if ({}) {} if (true) {}
abbrev truthy_script : List KnownStmt
truthy_script = (if_ (when 0 (unary 4 un.Minus (leaf (Expr-F.Number 5 1))) (braces 8 []) ∷ []) ∷ if_ (when 11 (leaf
    (Expr-F.Text 15 (codes "0"))) (braces 20 []) ∷ []) ∷ if_ (when 23 (array 27 []) (braces 31 []) ∷ []) ∷ if_ (when
    34 (object 38 []) (braces 42 []) ∷ []) ∷ if_ (when 45 (leaf (Expr-F.True 49)) (braces 55 []) ∷ []) ∷ [])

truthy : goes 10 [] [] truthy_script ≡ (
  (branched 0 1 ∷ branched 11 1 ∷ branched 23 1 ∷ branched 34 1 ∷ branched 45 1
      ∷ []),
  Done,
)
unfolding count turn new_object call_builtin construct get_row bracket_row set_row test_row logical_row binary_row unary_row step_row open_cell init_name find_name read_name put_name digits
truthy = path_is 10 [] [] truthy_script refl

-- if (!NaN === true) {} if (+true === 1) {} if (-null === 0) {} if (typeof true === "boolean") {} if (typeof undefined === "undefined") {}
abbrev nots_script : List KnownStmt
nots_script = (if_ (when 0 (binary (unary 4 un.Not (leaf (Expr-F.Name (named 5 (codes "NaN"))))) (link 9 op.Equal
    (leaf (Expr-F.True 13)) ∷ [])) (braces 19 []) ∷ []) ∷ if_ (when 22 (binary (unary 26 un.Plus (leaf (Expr-F.True
    27))) (link 32 op.Equal (leaf (Expr-F.Number 36 1)) ∷ [])) (braces 39 []) ∷ []) ∷ if_ (when 42 (binary (unary 46
    un.Minus (leaf (Expr-F.Null 47))) (link 52 op.Equal (leaf (Expr-F.Number 56 0)) ∷ [])) (braces 59 []) ∷ []) ∷ if_
    (when 62 (binary (unary 66 un.TypeOf (leaf (Expr-F.True 73))) (link 78 op.Equal (leaf (Expr-F.Text 82 (codes
    "boolean"))) ∷ [])) (braces 93 []) ∷ []) ∷ if_ (when 96 (binary (unary 100 un.TypeOf (leaf (Expr-F.Name (named 107
    (codes "undefined"))))) (link 117 op.Equal (leaf (Expr-F.Text 121 (codes "undefined"))) ∷ [])) (braces 134 []) ∷
    []) ∷ [])

nots : goes 10 [] [] nots_script ≡ (
  (branched 0 1 ∷ branched 22 1 ∷ branched 42 1 ∷ branched 62 1 ∷ branched 96 1 ∷
      []),
  Done,
)
unfolding count turn new_object call_builtin construct get_row bracket_row set_row test_row logical_row binary_row unary_row step_row open_cell init_name find_name read_name put_name digits
nots = path_is 10 [] [] nots_script refl

-- if ((5 | 8) === 13) {} if ((6 ^ 3) === 5) {} if (-8 >>> 0 === 4294967288) {} if (2147483648 >> 0 === -2147483648) {} if (~NaN === -1) {}
abbrev more_bits_script : List KnownStmt
more_bits_script = (if_ (when 0 (binary (binary (leaf (Expr-F.Number 5 5)) (link 7 op.BitOr (leaf (Expr-F.Number 9 8))
    ∷ [])) (link 12 op.Equal (leaf (Expr-F.Number 16 13)) ∷ [])) (braces 20 []) ∷ []) ∷ if_ (when 23 (binary (binary
    (leaf (Expr-F.Number 28 6)) (link 30 op.BitXor (leaf (Expr-F.Number 32 3)) ∷ [])) (link 35 op.Equal (leaf
    (Expr-F.Number 39 5)) ∷ [])) (braces 42 []) ∷ []) ∷ if_ (when 45 (binary (binary (unary 49 un.Minus (leaf
    (Expr-F.Number 50 8))) (link 52 op.ShiftRightZero (leaf (Expr-F.Number 56 0)) ∷ [])) (link 58 op.Equal (leaf
    (Expr-F.Number 62 4294967288)) ∷ [])) (braces 74 []) ∷ []) ∷ if_ (when 77 (binary (binary (leaf (Expr-F.Number 81
    2147483648)) (link 92 op.ShiftRight (leaf (Expr-F.Number 95 0)) ∷ [])) (link 97 op.Equal (unary 101 un.Minus (leaf
    (Expr-F.Number 102 2147483648))) ∷ [])) (braces 114 []) ∷ []) ∷ if_ (when 117 (binary (unary 121 un.Complement
    (leaf (Expr-F.Name (named 122 (codes "NaN"))))) (link 126 op.Equal (unary 130 un.Minus (leaf (Expr-F.Number 131
    1))) ∷ [])) (braces 134 []) ∷ []) ∷ [])

more_bits : goes 10 [] [] more_bits_script ≡ (
  (branched 0 1 ∷ branched 23 1 ∷ branched 45 1 ∷ branched 77 1 ∷ branched
      117 1 ∷ []),
  Done,
)
unfolding count turn new_object call_builtin construct get_row bracket_row set_row test_row logical_row binary_row unary_row step_row open_cell init_name find_name read_name put_name digits
more_bits = path_is 10 [] [] more_bits_script refl

-- if (2 > 1) {} if (1 >= 2) {} if ("b" > "ab") {} if ("a" <= "a") {} if (true > false) {}
abbrev more_orders_script : List KnownStmt
more_orders_script = (if_ (when 0 (binary (leaf (Expr-F.Number 4 2)) (link 6 op.Greater (leaf (Expr-F.Number 8 1)) ∷
    [])) (braces 11 []) ∷ []) ∷ if_ (when 14 (binary (leaf (Expr-F.Number 18 1)) (link 20 op.GreaterEqual (leaf
    (Expr-F.Number 23 2)) ∷ [])) (braces 26 []) ∷ []) ∷ if_ (when 29 (binary (leaf (Expr-F.Text 33 (codes "b"))) (link
    37 op.Greater (leaf (Expr-F.Text 39 (codes "ab"))) ∷ [])) (braces 45 []) ∷ []) ∷ if_ (when 48 (binary (leaf
    (Expr-F.Text 52 (codes "a"))) (link 56 op.LessEqual (leaf (Expr-F.Text 59 (codes "a"))) ∷ [])) (braces 64 []) ∷
    []) ∷ if_ (when 67 (binary (leaf (Expr-F.True 71)) (link 76 op.Greater (leaf (Expr-F.False 78)) ∷ [])) (braces 85
    []) ∷ []) ∷ [])

more_orders : goes 10 [] [] more_orders_script ≡ (
  (branched 0 1 ∷ branched 14 0 ∷ branched 29 1 ∷ branched 48 1 ∷
      branched 67 1 ∷ []),
  Done,
)
unfolding count turn new_object call_builtin construct get_row bracket_row set_row test_row logical_row binary_row unary_row step_row open_cell init_name find_name read_name put_name digits
more_orders = path_is 10 [] [] more_orders_script refl

-- if (1 !== true) {} if (NaN !== NaN) {} if ("1" === 1) {} if (null === null) {}
abbrev not_equal_script : List KnownStmt
not_equal_script = (if_ (when 0 (binary (leaf (Expr-F.Number 4 1)) (link 6 op.NotEqual (leaf (Expr-F.True 10)) ∷ []))
    (braces 16 []) ∷ []) ∷ if_ (when 19 (binary (leaf (Expr-F.Name (named 23 (codes "NaN")))) (link 27 op.NotEqual
    (leaf (Expr-F.Name (named 31 (codes "NaN")))) ∷ [])) (braces 36 []) ∷ []) ∷ if_ (when 39 (binary (leaf
    (Expr-F.Text 43 (codes "1"))) (link 47 op.Equal (leaf (Expr-F.Number 51 1)) ∷ [])) (braces 54 []) ∷ []) ∷ if_
    (when 57 (binary (leaf (Expr-F.Null 61)) (link 66 op.Equal (leaf (Expr-F.Null 70)) ∷ [])) (braces 76 []) ∷ []) ∷
    [])

not_equal : goes 10 [] [] not_equal_script ≡ (
  (branched 0 1 ∷ branched 19 1 ∷ branched 39 0 ∷ branched 57 1 ∷ []),
  Done,
)
unfolding count turn new_object call_builtin construct get_row bracket_row set_row test_row logical_row binary_row unary_row step_row open_cell init_name find_name read_name put_name digits
not_equal = path_is 10 [] [] not_equal_script refl

-- if (NaN + 1 === 0) {} if (undefined * 2 === 0) {} if (typeof (NaN - 1) === "number") {}
abbrev nan_sums_script : List KnownStmt
nan_sums_script = (if_ (when 0 (binary (binary (leaf (Expr-F.Name (named 4 (codes "NaN")))) (link 8 op.Add (leaf
    (Expr-F.Number 10 1)) ∷ [])) (link 12 op.Equal (leaf (Expr-F.Number 16 0)) ∷ [])) (braces 19 []) ∷ []) ∷ if_ (when
    22 (binary (binary (leaf (Expr-F.Name (named 26 (codes "undefined")))) (link 36 op.Multiply (leaf (Expr-F.Number
    38 2)) ∷ [])) (link 40 op.Equal (leaf (Expr-F.Number 44 0)) ∷ [])) (braces 47 []) ∷ []) ∷ if_ (when 50 (binary
    (unary 54 un.TypeOf (binary (leaf (Expr-F.Name (named 62 (codes "NaN")))) (link 66 op.Subtract (leaf
    (Expr-F.Number 68 1)) ∷ []))) (link 71 op.Equal (leaf (Expr-F.Text 75 (codes "number"))) ∷ [])) (braces 85 []) ∷
    []) ∷ [])

nan_sums : goes 10 [] [] nan_sums_script ≡ ((branched 0 0 ∷ branched 22 0 ∷ branched 50 1 ∷ []), Done)
unfolding count turn new_object call_builtin construct get_row bracket_row set_row test_row logical_row binary_row unary_row step_row open_cell init_name find_name read_name put_name digits
nan_sums = path_is 10 [] [] nan_sums_script refl
