-- Operators, one row each: the items that it shows, and then a value or an end. A guard stands where an operand's value,
-- and not its kind, could make the run leave the profile.
use Rattle.std.specs.Prelude.{ℕ, pos, nat_lt, nat_le, ◌==◌, Bool, true, false, not, ◌&&◌, ◌||◌, bytes_eq, length, List, [], ◌∷◌, ◌++◌, Option, Some, None, codes, bit_and, bit_or, bit_xor, if◌then◌else◌}
use Rattle.path_core.specs.declared.path.Event.{Event}
use Rattle.path_core.specs.declared.path.Event.TheVariants.{Pick}
use Rattle.path_core.specs.declared.path.PickKind.TheVariants.{Branch}
use Rattle.path_core.specs.declared.path.Why.TheVariants as why
use Rattle.js_ast.specs.declared.operators.BinaryOp.{BinaryOp}
use Rattle.js_ast.specs.declared.operators.BinaryOp.TheVariants as op
use Rattle.js_ast.specs.declared.operators.UnaryOp.{UnaryOp}
use Rattle.js_ast.specs.declared.operators.UnaryOp.TheVariants as unary
use Rattle.js_ast.specs.declared.operators.StepOp.{StepOp}
use Rattle.js_ast.specs.declared.operators.StepOp.TheVariants.{Increment, Decrement}
use Rattle.js_ast.specs.declared.operators.LogicalOp.{LogicalOp}
use Rattle.js_ast.specs.declared.operators.LogicalOp.TheVariants as logic
use Rattle.js_values.specs.Numbers.{Number, fits, add, subtract, multiply, divides, divide, remainder, negate, to_int32, bitwise, complement, shift_left, shift_right, shift_right_zero, less, at_most, equal}
use Rattle.js_meaning.specs.Values.{Text, Value, undefined, null, truth, int, nan, text, object, Object}
use Rattle.js_meaning.specs.Running.{Row, made, gives, guarded, giving, ending, text_limit}
use Rattle.js_meaning.specs.Conversions.{to_boolean, number_value, bit, to_number, to_string, to_place, is_nullish, is_text}
use Rattle.js_meaning.specs.Objects.{is_callable}

-- ---- tests

abbrev pub branch_event : ℕ → Bool → Event
branch_event site holds = Pick site Branch (bit holds) 2

-- a Branch event with the outcome, which is the value
abbrev pub branch_row : ℕ → Bool → Row
branch_row site holds = (made (branch_event site holds) ∷ [], gives (truth holds))

-- the test of a statement or of `?:`
unfoldable pub test_row : ℕ → Value → Row
test_row site x = branch_row site (to_boolean x)

-- the left side of `&&`, `||` and `??` (13.13.1)
unfoldable pub logical_row : LogicalOp → ℕ → Value → Row
logical_row logic.And site x = test_row site x
logical_row logic.Or site x = test_row site x
logical_row logic.Coalesce site x = branch_row site (is_nullish x)

-- whether the right side is evaluated behind that outcome
abbrev pub goes_on : LogicalOp → Bool → Bool
goes_on logic.And holds = holds
goes_on logic.Or holds = not holds
goes_on logic.Coalesce holds = holds

-- ---- conversions of operands, which the kinds decide

abbrev pub converted : {A : Type 0} → ℕ → Option A → (A → Row) → Row
converted site None go = ending site why.Convert
converted site (Some a) go = go a

abbrev pub on_number : ℕ → (Number → Row) → Value → Row
on_number site go x = converted site (to_number x) go

-- the left side first (13.15.3, ApplyStringOrNumericBinaryOperator)
abbrev pub on_numbers : ℕ → (Number → Number → Row) → Value → Value → Row
on_numbers site go x y = on_number site (λ m. on_number site (go m) y) x

-- ---- conversions as rows

-- the text of a value
unfoldable pub text_row : ℕ → Value → Row
text_row site x = converted site (to_string x) (λ t. giving (text t))

-- the place of a value, with a stated default
unfoldable pub place_row : ℕ → Value → Value → Row
place_row site missing x = converted site (to_place missing x) giving

-- ---- arithmetic

-- a result that is a number of the language
abbrev pub in_range : ℕ → Number → Row
in_range site n = guarded (fits n) site why.Range (gives (number_value n))

abbrev pub add_numbers : ℕ → Number → Number → Row
add_numbers site m n = in_range site (add m n)

abbrev pub subtract_row : ℕ → Number → Number → Row
subtract_row site m n = in_range site (subtract m n)

abbrev pub multiply_row : ℕ → Number → Number → Row
multiply_row site m n = in_range site (multiply m n)

-- 0 and what doesn't divide are one guard
abbrev pub divide_row : ℕ → Number → Number → Row
divide_row site m n = guarded (divides m n) site why.Divide (gives (number_value (divide m n)))

abbrev pub remainder_row : Number → Number → Row
remainder_row m n = giving (number_value (remainder m n))

-- two strings joined
abbrev pub joined : ℕ → Text → Text → Row
joined site s t = guarded (nat_le (length (s ++ t)) text_limit) site why.Size (gives (text (s ++ t)))

abbrev pub add_texts : ℕ → Value → Value → Row
add_texts site x y = converted site (to_string x) (λ s. converted site (to_string y) (joined site s))

-- `+` joins where either side is a string
abbrev pub joins : Value → Value → Bool
joins x y = is_text x || is_text y

abbrev pub add_row : ℕ → Value → Value → Row
add_row site x y = if joins x y then add_texts site x y else on_numbers site (add_numbers site) x y

-- ---- order and equality

-- the first unit that differs decides, else the shorter is less (7.2.12, IsLessThan, of two strings)
abbrev pub text_less : Text → Text → Bool
text_less [] [] = false
text_less [] (y ∷ ys) = true
text_less (x ∷ xs) [] = false
text_less (x ∷ xs) (y ∷ ys) = nat_lt x y || ((x == y) && text_less xs ys)

-- two strings by their units, other values by their numbers
abbrev pub order_row : (Text → Text → Bool) → (Number → Number → Bool) → ℕ → Value → Value → Row
order_row by_units by_numbers site (text s) (text t) = giving (truth (by_units s t))
order_row by_units by_numbers site x y = on_numbers site (λ m n. giving (truth (by_numbers m n))) x y

abbrev pub same_truth : Bool → Bool → Bool
same_truth true b = b
same_truth false b = not b

-- IsStrictlyEqual (7.2.14): values of different types are not equal, nor is NaN to anything
abbrev pub strictly_equal : Value → Value → Bool
strictly_equal undefined undefined = true
strictly_equal null null = true
strictly_equal (truth a) (truth b) = same_truth a b
strictly_equal (int m) (int n) = equal (Some m) (Some n)
strictly_equal (text s) (text t) = bytes_eq s t
strictly_equal (object o) (object p) = o == p
strictly_equal _ _ = false

-- ---- the table of operators between two values (13.7 to 13.12)

unfoldable pub binary_row : BinaryOp → ℕ → Value → Value → Row
binary_row op.Add site x y = add_row site x y
binary_row op.Subtract site x y = on_numbers site (subtract_row site) x y
binary_row op.Multiply site x y = on_numbers site (multiply_row site) x y
binary_row op.Divide site x y = on_numbers site (divide_row site) x y
binary_row op.Remainder site x y = on_numbers site remainder_row x y
binary_row op.ShiftLeft site x y = on_numbers site (λ m n. giving (int (shift_left m n))) x y
binary_row op.ShiftRight site x y = on_numbers site (λ m n. giving (int (shift_right m n))) x y
binary_row op.ShiftRightZero site x y = on_numbers site (λ m n. giving (int (shift_right_zero m n))) x y
binary_row op.BitAnd site x y = on_numbers site (λ m n. giving (int (bitwise bit_and m n))) x y
binary_row op.BitXor site x y = on_numbers site (λ m n. giving (int (bitwise bit_xor m n))) x y
binary_row op.BitOr site x y = on_numbers site (λ m n. giving (int (bitwise bit_or m n))) x y
binary_row op.Less site x y = order_row text_less less site x y
binary_row op.Greater site x y = order_row (λ s t. text_less t s) (λ m n. less n m) site x y
binary_row op.LessEqual site x y = order_row (λ s t. not (text_less t s)) at_most site x y
binary_row op.GreaterEqual site x y = order_row (λ s t. not (text_less s t)) (λ m n. at_most n m) site x y
binary_row op.Equal site x y = giving (truth (strictly_equal x y))
binary_row op.NotEqual site x y = giving (truth (not (strictly_equal x y)))

-- whether the operator joins two strings
abbrev pub is_join : BinaryOp → Value → Value → Bool
is_join op.Add x y = joins x y
is_join _ x y = false

-- ---- the table of operators before a value (13.5)

-- 13.5.3, The typeof Operator
abbrev pub type_of : Value → List Object → Text
type_of undefined objects = codes "undefined"
type_of null objects = codes "object"
type_of (truth b) objects = codes "boolean"
type_of (int n) objects = codes "number"
type_of nan objects = codes "number"
type_of (text t) objects = codes "string"
type_of (object o) objects = if is_callable (object o) objects then codes "function" else codes "object"

unfoldable pub unary_row : UnaryOp → ℕ → Value → List Object → Row
unary_row unary.Plus site x objects = on_number site (λ n. giving (number_value n)) x
unary_row unary.Minus site x objects = on_number site (λ n. giving (number_value (negate n))) x
unary_row unary.Not site x objects = giving (truth (not (to_boolean x)))
unary_row unary.Complement site x objects = on_number site (λ n. giving (int (complement (to_int32 n)))) x
unary_row unary.TypeOf site x objects = giving (text (type_of x objects))

-- ---- `++` and `--` (13.4)

abbrev pub stepped : StepOp → Number → Number
stepped Increment n = add n (Some (pos 1))
stepped Decrement n = subtract n (Some (pos 1))

-- the new value
unfoldable pub step_row : StepOp → ℕ → Value → Row
step_row s site x = on_number site (λ n. in_range site (stepped s n)) x

abbrev pub number_or_nan : Option Number → Value
number_or_nan None = nan
number_or_nan (Some n) = number_value n

-- the old value, as a number: what the operator behind its target gives
abbrev pub old_number : Value → Value
old_number x = number_or_nan (to_number x)
