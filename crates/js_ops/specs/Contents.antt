-- Rows on plain contents.
use Rattle.std.specs.Prelude.{◌≡◌, ℕ, ℤ, pos, negsuc, ◌≤ℤ◌, Bool, true, false, not, List, [], ◌∷◌, Option, Some, None, bit_and, bit_or, bit_xor}
use Rattle.path_core.specs.declared.path.Why.TheVariants as why
use Rattle.path_core.specs.declared.path.End.{End}
use Rattle.path_core.specs.declared.path.End.TheVariants.{Left}
use Rattle.js_meaning.specs.Apart.{Guarding}
use Rattle.js_ast.specs.declared.operators.BinaryOp.{BinaryOp}
use Rattle.js_ast.specs.declared.operators.BinaryOp.TheVariants as op
use Rattle.js_values.specs.Numbers.{Number, is_safe, bitwise, shift_left, shift_right, shift_right_zero, less, at_most}
use Rattle.js_meaning.specs.Values.{int, truth}
use Rattle.js_meaning.specs.Operators.{add_numbers, subtract_row, multiply_row, divide_row, remainder_row, text_less}
use Rattle.js_meaning.specs.Running.{Row, passed, gives, ends, leaving, giving, ending}
use Rattle.term_table.specs.declared.term.TermId.{TermId}
use Rattle.term_table.specs.declared.outcome.Outcome.{Outcome}
use Rattle.term_table.specs.declared.outcome.Outcome.TheVariants as outcome
use Rattle.term_table.specs.declared.shadow.Plain.{Plain}
use Rattle.term_table.specs.declared.shadow.Plain.TheVariants as plain
use Rattle.term_table.specs.Fitting.{IsValue}
use Rattle.term_table.specs.Views.{plain_value}
use Rattle.js_ops.specs.declared.row.Row.{Row as Contents}
use Rattle.js_ops.specs.declared.row.Row.TheVariants as row

-- the whole number itself, none exactly where it isn't safe
abbrev pub Exact : ℤ → Option ℤ → Type 0
Exact n (Some m) = (m ≡ n) × (is_safe n ≡ true)
Exact n None = is_safe n ≡ false

-- what 32 bits hold, with or without a sign
abbrev pub IsSmall : ℤ → Type 0
IsSmall n = (negsuc 4294967295 ≤ℤ n) × (n ≤ℤ pos 4294967295)

-- at a site
abbrev pub shown : ℕ → Contents → Row
shown site (row.Value p) = ([], gives (plain_value p))
shown site (row.Passed why p) = (passed (leaving site why) ∷ [], gives (plain_value p))
shown site (row.Failed why) = ([], ends (leaving site why))
shown site (row.Ended why) = ([], ends (leaving site why))

-- with both numbers, where both contents are converted
abbrev pub of_pair : ℕ → (Number → Number → Row) → Option (Number × Number) → Row
of_pair site go None = ending site why.Convert
of_pair site go (Some p) = go p.0 p.1

-- its value is a value of the language, and its reason is one of a guard exactly where a guard failed
abbrev pub IsRow : Contents → Type 0
IsRow (row.Value p) = IsValue p
IsRow (row.Passed why p) = IsValue p
IsRow (row.Failed why) = Guarding why
IsRow (row.Ended why) = Guarding why → ⊥

-- what an operator of numbers alone gives
unfoldable pub numbers_row : BinaryOp → ℕ → Number → Number → Row
numbers_row op.Add site m n = add_numbers site m n
numbers_row op.Subtract site m n = subtract_row site m n
numbers_row op.Multiply site m n = multiply_row site m n
numbers_row op.Divide site m n = divide_row site m n
numbers_row op.Remainder site m n = remainder_row m n
numbers_row op.ShiftLeft site m n = giving (int (shift_left m n))
numbers_row op.ShiftRight site m n = giving (int (shift_right m n))
numbers_row op.ShiftRightZero site m n = giving (int (shift_right_zero m n))
numbers_row op.BitAnd site m n = giving (int (bitwise bit_and m n))
numbers_row op.BitXor site m n = giving (int (bitwise bit_xor m n))
numbers_row op.BitOr site m n = giving (int (bitwise bit_or m n))
numbers_row _ site m n = giving (truth false)

-- the operators of order: of strings, and of numbers
unfoldable pub units_order : BinaryOp → List ℕ → List ℕ → Bool
units_order op.Less = λ s t. text_less s t
units_order op.Greater = λ s t. text_less t s
units_order op.LessEqual = λ s t. not (text_less t s)
units_order op.GreaterEqual = λ s t. not (text_less s t)
units_order _ = λ s t. false

unfoldable pub numbers_order : BinaryOp → Number → Number → Bool
numbers_order op.Less = λ m n. less m n
numbers_order op.Greater = λ m n. less n m
numbers_order op.LessEqual = λ m n. at_most m n
numbers_order op.GreaterEqual = λ m n. at_most n m
numbers_order _ = λ m n. false

-- no object, of which the machine tells the kind
abbrev pub IsTold : Plain → Type 0
IsTold (plain.Object o) = ⊥
IsTold _ = Unit {0}

-- the guard that stopped a run is named, and what the kinds decide names none
abbrev pub IsNamed : End → Option TermId → Type 0
IsNamed (Left site why turns ended) failed = (Guarding why → (id : TermId) × (failed ≡ Some id)) × ((Guarding why → ⊥) → failed ≡ None)
IsNamed _ failed = Unit {0}

abbrev pub NamesGuard : Outcome → Type 0
NamesGuard (outcome.Stop moves failed exit) = IsNamed exit failed
NamesGuard _ = Unit {0}
