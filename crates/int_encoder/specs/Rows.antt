-- The operators on whole numbers that a constraint has, and what each may cost (this project's own).
use Rattle.std.specs.Prelude.{ℕ, ℤ, pos, Bool, ◌*◌, ◌<◌, ◌≡◌, max, List, [], ◌∷◌, length, map, Some, All, ◌+ℤ◌, ◌-ℤ◌, ◌*ℤ◌}
use Rattle.cnf_core.specs.Literals.{Names, lit_true}
use Rattle.cnf_core.specs.declared.clauses.Cnf.{Cnf}
use Rattle.js_values.specs.Numbers.{equal, less, is_safe}
use Rattle.js_values.specs.Integers.{quotient, rest, safe, bits_and, bits_or, bits_xor, bits_left, bits_right, bits_right_zero}
use Rattle.bit_words.specs.Builds.{Values, Built}
use Rattle.bit_words.specs.Words.{word_value}
use Rattle.int_encoder.specs.declared.op.IntOp.{IntOp}
use Rattle.int_encoder.specs.declared.op.IntOp.TheVariants as op
use Rattle.int_encoder.specs.declared.op.IntBits.{IntBits}
use Rattle.int_encoder.specs.declared.op.IntBits.TheVariants as made

pub data Value : Type 0 where
  whole : ℤ → Value
  truth : Bool → Value

-- how many parts the operator has
abbrev pub part_count : IntOp → ℕ
part_count op.Fits = 1
part_count op.Safe = 1
part_count _ = 2

-- the value of an operator at two numbers; one that has one part takes the first
abbrev pub int_value : IntOp → ℤ → ℤ → Value
int_value op.Eq m n = truth (equal (Some m) (Some n))
int_value op.Less m n = truth (less (Some m) (Some n))
int_value op.Add m n = whole (m +ℤ n)
int_value op.Sub m n = whole (m -ℤ n)
int_value op.Mul m n = whole (m *ℤ n)
int_value op.Quot m n = whole (quotient m n)
int_value op.Rem m n = whole (rest m n)
int_value op.Fits m n = truth (is_safe m)
int_value op.Safe m n = whole (safe m)
int_value op.BitAnd m n = whole (bits_and m n)
int_value op.BitOr m n = whole (bits_or m n)
int_value op.BitXor m n = whole (bits_xor m n)
int_value op.Shl m n = whole (bits_left m n)
int_value op.Shr m n = whole (bits_right m n)
int_value op.Ushr m n = whole (bits_right_zero m n)

-- the value at the first part and the last one, of one or two
abbrev pub row_value : IntOp → List ℤ → Value
row_value o [] = whole (pos 0)
row_value o (m ∷ []) = int_value o m m
row_value o (m ∷ n ∷ rest) = int_value o m n

-- the most variables that the operator may add, for parts of at most w bits
abbrev pub own_cost : IntOp → ℕ → ℕ
own_cost op.Mul w = 32 * (w * w)
own_cost op.Quot w = 64 * (w * w)
own_cost op.Rem w = 64 * (w * w)
own_cost op.BitAnd w = 4096
own_cost op.BitOr w = 4096
own_cost op.BitXor w = 4096
own_cost op.Shl w = 4096
own_cost op.Shr w = 4096
own_cost op.Ushr w = 4096
own_cost _ w = 16 * w

-- the bits of the widest part
abbrev pub widest : List (List ℤ) → ℕ
widest [] = 0
widest (word ∷ words) = max (length word) (widest words)

-- a word of at least one bit over the variables 1 to n
pub record IsPart (n : ℕ) (word : List ℤ) : Type 0 where
  pub some : 0 < length word
  pub names : All (Names n) word

-- the numbers of the parts at these values
abbrev pub part_values : Values → List (List ℤ) → List ℤ
part_values v parts = map (word_value v) parts

abbrev pub made_bits : IntBits → List ℤ
made_bits (made.Int word) = word
made_bits (made.Flag lit) = lit ∷ []

abbrev pub made_value : Values → IntBits → Value
made_value v (made.Int word) = whole (word_value v word)
made_value v (made.Flag lit) = truth (lit_true v lit)

-- Every assignment of the earlier bits has exactly one of the new ones, at most the operator's own cost of variables were
-- added, what was made names variables, and it has the operator's value.
abbrev pub IsRow : Cnf → Cnf → IntOp → List (List ℤ) → IntBits → Type 0
IsRow old new o parts made = Built old new (own_cost o (widest parts)) (made_bits made) (λ v. made_value v made ≡ row_value o (part_values v parts))
