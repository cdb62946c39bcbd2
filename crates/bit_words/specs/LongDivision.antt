-- Long division in base 2 (this project's own).
use Rattle.std.specs.Prelude.{ℤ, pos, ◌+ℤ◌, ◌*ℤ◌, ◌≤ℤ◌, ◌<ℤ◌, ◌+◌, ◌*◌, Bool, false, if◌then◌else◌, ◌≡◌, List, [], ◌∷◌, length, All}
use Rattle.cnf_core.specs.Literals.{Names, lit_true}
use Rattle.cnf_core.specs.declared.clauses.Cnf.{Cnf}
use Rattle.bit_words.specs.Builds.{Built}
use Rattle.bit_words.specs.Words.{bit_int, bits, word_value}

-- a number that isn't negative and is below twice the divisor: whether the divisor goes into it, and what is left
pub record IsStepOf (next divisor : ℤ) (bit : Bool) (left : ℤ) : Type 0 where
  pub is : next ≡ (if bit then divisor else pos 0) +ℤ left
  pub least : pos 0 ≤ℤ left
  pub small : left <ℤ divisor

abbrev pub IsStep : ℤ → ℤ → Bool → ℤ → Type 0
IsStep next divisor bit left = pos 0 ≤ℤ next → next <ℤ (divisor +ℤ divisor) → IsStepOf next divisor bit left

-- the quotient and the rest of numbers that aren't negative
pub record IsQuotient (top divisor quotient left : ℤ) : Type 0 where
  pub is : top ≡ (quotient *ℤ divisor) +ℤ left
  pub positive : pos 0 ≤ℤ quotient
  pub least : pos 0 ≤ℤ left
  pub small : left <ℤ divisor

-- the number whose lowest bits are these, and whose upper bits are the number z
abbrev pub above : List Bool → ℤ → ℤ
above [] z = z
above (x ∷ xs) z = bit_int x +ℤ (above xs z +ℤ above xs z)

-- the words of a quotient and a rest were made, of the number that has these bits and no sign
pub record AreDivided (old new : Cnf) (low divisor : List ℤ) (never : ℤ) (quotient left : List ℤ) : Type 0 where
  pub quotient_width : length quotient ≡ length low + 1
  pub left_width : length left ≡ length divisor
  pub quotient_names : All (Names new.variables) quotient
  pub left_names : All (Names new.variables) left
  pub built : Built old new (length low * (4 * length divisor + 8)) [] (λ v. lit_true v never ≡ false → pos 0 <ℤ word_value v divisor
      → IsQuotient (above (bits v low) (pos 0)) (word_value v divisor) (word_value v quotient) (word_value v left))
