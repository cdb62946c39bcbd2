-- The lowest 32 bits of words (this project's own).
use Rattle.std.specs.Prelude.{ℕ, ℤ, ◌+◌, ◌-◌, ◌*◌, ◌%◌, ◌^◌, ◌≡◌, max, Bool, true, false, if◌then◌else◌, List, [], ◌∷◌, length, take}
use Rattle.cnf_core.specs.Literals.{lit_true}
use Rattle.js_values.specs.Numbers.{signed, all_bits}
use Rattle.bit_words.specs.Builds.{Values}
use Rattle.bit_words.specs.Words.{padded, bits, word_value}

-- the lowest 32 bits, where the sign stands in each that the word hasn't
abbrev pub low_bits : List ℤ → List ℤ
low_bits word = take 32 (padded (max (length word) 33 - length word) word)

-- the number that the bits write in base 2
abbrev pub nat_bit : Bool → ℕ
nat_bit true = 1
nat_bit false = 0

abbrev pub nat_of : List Bool → ℕ
nat_of [] = 0
nat_of (x ∷ xs) = nat_bit x + 2 * nat_of xs

-- the number of the lowest five bits
abbrev pub shift_count_of : Values → List ℤ → ℕ
shift_count_of v count = nat_of (take 5 (bits v count))

-- the lowest 32 bits of the number times a power of 2, signed
abbrev pub raised : ℕ → ℕ → ℤ
raised n by = signed ((n * 2 ^ by) % all_bits)

-- 32 bits were moved up where the literal holds
abbrev pub IsRaised : List ℤ → ℕ → ℤ → ℤ → List ℤ → Values → Type 0
IsRaised a by when never word v = lit_true v never ≡ false
    → word_value v word ≡ (if lit_true v when then raised (nat_of (bits v a)) by else signed (nat_of (bits v a)))
