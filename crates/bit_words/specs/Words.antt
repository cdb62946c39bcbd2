-- Words: whole numbers in two's complement, least bit first (this project's own).
use Rattle.std.specs.Prelude.{ℕ, suc, zero, ◌^◌, replicate, ℤ, pos, ◌+ℤ◌, neg_ℤ, ◌≤ℤ◌, ◌<ℤ◌, Bool, true, false, not, ◌&&◌, if◌then◌else◌, ◌≡◌, ◌*◌, ◌<◌, List, [], ◌∷◌, length, map}
use Rattle.cnf_core.specs.Literals.{lit_true}
use Rattle.cnf_core.specs.declared.clauses.Cnf.{Cnf}
use Rattle.bit_words.specs.Builds.{Values, Built, differ, majority}

abbrev pub bit_int : Bool → ℤ
bit_int true = pos 1
bit_int false = pos 0

-- the number of these bits: each counts double of the one before it, and the last one negatively
abbrev pub int_of : List Bool → ℤ
int_of [] = pos 0
int_of (x ∷ []) = neg_ℤ (bit_int x)
int_of (x ∷ y ∷ ys) = bit_int x +ℤ (int_of (y ∷ ys) +ℤ int_of (y ∷ ys))

-- a word's bits at these values
abbrev pub bits : Values → List ℤ → List Bool
bits v word = map (lit_true v) word

-- a word's number at these values
abbrev pub word_value : Values → List ℤ → ℤ
word_value v word = int_of (bits v word)

-- a word was made, of at least one bit, whose number is this function of the earlier bits
pub record IsWord (old new : Cnf) (most : ℕ) (word : List ℤ) (f : Values → ℤ) : Type 0 where
  pub some : 0 < length word
  pub built : Built old new most word (λ v. word_value v word ≡ f v)

-- the number can be written in so many bits
abbrev pub FitsIn : ℕ → ℤ → Type 0
FitsIn zero z = z ≡ pos 0
FitsIn (suc k) z = (neg_ℤ (pos (2 ^ k)) ≤ℤ z) × (z <ℤ pos (2 ^ k))

-- k more copies of the last item
abbrev pub padded : {X : Type 0} → ℕ → List X → List X
padded k [] = []
padded k (x ∷ []) = x ∷ replicate k x
padded k (x ∷ y ∷ ys) = x ∷ padded k (y ∷ ys)

-- the bits of the sum of two words of one width, from a carry on, without the last carry
abbrev pub sum_bits : Bool → List Bool → List Bool → List Bool
sum_bits c (x ∷ xs) (y ∷ ys) = differ (differ x y) c ∷ sum_bits (if differ x y then c else x) xs ys
sum_bits c _ _ = []

-- these bits of a sum were made
pub record IsSum (old new : Cnf) (a b : List ℤ) (carry : ℤ) (word : List ℤ) : Type 0 where
  pub width : length word ≡ length a
  pub built : Built old new (3 * length a) word (λ v. bits v word ≡ sum_bits (lit_true v carry) (bits v a) (bits v b))

-- all bits agree, and c
abbrev pub equal_bits : Bool → List Bool → List Bool → Bool
equal_bits c (x ∷ xs) (y ∷ ys) = equal_bits (c && not (differ x y)) xs ys
equal_bits c _ _ = c

-- The first of two words of one width is less than the second, or they are equal and c: the higher bits decide over the lower
-- ones, and the last bit counts negatively.
abbrev pub less_bits : Bool → List Bool → List Bool → Bool
less_bits c (x ∷ []) (y ∷ []) = majority x (not y) c
less_bits c (x ∷ x' ∷ xs) (y ∷ y' ∷ ys) = less_bits (majority (not x) y c) (x' ∷ xs) (y' ∷ ys)
less_bits c _ _ = c

abbrev pub zip_bits : (Bool → Bool → Bool) → List Bool → List Bool → List Bool
zip_bits f (x ∷ xs) (y ∷ ys) = f x y ∷ zip_bits f xs ys
zip_bits f _ _ = []
