-- Lists of bits as numbers that aren't negative.
use Rattle.std.proofs.Common.{ℕ, zero, suc, ℤ, pos, negsuc, neg_ℤ, ◌+ℤ◌, ◌-ℤ◌, ◌*ℤ◌, Bool, true, false, ◌&&◌, ◌||◌, ◌≡◌, ◌∙◌, sym, ap, refl, arith, ◌<◌, ◌≤◌, ◌+◌, ◌*◌, ◌/◌, ◌%◌, ◌^◌, min, max, bit_and, bit_or, bit_xor, List, [], ◌∷◌, length, take, drop, Some}
use Rattle.std.specs.Int.{bit_at}
use Rattle.std.proofs.lemmas.Nat.Bits.{bit_at-zero, bit_at-suc, bit_at_lowest, bit_at_and, bit_at_or, bit_at_xor, same_from_bits}
use Rattle.std.proofs.Math.Nat.{pow-succ'}
use Rattle.std.proofs.Math.IntN.{*ℤ_comm, *ℤ-zero, pos-*ℤ-pos, pos-*ℤ-negsuc}
use Rattle.bit_words.proofs.Rows.{dist, one_more}
use Rattle.std.proofs.lemmas.Int.{ints}
use Rattle.js_values.specs.Numbers.{to_uint32, signed}
use Rattle.bit_words.specs.Builds.{differ}
use Rattle.bit_words.specs.Words.{bit_int, int_of, zip_bits}
use Rattle.int_encoder.specs.Bits.{nat_bit, nat_of}

odd_rest : (x : Bool) (n : ℕ) → (nat_bit x + 2 * n) % 2 ≡ nat_bit x
odd_rest true n = omega arith
odd_rest false n = omega arith

half : (x : Bool) (n : ℕ) → (nat_bit x + 2 * n) / 2 ≡ n
half true n = omega arith
half false n = omega arith

first_bit : (x : Bool) (xs : List Bool) → bit_at (nat_of (x ∷ xs)) 0 ≡ nat_bit x
first_bit x xs = bit_at_lowest (nat_of (x ∷ xs)) ∙ odd_rest x (nat_of xs)

next_bit : (x : Bool) (xs : List Bool) (i : ℕ) → bit_at (nat_of (x ∷ xs)) (suc i) ≡ bit_at (nat_of xs) i
next_bit x xs i = bit_at-suc (nat_of (x ∷ xs)) i ∙ ap (λ n. bit_at n i) (half x (nat_of xs))

module _ (f : Bool → Bool → Bool) (g : ℕ → ℕ → ℕ) (start : g 0 0 ≡ 0) (table : (x y : Bool) → g (nat_bit x) (nat_bit y) ≡ nat_bit (f x y)) where
  -- a gate for each pair of bits
  pub zipped_bits : (xs ys : List Bool) (i : ℕ) → length xs ≡ length ys → bit_at (nat_of (zip_bits f xs ys)) i ≡ g (bit_at (nat_of xs) i) (bit_at (nat_of ys) i)
  zipped_bits [] [] i e = bit_at-zero i ∙ sym (ap (λ n. g n (bit_at 0 i)) (bit_at-zero i) ∙ ap (g 0) (bit_at-zero i) ∙ start)
  zipped_bits [] (y ∷ ys) i e = absurd (omega (arith, e))
  zipped_bits (x ∷ xs) [] i e = absurd (omega (arith, e))
  zipped_bits (x ∷ xs) (y ∷ ys) zero e =
      first_bit (f x y) (zip_bits f xs ys) ∙ sym (ap (λ n. g n (bit_at (nat_of (y ∷ ys)) 0)) (first_bit x xs) ∙ ap (g (nat_bit x)) (first_bit y ys) ∙ table x y)
  zipped_bits (x ∷ xs) (y ∷ ys) (suc i) e =
      next_bit (f x y) (zip_bits f xs ys) i ∙ zipped_bits xs ys i (omega (arith, e))
      ∙ sym (ap (λ n. g n (bit_at (nat_of (y ∷ ys)) (suc i))) (next_bit x xs i) ∙ ap (g (bit_at (nat_of xs) i)) (next_bit y ys i))

and_table : (x y : Bool) → min (nat_bit x) (nat_bit y) ≡ nat_bit (x && y)
and_table true true = refl
and_table true false = refl
and_table false true = refl
and_table false false = refl

or_table : (x y : Bool) → max (nat_bit x) (nat_bit y) ≡ nat_bit (x || y)
or_table true true = refl
or_table true false = refl
or_table false true = refl
or_table false false = refl

xor_table : (x y : Bool) → (nat_bit x + nat_bit y) % 2 ≡ nat_bit (differ x y)
xor_table true true = refl
xor_table true false = refl
xor_table false true = refl
xor_table false false = refl

pub zipped_and : (xs ys : List Bool) → length xs ≡ length ys → nat_of (zip_bits (λ x y. x && y) xs ys) ≡ bit_and (nat_of xs) (nat_of ys)
zipped_and xs ys e = same_from_bits _ _ (λ i. zipped_bits (λ x y. x && y) min refl and_table xs ys i e ∙ sym (bit_at_and (nat_of xs) (nat_of ys) i))

pub zipped_or : (xs ys : List Bool) → length xs ≡ length ys → nat_of (zip_bits (λ x y. x || y) xs ys) ≡ bit_or (nat_of xs) (nat_of ys)
zipped_or xs ys e = same_from_bits _ _ (λ i. zipped_bits (λ x y. x || y) max refl or_table xs ys i e ∙ sym (bit_at_or (nat_of xs) (nat_of ys) i))

pub zipped_xor : (xs ys : List Bool) → length xs ≡ length ys → nat_of (zip_bits differ xs ys) ≡ bit_xor (nat_of xs) (nat_of ys)
zipped_xor xs ys e = same_from_bits _ _ (λ i. zipped_bits differ (λ x y. (x + y) % 2) refl xor_table xs ys i e ∙ sym (bit_at_xor (nat_of xs) (nat_of ys) i))

-- ---- words

below_step : (x : Bool) (n p q : ℕ) → q ≡ 2 * p → n < p → nat_bit x + 2 * n < q
below_step true n p q e h = omega (arith, e, h)
below_step false n p q e h = omega (arith, e, h)

pub nat_below : (xs : List Bool) → nat_of xs < 2 ^ length xs
nat_below [] = omega arith
nat_below (x ∷ xs) = below_step x (nat_of xs) (2 ^ length xs) (2 ^ suc (length xs)) (pow-succ' 2 (length xs)) (nat_below xs)

-- the number of a word: its bits, less twice the worth of the sign
abbrev WordIs : ℕ → ℤ → ℕ → Bool → Type 0
WordIs n z half true = (z ≡ pos n -ℤ pos (2 * half)) × (half ≤ n)
WordIs n z half false = (z ≡ pos n) × (n < half)

word_step : (x s : Bool) (n : ℕ) (z : ℤ) (p q : ℕ) → q ≡ 2 * p → WordIs n z p s → WordIs (nat_bit x + 2 * n) (bit_int x +ℤ (z +ℤ z)) q s
word_step true true n z p q e h = (omega (arith, ints, e, h), omega (arith, e, h))
word_step true false n z p q e h = (omega (arith, ints, e, h), omega (arith, e, h))
word_step false true n z p q e h = (omega (arith, ints, e, h), omega (arith, e, h))
word_step false false n z p q e h = (omega (arith, ints, e, h), omega (arith, e, h))

abbrev last_bit : List Bool → Bool
last_bit [] = false
last_bit (x ∷ []) = x
last_bit (x ∷ y ∷ ys) = last_bit (y ∷ ys)

word_one : (x : Bool) → WordIs (nat_bit x + 0) (neg_ℤ (bit_int x)) 1 x
word_one true = (omega (arith, ints), omega arith)
word_one false = (omega (arith, ints), omega arith)

word_is : (k : ℕ) (xs : List Bool) → length xs ≡ suc k → WordIs (nat_of xs) (int_of xs) (2 ^ k) (last_bit xs)
word_is k [] e = absurd (omega (arith, e))
word_is zero (x ∷ []) e = word_one x
word_is (suc k) (x ∷ []) e = absurd (omega (arith, e))
word_is zero (x ∷ y ∷ ys) e = absurd (omega (arith, e))
word_is (suc k) (x ∷ y ∷ ys) e = word_step x (last_bit (y ∷ ys)) (nat_of (y ∷ ys)) (int_of (y ∷ ys)) (2 ^ k) (2 ^ suc k) (pow-succ' 2 k) (word_is k (y ∷ ys) (omega (arith, e)))

signed_is : (s : Bool) (n : ℕ) (z : ℤ) → WordIs n z 2147483648 s → z ≡ signed n
signed_is true n z h = grind (arith, ints, h)
signed_is false n z h = grind (arith, ints, h)

-- 32 bits as a signed number
pub signed_word : (xs : List Bool) → length xs ≡ 32 → int_of xs ≡ signed (nat_of xs)
signed_word xs e = signed_is (last_bit xs) (nat_of xs) (int_of xs) (word_is 31 xs e)

-- ---- 32 bits of a longer word

twice : (p q : ℕ) (h : ℤ) → q ≡ 2 * p → pos q *ℤ h ≡ (pos p *ℤ h) +ℤ (pos p *ℤ h)
twice p q h e = ap (λ n. pos n *ℤ h) (e ∙ (let d : 2 * p ≡ p + p = omega arith in d)) ∙ ap (λ z. z *ℤ h) (let d : pos (p + p) ≡ pos p +ℤ pos p = omega (arith, ints) in d) ∙ dist (pos p) (pos p) h

split_step : (x : Bool) (n p q : ℕ) (z h : ℤ) → q ≡ 2 * p → z ≡ pos n +ℤ (pos p *ℤ h) → bit_int x +ℤ (z +ℤ z) ≡ pos (nat_bit x + 2 * n) +ℤ (pos q *ℤ h)
split_step true n p q z h e f = omega (arith, ints, f, twice p q h e)
split_step false n p q z h e f = omega (arith, ints, f, twice p q h e)

one_times : (h : ℤ) → h ≡ pos 0 +ℤ (pos 1 *ℤ h)
one_times h = omega (arith, ints, *ℤ_comm (pos 1) h, one_more h 0, *ℤ-zero h)

-- a word by its first k bits and the others
pub split_word : (k : ℕ) (xs : List Bool) → k < length xs → int_of xs ≡ pos (nat_of (take k xs)) +ℤ (pos (2 ^ k) *ℤ int_of (drop k xs))
split_word zero xs h = one_times (int_of xs)
split_word (suc k) [] h = absurd (omega (arith, h))
split_word (suc k) (x ∷ []) h = absurd (omega (arith, h))
split_word (suc k) (x ∷ y ∷ ys) h =
    split_step x (nat_of (take k (y ∷ ys))) (2 ^ k) (2 ^ suc k) (int_of (y ∷ ys)) (int_of (drop k (y ∷ ys))) (pow-succ' 2 k) (split_word k (y ∷ ys) (omega (arith, h)))

pub pos_same : (m n : ℕ) → pos m ≡ pos n → m ≡ n
pos_same m n e = omega (arith, ints, e)

pub uint_is : (z : ℤ) (n : ℕ) (h : ℤ) → n < 4294967296 → z ≡ pos n +ℤ (pos 4294967296 *ℤ h) → to_uint32 (Some z) ≡ n
uint_is (pos m) n (pos h) s e = omega (arith, s, pos_same m (n + 4294967296 * h) (e ∙ ap (λ y. pos n +ℤ y) (pos-*ℤ-pos 4294967296 h)))
uint_is (pos m) n (negsuc h) s e = absurd (omega (arith, ints, s, e ∙ ap (λ y. pos n +ℤ y) (pos-*ℤ-negsuc 4294967296 h)))
uint_is (negsuc m) n (pos h) s e = absurd (omega (arith, ints, s, e ∙ ap (λ y. pos n +ℤ y) (pos-*ℤ-pos 4294967296 h)))
uint_is (negsuc m) n (negsuc h) s e = omega (arith, ints, s, e ∙ ap (λ y. pos n +ℤ y) (pos-*ℤ-negsuc 4294967296 h))
