-- The numbers of lists of bits.
use Rattle.std.proofs.Common.{ℕ, suc, zero, ℤ, pos, negsuc, ◌+ℤ◌, ◌-ℤ◌, neg_ℤ, ◌≤ℤ◌, ◌<ℤ◌, Bool, true, false, not, ◌≡◌, ◌+◌, ◌*◌, ◌^◌, ◌<◌, ◌≤◌, ◌∙◌, List, [], ◌∷◌, length, map, take, replicate, refl, ap, arith}
use Rattle.std.proofs.Math.Nat.{pow-succ'}
use Rattle.std.proofs.lemmas.Int.{ints}
use Rattle.std.proofs.lemmas.List.{length-replicate}
use Rattle.bit_words.specs.Words.{bit_int, int_of, padded, FitsIn}

pub int_of-more : (x : Bool) (ys : List Bool) → 0 < length ys → int_of (x ∷ ys) ≡ bit_int x +ℤ (int_of ys +ℤ int_of ys)
int_of-more x [] h = absurd (omega arith)
int_of-more x (y ∷ ys) h = refl

-- an all-equal word
int_of-same : (k : ℕ) (x : Bool) → int_of (x ∷ replicate k x) ≡ neg_ℤ (bit_int x)
int_of-same zero x = refl
int_of-same (suc k) true = rw (int_of-same k true) refl
int_of-same (suc k) false = rw (int_of-same k false) refl

pub length-padded : {X : Type 0} (k : ℕ) (xs : List X) → 0 < length xs → length (padded k xs) ≡ length xs + k
length-padded k [] h = absurd (omega arith)
length-padded k (x ∷ []) h = omega (arith, length-replicate k x)
length-padded k (x ∷ y ∷ ys) h = omega (arith, length-padded k (y ∷ ys) (omega arith))

pub int_of-padded : (k : ℕ) (xs : List Bool) → int_of (padded k xs) ≡ int_of xs
int_of-padded k [] = refl
int_of-padded k (x ∷ []) = int_of-same k x
int_of-padded k (x ∷ y ∷ ys) =
    int_of-more x (padded k (y ∷ ys)) (omega (arith, length-padded k (y ∷ ys) (omega arith)))
    ∙ (rw (int_of-padded k (y ∷ ys)) refl)

fits_step : (x : Bool) (z : ℤ) (p q : ℕ) → q ≡ 2 * p → (neg_ℤ (pos p) ≤ℤ z) × (z <ℤ pos p)
    → (neg_ℤ (pos q) ≤ℤ (bit_int x +ℤ (z +ℤ z))) × ((bit_int x +ℤ (z +ℤ z)) <ℤ pos q)
fits_step true z p q e h = (omega (arith, ints, e, h), omega (arith, ints, e, h))
fits_step false z p q e h = (omega (arith, ints, e, h), omega (arith, ints, e, h))

-- the number of so many bits lies in so many
pub int_of-fits : (xs : List Bool) → FitsIn (length xs) (int_of xs)
int_of-fits [] = refl
int_of-fits (true ∷ []) = (omega (arith, ints), omega (arith, ints))
int_of-fits (false ∷ []) = (omega (arith, ints), omega (arith, ints))
int_of-fits (x ∷ y ∷ ys) = fits_step x (int_of (y ∷ ys)) (2 ^ length ys) (2 ^ (suc (length ys))) (pow-succ' 2 (length ys)) (int_of-fits (y ∷ ys))

fits_half : (x : Bool) (z : ℤ) (p q : ℕ) → q ≡ 2 * p → (neg_ℤ (pos q) ≤ℤ (bit_int x +ℤ (z +ℤ z))) × ((bit_int x +ℤ (z +ℤ z)) <ℤ pos q)
    → (neg_ℤ (pos p) ≤ℤ z) × (z <ℤ pos p)
fits_half true z p q e h = (omega (arith, ints, e, h), omega (arith, ints, e, h))
fits_half false z p q e h = (omega (arith, ints, e, h), omega (arith, ints, e, h))

-- a number of one bit
one_bit : (x : Bool) (z : ℤ) → FitsIn 1 (bit_int x +ℤ (z +ℤ z)) → neg_ℤ (bit_int x) ≡ bit_int x +ℤ (z +ℤ z)
one_bit true z h = omega (arith, ints, h)
one_bit false z h = omega (arith, ints, h)

-- what lies in its first bits is their number
pub int_of-take : (k : ℕ) (xs : List Bool) → suc k ≤ length xs → FitsIn (suc k) (int_of xs) → int_of (take (suc k) xs) ≡ int_of xs
int_of-take k [] h f = absurd (omega (arith, h))
int_of-take zero (x ∷ []) h f = refl
int_of-take zero (x ∷ y ∷ ys) h f = one_bit x (int_of (y ∷ ys)) f
int_of-take (suc k) (x ∷ []) h f = absurd (omega (arith, h))
int_of-take (suc k) (x ∷ y ∷ ys) h f =
    ap (λ z. bit_int x +ℤ (z +ℤ z)) (int_of-take k (y ∷ ys) (omega (arith, h)) (fits_half x (int_of (y ∷ ys)) (2 ^ k) (2 ^ (suc k)) (pow-succ' 2 k) f))

opposite_step : (x : Bool) (p q : ℤ) → p ≡ negsuc 0 -ℤ q → bit_int (not x) +ℤ (p +ℤ p) ≡ negsuc 0 -ℤ (bit_int x +ℤ (q +ℤ q))
opposite_step true p q e = omega (arith, ints, e)
opposite_step false p q e = omega (arith, ints, e)

-- the opposite of each bit: -1 less the number
pub int_of-not : (xs : List Bool) → 0 < length xs → int_of (map not xs) ≡ negsuc 0 -ℤ int_of xs
int_of-not [] h = absurd (omega arith)
int_of-not (true ∷ []) h = refl
int_of-not (false ∷ []) h = refl
int_of-not (x ∷ y ∷ ys) h = opposite_step x (int_of (map not (y ∷ ys))) (int_of (y ∷ ys)) (int_of-not (y ∷ ys) (omega arith))
