-- The lowest 32 bits.
use Rattle.std.proofs.Common.{ℕ, ℤ, Bool, ◌&&◌, ◌||◌, ◌≡◌, ◌∙◌, sym, ap, subst, arith, ◌<◌, ◌≤◌, ◌+◌, ◌-◌, ◌^◌, max, bit_and, bit_or, bit_xor, List, length, take, drop, All, Some}
use Rattle.std.proofs.lemmas.List.{length-map, length-take}
use Rattle.cnf_core.specs.Literals.{Names, lit_true}
use Rattle.cnf_core.specs.declared.clauses.Cnf.{Cnf}
use Rattle.js_values.specs.Numbers.{to_uint32, signed, bitwise}
use Rattle.js_values.specs.Integers.{bits_and, bits_or, bits_xor}
use Rattle.bit_words.specs.Builds.{Values, Built, differ}
use Rattle.bit_words.specs.Words.{IsWord, bits, word_value, int_of, padded, zip_bits}
use Rattle.bit_words.proofs.Composed.{built_as}
use Rattle.bit_words.proofs.Lists.{bits-take, padded_names, take_names, extended_value}
use Rattle.bit_words.proofs.Numbers.{length-padded}
use Rattle.int_encoder.specs.Bits.{low_bits, nat_of}
use Rattle.int_encoder.proofs.Naturals.{nat_below, split_word, uint_is, signed_word, zipped_and, zipped_or, zipped_xor}

pub low_names : (n : ℕ) (a : List ℤ) → All (Names n) a → All (Names n) (low_bits a)
low_names n a h = take_names n 32 (padded (max (length a) 33 - length a) a) (padded_names n (max (length a) 33 - length a) a h)

pub low_length : (a : List ℤ) → 0 < length a → length (low_bits a) ≡ 32
low_length a h =
    let k : ℕ = max (length a) 33 - length a in
    length-take 32 (padded k a) ∙ (omega (arith, length-padded k a h))

-- they are the number's lowest 32 bits
pub low_value : (v : Values) (a : List ℤ) → 0 < length a → to_uint32 (Some (word_value v a)) ≡ nat_of (bits v (low_bits a))
low_value v a h =
    let k : ℕ = max (length a) 33 - length a in
    let xs = bits v (padded k a) in
    let n = nat_of (take 32 xs) in
    let lx : length xs ≡ length (padded k a) = length-map (padded k a) (lit_true v) in
    let lp : length (padded k a) ≡ length a + k = length-padded k a h in
    let lt : length (take 32 xs) ≡ 32 = length-take 32 xs ∙ (omega (arith, lx, lp)) in
    let b : n < 4294967296 = (let P : ℕ → Type 0 = λ m. n < 2 ^ m in subst P lt (nat_below (take 32 xs))) in
    uint_is (word_value v a) n (int_of (drop 32 xs)) b (sym (extended_value v k a) ∙ split_word 32 xs (omega (arith, lx, lp)))
    ∙ ap nat_of (sym (bits-take v 32 (padded k a)))

same_length : (v : Values) (a b : List ℤ) → 0 < length a → 0 < length b → length (bits v (low_bits a)) ≡ length (bits v (low_bits b))
same_length v a b ha hb = length-map (low_bits a) (lit_true v) ∙ low_length a ha ∙ sym (length-map (low_bits b) (lit_true v) ∙ low_length b hb)

module _ (f : Bool → Bool → Bool) (g : ℕ → ℕ → ℕ) (zipped : (xs ys : List Bool) → length xs ≡ length ys → nat_of (zip_bits f xs ys) ≡ g (nat_of xs) (nat_of ys)) where
  joined_value : (v : Values) (a b word : List ℤ) → 0 < length a → 0 < length b → length word ≡ 32 → bits v word ≡ zip_bits f (bits v (low_bits a)) (bits v (low_bits b))
      → word_value v word ≡ bitwise g (Some (word_value v a)) (Some (word_value v b))
  joined_value v a b word ha hb l e =
      signed_word (bits v word) (length-map word (lit_true v) ∙ l)
      ∙ ap signed (ap nat_of e ∙ zipped (bits v (low_bits a)) (bits v (low_bits b)) (same_length v a b ha hb)
      ∙ sym (ap (λ n. g n (to_uint32 (Some (word_value v b)))) (low_value v a ha) ∙ ap (g (nat_of (bits v (low_bits a)))) (low_value v b hb)))

  joined_word : (s0 s1 : Cnf) (a b word : List ℤ) → 0 < length a → 0 < length b → length word ≡ 32
      → Built s0 s1 32 word (λ v. bits v word ≡ zip_bits f (bits v (low_bits a)) (bits v (low_bits b)))
      → IsWord s0 s1 32 word (λ v. bitwise g (Some (word_value v a)) (Some (word_value v b)))
  joined_word s0 s1 a b word ha hb l h = record {
    some = omega (arith, l);
    built = built_as h (omega arith) h.names (λ v p. joined_value v a b word ha hb l p);
  }

pub and_word : (s0 s1 : Cnf) (a b word : List ℤ) → 0 < length a → 0 < length b → length word ≡ 32
    → Built s0 s1 32 word (λ v. bits v word ≡ zip_bits (λ x y. x && y) (bits v (low_bits a)) (bits v (low_bits b)))
    → IsWord s0 s1 32 word (λ v. bits_and (word_value v a) (word_value v b))
and_word s0 s1 a b word ha hb l h = joined_word (λ x y. x && y) bit_and zipped_and s0 s1 a b word ha hb l h

pub or_word : (s0 s1 : Cnf) (a b word : List ℤ) → 0 < length a → 0 < length b → length word ≡ 32
    → Built s0 s1 32 word (λ v. bits v word ≡ zip_bits (λ x y. x || y) (bits v (low_bits a)) (bits v (low_bits b)))
    → IsWord s0 s1 32 word (λ v. bits_or (word_value v a) (word_value v b))
or_word s0 s1 a b word ha hb l h = joined_word (λ x y. x || y) bit_or zipped_or s0 s1 a b word ha hb l h

pub xor_word : (s0 s1 : Cnf) (a b word : List ℤ) → 0 < length a → 0 < length b → length word ≡ 32
    → Built s0 s1 32 word (λ v. bits v word ≡ zip_bits differ (bits v (low_bits a)) (bits v (low_bits b)))
    → IsWord s0 s1 32 word (λ v. bits_xor (word_value v a) (word_value v b))
xor_word s0 s1 a b word ha hb l h = joined_word differ bit_xor zipped_xor s0 s1 a b word ha hb l h

pub joined_lowest : (s0 s1 : Cnf) (m : ℕ) (f : Values → Bool → Bool → Bool) (a b left right word : List ℤ) → left ≡ low_bits a → right ≡ low_bits b → m ≤ 32
    → Built s0 s1 m word (λ v. bits v word ≡ zip_bits (f v) (bits v left) (bits v right))
    → Built s0 s1 32 word (λ v. bits v word ≡ zip_bits (f v) (bits v (low_bits a)) (bits v (low_bits b)))
joined_lowest s0 s1 m f a b left right word ea eb le h =
    built_as h le h.names (λ v p. p ∙ ap (λ l. zip_bits (f v) (bits v l) (bits v right)) ea ∙ ap (λ l. zip_bits (f v) (bits v (low_bits a)) (bits v l)) eb)
