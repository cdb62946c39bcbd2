-- Safe integers.
use Rattle.std.proofs.Common.{ℕ, zero, suc, ℤ, pos, neg_ℤ, ◌-ℤ◌, ◌≤ℤ◌, Bool, true, false, ◌&&◌, if◌then◌else◌, ◌≡◌, ◌∙◌, sym, ap, refl, subst, arith, ◌<◌, ◌≤◌, ◌^◌, int_le, List, ◌∷◌, []}
use Rattle.std.specs.Ordering.{int_eq}
use Rattle.std.specs.Bool.{Decides}
use Rattle.std.proofs.lemmas.Bool.Decides.{Decides-int_eq, same_from_decides}
use Rattle.std.proofs.lemmas.Int.{ints}
use Rattle.int_encoder.proofs.Orders.{le_decides, and_left, and_right}
use Rattle.std.proofs.Math.Pow.{pow_mono}
use Rattle.cnf_core.specs.Literals.{lit_true}
use Rattle.js_values.specs.Numbers.{is_safe}
use Rattle.js_values.specs.Integers.{safe}
use Rattle.bit_words.specs.Builds.{Values}
use Rattle.bit_words.specs.Words.{FitsIn, word_value, bit_int, padded}
use Rattle.bit_words.proofs.Rows.{none_word, no_borrow}

abbrev Safe : ℤ → Type 0
Safe z = (neg_ℤ (pos 9007199254740991) ≤ℤ z) × (z ≤ℤ pos 9007199254740991)

safe_is : (z : ℤ) → Decides (is_safe z) (Safe z)
safe_is z = (
  (λ h. ((le_decides (neg_ℤ (pos 9007199254740991)) z).0 (and_left _ _ h), (le_decides z (pos 9007199254740991)).0 (and_right (int_le (neg_ℤ (pos 9007199254740991)) z) _ h))),
  (λ p. rw ((le_decides (neg_ℤ (pos 9007199254740991)) z).1 p.0, (le_decides z (pos 9007199254740991)).1 p.1) refl),
)

same_true : (p q : ℤ) → q ≡ p → int_eq p q ≡ true
same_true p q e = (Decides-int_eq p q).1 (sym e)

fits_of : (z : ℤ) → Safe z → FitsIn 54 z
fits_of z s = (omega (arith, ints, s), omega (arith, ints, s))

opposite_fits : (z : ℤ) → Safe z → FitsIn 54 (pos 0 -ℤ z)
opposite_fits z s = (omega (arith, ints, s), omega (arith, ints, s))

safe_of : (z : ℤ) → FitsIn 54 z → FitsIn 54 (pos 0 -ℤ z) → Safe z
safe_of z f g = (omega (arith, ints, f, g), omega (arith, ints, f, g))

both_fit : (z l m : ℤ) → (FitsIn 54 z → l ≡ z) → FitsIn 54 l → (FitsIn 54 (pos 0 -ℤ z) → m ≡ pos 0 -ℤ z) → FitsIn 54 m
    → (int_eq z l && int_eq (pos 0 -ℤ z) m) ≡ is_safe z
both_fit z l m hl fl hm fm =
    let P : ℤ → Type 0 = λ u. FitsIn 54 u in
    same_from_decides (int_eq z l && int_eq (pos 0 -ℤ z) m) (is_safe z) (
      (λ h. safe_of z (subst P (sym ((Decides-int_eq z l).0 (and_left _ _ h))) fl) (subst P (sym ((Decides-int_eq (pos 0 -ℤ z) m).0 (and_right (int_eq z l) _ h))) fm)),
      (λ s. rw (same_true z l (hl (fits_of z s)), same_true (pos 0 -ℤ z) m (hm (opposite_fits z s))) refl),
    )
    (safe_is z)

narrow_safe : (k : ℕ) (z : ℤ) → 2 ^ k ≤ 4503599627370496 → FitsIn (suc k) z → Safe z
narrow_safe k z h f = (omega (arith, ints, h, f), omega (arith, ints, h, f))

-- a number of fewer than 54 bits
pub small_safe : (w : ℕ) (z : ℤ) → w < 54 → FitsIn w z → is_safe z ≡ true
small_safe zero z h f = ap is_safe f
small_safe (suc k) z h f = (safe_is z).1 (narrow_safe k z (let e : 2 ^ k ≤ 2 ^ 52 = pow_mono {i = k} {j = 52} (omega (arith, h)) in e) f)

pub fits_word : (v : Values) (a low zero_word negative low_negative : List ℤ) (same same_negative both never : ℤ)
    → zero_word ≡ padded 0 (never ∷ []) → lit_true v never ≡ false
    → lit_true v same ≡ int_eq (word_value v a) (word_value v low)
    → word_value v negative ≡ (word_value v zero_word -ℤ word_value v a) -ℤ bit_int (lit_true v never)
    → lit_true v same_negative ≡ int_eq (word_value v negative) (word_value v low_negative)
    → lit_true v both ≡ (lit_true v same && lit_true v same_negative)
    → (FitsIn 54 (word_value v a) → word_value v low ≡ word_value v a) → FitsIn 54 (word_value v low)
    → (FitsIn 54 (word_value v negative) → word_value v low_negative ≡ word_value v negative) → FitsIn 54 (word_value v low_negative)
    → lit_true v both ≡ is_safe (word_value v a)
fits_word v a low zero_word negative low_negative same same_negative both never ez n p q r t hl fl hm fm =
    let e : word_value v negative ≡ pos 0 -ℤ word_value v a =
    q ∙ ap (λ z. (z -ℤ word_value v a) -ℤ bit_int (lit_true v never)) (none_word v 0 zero_word never ez n)
    ∙ ap (λ b. (pos 0 -ℤ word_value v a) -ℤ bit_int b) n ∙ no_borrow (pos 0 -ℤ word_value v a) in
    t ∙ ap (λ b. b && lit_true v same_negative) p ∙ ap (λ b. int_eq (word_value v a) (word_value v low) && b) (r ∙ ap (λ z. int_eq z (word_value v low_negative)) e)
    ∙ both_fit (word_value v a) (word_value v low) (word_value v low_negative) hl fl
    (let P : ℤ → Type 0 = λ z. FitsIn 54 z → word_value v low_negative ≡ z in subst P e hm) fm

choose_same : (b : Bool) (p q r : ℤ) → (b ≡ true → p ≡ q) → (if b then p else r) ≡ (if b then q else r)
choose_same true p q r h = h refl
choose_same false p q r h = refl

pub safe_word : (v : Values) (a low zero_word word : List ℤ) (fits never : ℤ)
    → zero_word ≡ padded 0 (never ∷ []) → lit_true v never ≡ false
    → (FitsIn 54 (word_value v a) → word_value v low ≡ word_value v a)
    → lit_true v fits ≡ is_safe (word_value v a) → word_value v word ≡ (if lit_true v fits then word_value v low else word_value v zero_word)
    → word_value v word ≡ safe (word_value v a)
safe_word v a low zero_word word fits never ez en hl p q =
    q ∙ ap (λ z. if lit_true v fits then word_value v low else z) (none_word v 0 zero_word never ez en)
    ∙ ap (λ b. if b then word_value v low else pos 0) p
    ∙ choose_same (is_safe (word_value v a)) (word_value v low) (word_value v a) (pos 0)
    (λ s. hl (fits_of (word_value v a) ((safe_is (word_value v a)).0 s)))

-- a number of fewer than 54 bits is its own safe part
pub small_word : (w : ℕ) (z y : ℤ) → w < 54 → FitsIn w z → y ≡ z → y ≡ safe z
small_word w z y h f e = e ∙ sym (ap (λ b. if b then z else pos 0) (small_safe w z h f))
