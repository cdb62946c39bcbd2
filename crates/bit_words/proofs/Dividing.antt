-- Long division of words.
use Rattle.std.proofs.Common.{ℕ, zero, suc, ℤ, pos, negsuc, ◌+ℤ◌, ◌-ℤ◌, ◌*ℤ◌, neg_ℤ, ◌≤ℤ◌, ◌<ℤ◌, Bool, true, false, not, if◌then◌else◌, ◌≡◌, ◌∙◌, sym, ap, refl, subst, arith, List, [], ◌∷◌, ◌++◌, length, take, get_or, ◌<◌, ◌≤◌, ◌+◌, ◌-◌, ◌*◌, ◌/◌, ◌%◌, All, unsigned_abs, int_div, int_rem}
use Rattle.std.specs.Ordering.{int_eq}
use Rattle.std.proofs.lemmas.Int.{ints}
use Rattle.std.proofs.lemmas.List.{length-append, map-append, length-map}
use Rattle.std.proofs.Math.IntN.{zero-*ℤ, pos-*ℤ-pos}
use Rattle.std.proofs.lemmas.List.Elements.{All-append}
use Rattle.js_values.specs.Numbers.{is_zero, same}
use Rattle.js_values.specs.Integers.{quotient, rest}
use Rattle.cnf_core.specs.Literals.{Names, lit_true}
use Rattle.cnf_core.specs.declared.clauses.Cnf.{Cnf}
use Rattle.bit_words.specs.Builds.{Values, Built, differ}
use Rattle.bit_words.specs.Words.{FitsIn, bit_int, int_of, bits, word_value, padded}
use Rattle.bit_words.specs.LongDivision.{IsStep, IsStepOf, IsQuotient, AreDivided, above}
use Rattle.bit_words.proofs.Numbers.{int_of-more}
use Rattle.bit_words.proofs.Lists.{bits-take}
use Rattle.bit_words.proofs.Rows.{int_of-above, mul_step, none_word, no_borrow}
use Rattle.bit_words.proofs.Composed.{built_as, built_both, built_none, named_none, named_one}
use Rattle.bit_words.proofs.Opposites.{opposite_value}

abbrev pub SignOf : Bool → ℤ → Type 0
SignOf true z = z <ℤ pos 0
SignOf false z = pos 0 ≤ℤ z

sign_step : (s x : Bool) (z : ℤ) → SignOf s z → SignOf s (bit_int x +ℤ (z +ℤ z))
sign_step true true z h = omega (arith, ints, h)
sign_step true false z h = omega (arith, ints, h)
sign_step false true z h = omega (arith, ints, h)
sign_step false false z h = omega (arith, ints, h)

sign_last : (x : Bool) → SignOf x (neg_ℤ (bit_int x))
sign_last true = omega (arith, ints)
sign_last false = omega (arith, ints)

-- the last bit is the sign
pub sign_word : (v : Values) (w : List ℤ) (x : ℤ) → 0 < length w → x ≡ get_or w (length w - 1) x → SignOf (lit_true v x) (word_value v w)
sign_word v [] x h e = absurd (omega (arith, h))
sign_word v (y ∷ []) x h e = let P : ℤ → Type 0 = λ u. SignOf (lit_true v u) (word_value v (y ∷ [])) in subst P (sym e) (sign_last (lit_true v y))
sign_word v (y ∷ z ∷ zs) x h e =
    sign_step (lit_true v x) (lit_true v y) (word_value v (z ∷ zs))
    (sign_word v (z ∷ zs) x (omega arith) (e ∙ ap (λ n. get_or (y ∷ z ∷ zs) n x) (let f : suc (suc (length zs)) - 1 ≡ suc (length (z ∷ zs) - 1) = omega arith in f)))

low_step : (x : Bool) (z : ℤ) → pos 0 ≤ℤ (bit_int x +ℤ (z +ℤ z)) → pos 0 ≤ℤ z
low_step true z h = omega (arith, ints, h)
low_step false z h = omega (arith, ints, h)

low_last : (x : Bool) → pos 0 ≤ℤ neg_ℤ (bit_int x) → pos 0 ≡ neg_ℤ (bit_int x)
low_last true h = absurd (omega (arith, ints, h))
low_last false h = refl

-- the bits below the sign are those of a number that isn't negative
low_bits : (n : ℕ) (xs : List Bool) → length xs ≡ suc n → pos 0 ≤ℤ int_of xs → above (take n xs) (pos 0) ≡ int_of xs
low_bits n [] l h = absurd (omega (arith, l))
low_bits zero (x ∷ []) l h = low_last x h
low_bits (suc n) (x ∷ []) l h = absurd (omega (arith, l))
low_bits zero (x ∷ y ∷ ys) l h = absurd (omega (arith, l))
low_bits (suc n) (x ∷ y ∷ ys) l h = ap (λ z. bit_int x +ℤ (z +ℤ z)) (low_bits n (y ∷ ys) (omega (arith, l)) (low_step x (int_of (y ∷ ys)) h))

-- ---- signs

zero_minus : (z : ℤ) → pos 0 -ℤ z ≡ neg_ℤ z
zero_minus z = omega (arith, ints)

pub magnitude : (s : Bool) (z : ℤ) → SignOf s z → (if s then pos 0 -ℤ z else z) ≡ pos (unsigned_abs z)
magnitude true (pos n) h = absurd (omega (arith, ints, h))
magnitude true (negsuc n) h = zero_minus (negsuc n)
magnitude false (pos n) h = refl
magnitude false (negsuc n) h = absurd (omega (arith, ints, h))

signed_quotient : (x y : Bool) (a b : ℤ) → SignOf x a → SignOf y b
    → (if differ x y then pos 0 -ℤ pos (unsigned_abs a / unsigned_abs b) else pos (unsigned_abs a / unsigned_abs b)) ≡ int_div a b
signed_quotient true y (pos m) b h k = absurd (omega (arith, ints, h))
signed_quotient false y (negsuc m) b h k = absurd (omega (arith, ints, h))
signed_quotient x true a (pos n) h k = absurd (omega (arith, ints, k))
signed_quotient x false a (negsuc n) h k = absurd (omega (arith, ints, k))
signed_quotient false false (pos m) (pos n) h k = refl
signed_quotient false true (pos m) (negsuc n) h k = zero_minus (pos (m / suc n))
signed_quotient true false (negsuc m) (pos n) h k = zero_minus (pos (suc m / n))
signed_quotient true true (negsuc m) (negsuc n) h k = refl

signed_rest : (x : Bool) (a b : ℤ) → SignOf x a
    → (if x then pos 0 -ℤ pos (unsigned_abs a % unsigned_abs b) else pos (unsigned_abs a % unsigned_abs b)) ≡ int_rem a b
signed_rest true (pos m) b h = absurd (omega (arith, ints, h))
signed_rest false (negsuc m) b h = absurd (omega (arith, ints, h))
signed_rest false (pos m) b h = refl
signed_rest true (negsuc m) b h = zero_minus (pos (suc m % unsigned_abs b))

-- ---- steps

pub step_is : (l : Bool) (n d f k : ℤ) → f ≡ n -ℤ d → SignOf l f → k ≡ (if l then n else f) → IsStep n d (not l) k
step_is true n d f k e s g least small = record { is = omega (arith, ints, g); least = omega (arith, ints, g, least); small = omega (arith, ints, g, e, s) }
step_is false n d f k e s g least small = record { is = omega (arith, ints, g, e); least = omega (arith, ints, g, s); small = omega (arith, ints, g, e, small) }

fits_below : (w : ℕ) (d r : ℤ) → FitsIn w d → pos 0 ≤ℤ r → r <ℤ d → FitsIn w r
fits_below zero d r f l s = absurd (omega (arith, ints, f, l, s))
fits_below (suc k) d r f l s = (omega (arith, ints, l), omega (arith, ints, f, s))

-- what a step leaves lies in the divisor's bits
pub step_fits : (w : ℕ) (n d r : ℤ) (b : Bool) → FitsIn w d → IsStepOf n d b r → FitsIn w r
step_fits w n d r b f s = fits_below w d r f s.least s.small

pub quotient_none : (d : ℤ) → pos 0 <ℤ d → IsQuotient (pos 0) d (pos 0) (pos 0)
quotient_none d h = record { is = omega (arith, ints, zero-*ℤ d); positive = omega (arith, ints); least = omega (arith, ints); small = h }

next_least : (t : Bool) (r : ℤ) → pos 0 ≤ℤ r → pos 0 ≤ℤ (bit_int t +ℤ (r +ℤ r))
next_least true r h = omega (arith, ints, h)
next_least false r h = omega (arith, ints, h)

next_small : (t : Bool) (r d : ℤ) → r <ℤ d → (bit_int t +ℤ (r +ℤ r)) <ℤ (d +ℤ d)
next_small true r d h = omega (arith, ints, h)
next_small false r d h = omega (arith, ints, h)

quotient_step : (t b : Bool) (top d q r next left : ℤ) → IsQuotient top d q r → next ≡ bit_int t +ℤ (r +ℤ r) → IsStepOf next d b left
    → IsQuotient (bit_int t +ℤ (top +ℤ top)) d (bit_int b +ℤ (q +ℤ q)) left
quotient_step t b top d q r next left h e s = record {
  is = omega (arith, ints, h.is, e, s.is, mul_step b q d);
  positive = next_least b q h.positive;
  least = s.least;
  small = s.small;
}

pub quotient_next : (t b : Bool) (top d q r next left : ℤ) → IsQuotient top d q r → next ≡ bit_int t +ℤ (r +ℤ r) → IsStep next d b left
    → IsQuotient (bit_int t +ℤ (top +ℤ top)) d (bit_int b +ℤ (q +ℤ q)) left
quotient_next t b top d q r next left h e s =
    quotient_step t b top d q r next left h e (s (rw e (next_least t r h.least)) (rw e (next_small t r d h.small)))

natural : (z : ℤ) → pos 0 ≤ℤ z → z ≡ pos (unsigned_abs z)
natural (pos n) h = refl
natural (negsuc n) h = absurd (omega (arith, ints, h))

div_is : (a b q r : ℕ) → a ≡ q * b + r → r < b → a / b ≡ q
div_is a b q r e h = grind (arith, e, h)

mod_is : (a b q r : ℕ) → a ≡ q * b + r → r < b → a % b ≡ r
mod_is a b q r e h = grind (arith, e, h)

pos_same : (m n : ℕ) → pos m ≡ pos n → m ≡ n
pos_same m n e = omega (arith, ints, e)

pub quotient_is : (a b : ℕ) (q r : ℤ) → IsQuotient (pos a) (pos b) q r → (q ≡ pos (a / b)) × (r ≡ pos (a % b))
quotient_is a b q r h =
    let m : ℕ = unsigned_abs q in
    let n : ℕ = unsigned_abs r in
    let eq : q ≡ pos m = natural q h.positive in
    let er : r ≡ pos n = natural r h.least in
    let e : a ≡ m * b + n = pos_same a (m * b + n) (h.is ∙ ap (λ z. (z *ℤ pos b) +ℤ r) eq ∙ ap (λ z. (pos m *ℤ pos b) +ℤ z) er ∙ ap (λ z. z +ℤ pos n) (pos-*ℤ-pos m b)) in
    let s : n < b = omega (arith, ints, h.small, er) in
    (eq ∙ ap pos (sym (div_is a b m n e s)), er ∙ ap pos (sym (mod_is a b m n e s)))

-- ---- zero

not_equal : (n : ℕ) → int_eq (pos (suc n)) (pos 0) ≡ false
not_equal n = grind (arith, ints)

not_zero : (n : ℕ) → is_zero (pos (suc n)) ≡ false
not_zero n = grind (arith, ints)

zero_or_more : (z : ℤ) (p q : ℤ) → (0 < unsigned_abs z → p ≡ q) → (if int_eq z (pos 0) then pos 0 else p) ≡ (if is_zero z then pos 0 else q)
zero_or_more (pos zero) p q h = refl
zero_or_more (pos (suc n)) p q h = rw (not_equal n, not_zero n) (h (omega arith))
zero_or_more (negsuc n) p q h = h (omega arith)

pub quotient_value : (x y : Bool) (a b s q w : ℤ) → SignOf x a → SignOf y b → (0 < unsigned_abs b → q ≡ pos (unsigned_abs a / unsigned_abs b))
    → s ≡ (if differ x y then pos 0 -ℤ q else q) → w ≡ (if int_eq b (pos 0) then pos 0 else s) → w ≡ quotient a b
quotient_value x y a b s q w h k d e f =
    f ∙ zero_or_more b s (int_div a b) (λ p. e ∙ ap (λ z. if differ x y then pos 0 -ℤ z else z) (d p) ∙ signed_quotient x y a b h k)

pub rest_value : (x : Bool) (a b s r w : ℤ) → SignOf x a → (0 < unsigned_abs b → r ≡ pos (unsigned_abs a % unsigned_abs b))
    → s ≡ (if x then pos 0 -ℤ r else r) → w ≡ (if int_eq b (pos 0) then pos 0 else s) → w ≡ rest a b
rest_value x a b s r w h d e f =
    f ∙ zero_or_more b s (int_rem a b) (λ p. e ∙ ap (λ z. if x then pos 0 -ℤ z else z) (d p) ∙ signed_rest x a b h)

-- ---- words

pub low_word : (v : Values) (n : ℕ) (w : List ℤ) → length w ≡ suc n → pos 0 ≤ℤ word_value v w → above (bits v (take n w)) (pos 0) ≡ word_value v w
low_word v n w l h = ap (λ b. above b (pos 0)) (bits-take v n w) ∙ low_bits n (bits v w) (length-map w (lit_true v) ∙ l) h

pub quotient_word : (v : Values) (xs : List ℤ) (never : ℤ) → lit_true v never ≡ false → word_value v (xs ++ never ∷ []) ≡ above (bits v xs) (pos 0)
quotient_word v xs never h = ap int_of (map-append (lit_true v) xs (never ∷ [])) ∙ int_of-above (bits v xs) (lit_true v never ∷ []) (omega arith)
    ∙ ap (λ b. above (bits v xs) (neg_ℤ (bit_int b))) h

pub negated_word : (v : Values) (c never : ℤ) (k : ℕ) (none negative a word : List ℤ) → none ≡ padded k (never ∷ []) → lit_true v never ≡ false
    → word_value v negative ≡ (word_value v none -ℤ word_value v a) -ℤ bit_int (lit_true v never)
    → word_value v word ≡ (if lit_true v c then word_value v negative else word_value v a)
    → word_value v word ≡ (if lit_true v c then pos 0 -ℤ word_value v a else word_value v a)
negated_word v c never k none negative a word ez n p q =
    q ∙ ap (λ z. if lit_true v c then z else word_value v a)
    (p ∙ ap (λ z. (z -ℤ word_value v a) -ℤ bit_int (lit_true v never)) (none_word v k none never ez n)
    ∙ ap (λ b. (pos 0 -ℤ word_value v a) -ℤ bit_int b) n ∙ no_borrow (pos 0 -ℤ word_value v a))

pub unless_word : (v : Values) (z never : ℤ) (k : ℕ) (none d a word : List ℤ) → none ≡ padded k (never ∷ []) → lit_true v never ≡ false
    → lit_true v z ≡ int_eq (word_value v d) (word_value v none) → word_value v word ≡ (if lit_true v z then word_value v none else word_value v a)
    → word_value v word ≡ (if int_eq (word_value v d) (pos 0) then pos 0 else word_value v a)
unless_word v z never k none d a word ez n p q =
    let e : word_value v none ≡ pos 0 = none_word v k none never ez n in
    q ∙ ap (λ x. if lit_true v z then x else word_value v a) e ∙ ap (λ b. if b then pos 0 else word_value v a) (p ∙ ap (int_eq (word_value v d)) e)

pub step_word : (v : Values) (next d diff kept left : List ℤ) (less bit never : ℤ) (w n : ℕ) → Names n less → 0 < length diff
    → less ≡ get_or diff (length diff - 1) less → bit ≡ neg_ℤ less → lit_true v never ≡ false
    → word_value v diff ≡ (word_value v next -ℤ word_value v d) -ℤ bit_int (lit_true v never)
    → word_value v kept ≡ (if lit_true v less then word_value v next else word_value v diff)
    → FitsIn w (word_value v d) → (FitsIn w (word_value v kept) → word_value v left ≡ word_value v kept)
    → IsStep (word_value v next) (word_value v d) (lit_true v bit) (word_value v left)
step_word v next d diff kept left less bit never w n names some es eb en p q fits same least small =
    let f : word_value v diff ≡ word_value v next -ℤ word_value v d =
    p ∙ ap (λ b. (word_value v next -ℤ word_value v d) -ℤ bit_int b) en ∙ no_borrow (word_value v next -ℤ word_value v d) in
    let s = step_is (lit_true v less) (word_value v next) (word_value v d) (word_value v diff) (word_value v kept) f (sign_word v diff less some es) q least small in
    let b : lit_true v bit ≡ not (lit_true v less) = ap (lit_true v) eb ∙ opposite_value n less v names in
    let k : word_value v left ≡ word_value v kept = same (step_fits w (word_value v next) (word_value v d) (word_value v kept) (not (lit_true v less)) fits s) in
    rw (b, k) s

pub divide_next : (s0 s1 s2 : Cnf) (i m n : ℕ) (done d bs left next after : List ℤ) (x b never : ℤ)
    → Built s0 s1 i [] (λ v. lit_true v never ≡ false → pos 0 <ℤ word_value v d → IsQuotient (above (bits v done) (pos 0)) (word_value v d) (above (bits v bs) (pos 0)) (word_value v left))
    → Built s1 s2 n (b ∷ after) (λ v. lit_true v never ≡ false → IsStep (word_value v next) (word_value v d) (lit_true v b) (word_value v after))
    → next ≡ x ∷ left → 0 < length left → i + n ≤ m
    → Built s0 s2 m [] (λ v. lit_true v never ≡ false → pos 0 <ℤ word_value v d → IsQuotient (above (bits v (x ∷ done)) (pos 0)) (word_value v d) (above (bits v (b ∷ bs)) (pos 0)) (word_value v after))
divide_next s0 s1 s2 i m n done d bs left next after x b never g h e some le =
    built_both g h le (named_none s2.variables)
    (λ v p q en pd. quotient_next (lit_true v x) (lit_true v b) (above (bits v done) (pos 0)) (word_value v d) (above (bits v bs) (pos 0)) (word_value v left) (word_value v next) (word_value v after)
    (p en pd) (ap (word_value v) e ∙ int_of-more (lit_true v x) (bits v left) (omega (arith, some, length-map left (lit_true v)))) (q en))

pub divide_all : (s0 s1 : Cnf) (i : ℕ) (low done d bs left word : List ℤ) (never : ℤ)
    → Built s0 s1 i [] (λ v. lit_true v never ≡ false → pos 0 <ℤ word_value v d → IsQuotient (above (bits v done) (pos 0)) (word_value v d) (above (bits v bs) (pos 0)) (word_value v left))
    → done ≡ low → word ≡ bs ++ never ∷ [] → i ≤ length low * (4 * length d + 8) → length bs ≡ length low → length left ≡ length d
    → All (Names s1.variables) bs → All (Names s1.variables) left → Names s1.variables never
    → AreDivided s0 s1 low d never word left
divide_all s0 s1 i low done d bs left word never g e ew le lb ll nb nl nn = record {
  quotient_width = ap length ew ∙ (omega (arith, length-append bs (never ∷ []), lb));
  left_width = ll;
  quotient_names = (let P : List ℤ → Type 0 = λ l. All (Names s1.variables) l in
      subst P (sym ew) (All-append (Names s1.variables) bs (never ∷ []) nb (named_one s1.variables never nn)));
  left_names = nl;
  built = built_as g le (named_none s1.variables) (λ v p en pd.
      let eq : word_value v word ≡ above (bits v bs) (pos 0) = ap (word_value v) ew ∙ quotient_word v bs never en in
      let h = p en pd in
      rw (eq, sym e) h);
}

pub long_all : (s0 s1 : Cnf) (m n : ℕ) (top low d word left : List ℤ) (never : ℤ) → AreDivided s0 s1 low d never word left
    → low ≡ take n top → length top ≡ suc n → m ≡ length low * (4 * length d + 8)
    → Built s0 s1 m [] (λ v. lit_true v never ≡ false → pos 0 ≤ℤ word_value v top → pos 0 <ℤ word_value v d → IsQuotient (word_value v top) (word_value v d) (word_value v word) (word_value v left))
long_all s0 s1 m n top low d word left never g f l le =
    built_as g.built (omega (arith, le)) (named_none s1.variables) (λ v p en pt pd.
    let et : above (bits v low) (pos 0) ≡ word_value v top = ap (λ w. above (bits v w) (pos 0)) f ∙ low_word v n top l pt in
    let h = p en pd in
    rw (sym et) h)

above_zero : (n : ℕ) → 0 < n → pos 0 <ℤ pos n
above_zero n h = omega (arith, ints, h)

least_zero : (n : ℕ) → pos 0 ≤ℤ pos n
least_zero n = omega (arith, ints)

pub magnitudes : (v : Values) (a b top d q r : List ℤ) (sa sb : ℤ) → 0 < length a → 0 < length b → sa ≡ get_or a (length a - 1) sa → sb ≡ get_or b (length b - 1) sb
    → word_value v top ≡ (if lit_true v sa then pos 0 -ℤ word_value v a else word_value v a)
    → word_value v d ≡ (if lit_true v sb then pos 0 -ℤ word_value v b else word_value v b)
    → (pos 0 ≤ℤ word_value v top → pos 0 <ℤ word_value v d → IsQuotient (word_value v top) (word_value v d) (word_value v q) (word_value v r))
    → 0 < unsigned_abs (word_value v b)
    → (word_value v q ≡ pos (unsigned_abs (word_value v a) / unsigned_abs (word_value v b)))
    × (word_value v r ≡ pos (unsigned_abs (word_value v a) % unsigned_abs (word_value v b)))
magnitudes v a b top d q r sa sb la lb ea eb pt pd h some =
    let et : word_value v top ≡ pos (unsigned_abs (word_value v a)) = pt ∙ magnitude (lit_true v sa) (word_value v a) (sign_word v a sa la ea) in
    let ed : word_value v d ≡ pos (unsigned_abs (word_value v b)) = pd ∙ magnitude (lit_true v sb) (word_value v b) (sign_word v b sb lb eb) in
    let is = rw (et, ed) at h in
    quotient_is (unsigned_abs (word_value v a)) (unsigned_abs (word_value v b)) (word_value v q) (word_value v r)
    (is (least_zero (unsigned_abs (word_value v a))) (above_zero (unsigned_abs (word_value v b)) some))

pub divide_none : (s : Cnf) (m k : ℕ) (done d bs left : List ℤ) (never : ℤ) → done ≡ [] → bs ≡ [] → left ≡ padded k (never ∷ [])
    → Built s s m [] (λ v. lit_true v never ≡ false → pos 0 <ℤ word_value v d → IsQuotient (above (bits v done) (pos 0)) (word_value v d) (above (bits v bs) (pos 0)) (word_value v left))
divide_none s m k done d bs left never e f g =
    built_as (built_none s [] (λ v. lit_true v never ≡ false → pos 0 <ℤ word_value v d → IsQuotient (above (bits v done) (pos 0)) (word_value v d) (above (bits v bs) (pos 0)) (word_value v left))
    (named_none s.variables) (λ v en pd. rw (e, f, none_word v k left never g en) (quotient_none (word_value v d) pd)))
    (omega arith) (named_none s.variables) (λ v p. p)
