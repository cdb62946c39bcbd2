-- Shifts, stage by stage.
use Rattle.std.proofs.Common.{ℕ, zero, suc, ℤ, pos, negsuc, ◌+ℤ◌, ◌*ℤ◌, Bool, true, false, if◌then◌else◌, ◌≡◌, ◌∙◌, sym, ap, refl, subst, arith, ◌<◌, ◌≤◌, ◌+◌, ◌-◌, ◌*◌, ◌/◌, ◌%◌, ◌^◌, List, [], ◌∷◌, ◌++◌, length, take, drop, replicate, get_or, Some}
use Rattle.std.proofs.lemmas.Int.{ints}
use Rattle.std.proofs.lemmas.List.{length-map, length-take, length-append, length-replicate, map-append}
use Rattle.std.proofs.lemmas.Nat.{pow-add, mul-mod_first, mod-mul-add, pow_pos}
use Rattle.std.proofs.Math.Nat.{pow-succ', div-div-eq-div-mul}
use Rattle.std.proofs.Math.IntN.{pos-*ℤ-pos, pos-*ℤ-negsuc}
use Rattle.cnf_core.specs.Literals.{lit_true}
use Rattle.js_values.specs.Numbers.{to_uint32, to_int32, signed, halved, shift_count}
use Rattle.js_values.specs.Integers.{bits_left, bits_right, bits_right_zero}
use Rattle.bit_words.specs.Builds.{Values}
use Rattle.bit_words.specs.Words.{bits, word_value, int_of, padded}
use Rattle.std.proofs.Math.Nat.{mul-le-mul, le_refl, mul_comm}
use Rattle.bit_words.proofs.Rows.{mul_next}
use Rattle.bit_words.proofs.Lists.{bits-padded, bits-take}
use Rattle.bit_words.proofs.Numbers.{int_of-more}
use Rattle.int_encoder.specs.Bits.{low_bits, nat_bit, nat_of, shift_count_of, raised, IsRaised}
use Rattle.int_encoder.proofs.Naturals.{nat_below, split_word, signed_word, pos_same}
use Rattle.int_encoder.proofs.Lowest.{low_value, low_length}

-- ---- to the right

div_exact : (p n h : ℕ) → n < p → (n + p * h) / p ≡ h
div_exact p n h l = grind (arith, l)

mul-suc : (p h : ℕ) → p * suc h ≡ p + p * h
mul-suc p h = omega arith

div_one : (a : ℕ) → a / 2 ^ 0 ≡ a
div_one a = grind arith

halved_is : (k : ℕ) (z h : ℤ) (n p : ℕ) → p ≡ 2 ^ k → n < p → z ≡ pos n +ℤ (pos p *ℤ h) → h ≡ halved z k
halved_is k (pos m) (pos h) n p ep l e =
    let f : m ≡ n + p * h = pos_same m (n + p * h) (e ∙ ap (λ y. pos n +ℤ y) (pos-*ℤ-pos p h)) in
    ap pos (sym (div_exact p n h l) ∙ ap (λ x. x / p) (sym f) ∙ ap (λ x. m / x) ep)
halved_is k (pos m) (negsuc h) n p ep l e = absurd (omega (arith, ints, l, mul-suc p h, e ∙ ap (λ y. pos n +ℤ y) (pos-*ℤ-negsuc p h)))
halved_is k (negsuc m) (pos h) n p ep l e = absurd (omega (arith, ints, l, e ∙ ap (λ y. pos n +ℤ y) (pos-*ℤ-pos p h)))
halved_is k (negsuc m) (negsuc h) n p ep l e =
    let f : m ≡ (p - 1 - n) + p * h = omega (arith, ints, l, mul-suc p h, e ∙ ap (λ y. pos n +ℤ y) (pos-*ℤ-negsuc p h)) in
    ap negsuc (sym (div_exact p (p - 1 - n) h (omega (arith, l))) ∙ ap (λ x. x / p) (sym f) ∙ ap (λ x. m / x) ep)

-- all bits but the first k
pub upper_value : (k : ℕ) (xs : List Bool) → k < length xs → int_of (drop k xs) ≡ halved (int_of xs) k
upper_value k xs h =
    halved_is k (int_of xs) (int_of (drop k xs)) (nat_of (take k xs)) (2 ^ k) refl
    (let e : length (take k xs) ≡ k = length-take k xs ∙ (omega (arith, h)) in let P : ℕ → Type 0 = λ m. nat_of (take k xs) < 2 ^ m in subst P e (nat_below (take k xs)))
    (split_word k xs h)

bits-drop : (v : Values) (k : ℕ) (w : List ℤ) → bits v (drop k w) ≡ drop k (bits v w)
bits-drop v zero w = refl
bits-drop v (suc k) [] = refl
bits-drop v (suc k) (x ∷ xs) = bits-drop v k xs

pub upper_word : (v : Values) (k : ℕ) (w : List ℤ) → k < length w → word_value v (drop k w) ≡ halved (word_value v w) k
upper_word v k w h = ap int_of (bits-drop v k w) ∙ upper_value k (bits v w) (omega (arith, h, length-map w (lit_true v)))

halved_twice : (z : ℤ) (m n : ℕ) → halved (halved z m) n ≡ halved z (m + n)
halved_twice (pos a) m n = ap pos (div-div-eq-div-mul a (2 ^ m) (2 ^ n) ∙ ap (λ x. a / x) (sym (pow-add 2 m n)))
halved_twice (negsuc a) m n = ap negsuc (div-div-eq-div-mul a (2 ^ m) (2 ^ n) ∙ ap (λ x. a / x) (sym (pow-add 2 m n)))

halved_none : (z : ℤ) → halved z 0 ≡ z
halved_none (pos a) = ap pos (div_one a)
halved_none (negsuc a) = ap negsuc (div_one a)

-- one stage more
halved_stage : (c : Bool) (z y : ℤ) (s by : ℕ) → y ≡ halved z s → (if c then halved y by else y) ≡ halved z (s + by * nat_bit c)
halved_stage true z y s by e = ap (λ x. halved x by) e ∙ halved_twice z s by ∙ ap (halved z) (let f : s + by ≡ s + by * 1 = omega arith in f)
halved_stage false z y s by e = e ∙ ap (halved z) (let f : s ≡ s + by * 0 = omega arith in f)

five_bits : (a b c d e : Bool) → ((((0 + 1 * nat_bit a) + 2 * nat_bit b) + 4 * nat_bit c) + 8 * nat_bit d) + 16 * nat_bit e ≡ nat_of (a ∷ b ∷ c ∷ d ∷ e ∷ [])
five_bits a b c d e = omega arith

take_five : (v : Values) (w : List ℤ) (a b c d e : ℤ) → 5 ≤ length w → a ≡ get_or w 0 a → b ≡ get_or w 1 b → c ≡ get_or w 2 c → d ≡ get_or w 3 d → e ≡ get_or w 4 e
    → nat_of (lit_true v a ∷ lit_true v b ∷ lit_true v c ∷ lit_true v d ∷ lit_true v e ∷ []) ≡ shift_count_of v w
take_five v [] a b c d e h ea eb ec ed ee = absurd (omega (arith, h))
take_five v (p ∷ []) a b c d e h ea eb ec ed ee = absurd (omega (arith, h))
take_five v (p ∷ q ∷ []) a b c d e h ea eb ec ed ee = absurd (omega (arith, h))
take_five v (p ∷ q ∷ r ∷ []) a b c d e h ea eb ec ed ee = absurd (omega (arith, h))
take_five v (p ∷ q ∷ r ∷ s ∷ []) a b c d e h ea eb ec ed ee = absurd (omega (arith, h))
take_five v (p ∷ q ∷ r ∷ s ∷ t ∷ w) a b c d e h ea eb ec ed ee = rw (ea, eb, ec, ed, ee) refl

pub halved_five : (v : Values) (count : List ℤ) (z y1 y2 y3 y4 y5 : ℤ) (a b c d e : ℤ) → 5 ≤ length count
    → a ≡ get_or count 0 a → b ≡ get_or count 1 b → c ≡ get_or count 2 c → d ≡ get_or count 3 d → e ≡ get_or count 4 e
    → y1 ≡ (if lit_true v a then halved z 1 else z) → y2 ≡ (if lit_true v b then halved y1 2 else y1) → y3 ≡ (if lit_true v c then halved y2 4 else y2)
    → y4 ≡ (if lit_true v d then halved y3 8 else y3) → y5 ≡ (if lit_true v e then halved y4 16 else y4)
    → y5 ≡ halved z (shift_count_of v count)
halved_five v count z y1 y2 y3 y4 y5 a b c d e h ea eb ec ed ee e1 e2 e3 e4 e5 =
    let s1 = e1 ∙ halved_stage (lit_true v a) z z 0 1 (sym (halved_none z)) in
    let s2 = e2 ∙ halved_stage (lit_true v b) z y1 _ 2 s1 in
    let s3 = e3 ∙ halved_stage (lit_true v c) z y2 _ 4 s2 in
    let s4 = e4 ∙ halved_stage (lit_true v d) z y3 _ 8 s3 in
    let s5 = e5 ∙ halved_stage (lit_true v e) z y4 _ 16 s4 in
    s5 ∙ ap (halved z) (five_bits (lit_true v a) (lit_true v b) (lit_true v c) (lit_true v d) (lit_true v e) ∙ take_five v count a b c d e h ea eb ec ed ee)

-- ---- the count

nat_step : (x : Bool) (n t p q d : ℕ) → q ≡ 2 * p → n ≡ t + p * d → nat_bit x + 2 * n ≡ (nat_bit x + 2 * t) + q * d
nat_step x n t p q d e f = rw (e, f) (grind arith)

nat_split : (k : ℕ) (xs : List Bool) → k ≤ length xs → nat_of xs ≡ nat_of (take k xs) + 2 ^ k * nat_of (drop k xs)
nat_split zero xs h = omega arith
nat_split (suc k) [] h = absurd (omega (arith, h))
nat_split (suc k) (x ∷ xs) h = nat_step x (nat_of xs) (nat_of (take k xs)) (2 ^ k) (2 ^ suc k) (nat_of (drop k xs)) (pow-succ' 2 k) (nat_split k xs (omega (arith, h)))

taken_below : (k : ℕ) (xs : List Bool) → k ≤ length xs → nat_of (take k xs) < 2 ^ k
taken_below k xs h =
    let e : length (take k xs) ≡ k = length-take k xs ∙ (omega (arith, h)) in
    let P : ℕ → Type 0 = λ m. nat_of (take k xs) < 2 ^ m in subst P e (nat_below (take k xs))

five_of : (n t r : ℕ) → n ≡ t + 32 * r → t < 32 → n % 32 ≡ t
five_of n t r e h = omega (arith, e, h)

pub count_is : (v : Values) (b : List ℤ) → 0 < length b → shift_count (Some (word_value v b)) ≡ shift_count_of v (low_bits b)
count_is v b h =
    let xs = bits v (low_bits b) in
    let l : length xs ≡ 32 = length-map (low_bits b) (lit_true v) ∙ low_length b h in
    ap (λ n. n % 32) (low_value v b h) ∙ five_of (nat_of xs) (nat_of (take 5 xs)) (nat_of (drop 5 xs)) (nat_split 5 xs (omega (arith, l))) (taken_below 5 xs (omega (arith, l)))

pub right_value : (v : Values) (a b word : List ℤ) → 0 < length a → 0 < length b → word_value v word ≡ halved (word_value v (low_bits a)) (shift_count_of v (low_bits b))
    → word_value v word ≡ bits_right (word_value v a) (word_value v b)
right_value v a b word ha hb e =
    e ∙ ap (λ z. halved z (shift_count_of v (low_bits b)))
    (signed_word (bits v (low_bits a)) (length-map (low_bits a) (lit_true v) ∙ low_length a ha) ∙ ap signed (sym (low_value v a ha)))
    ∙ ap (halved (to_int32 (Some (word_value v a)))) (sym (count_is v b hb))

whole_step : (x : Bool) (xs : List Bool) (n : ℕ) → 0 < length xs → int_of xs ≡ pos n → int_of (x ∷ xs) ≡ pos (nat_bit x + 2 * n)
whole_step true xs n h e = int_of-more true xs h ∙ (omega (arith, ints, e))
whole_step false xs n h e = int_of-more false xs h ∙ (omega (arith, ints, e))

-- bits below a sign that doesn't hold
whole_int : (xs : List Bool) → int_of (xs ++ false ∷ []) ≡ pos (nat_of xs)
whole_int [] = refl
whole_int (x ∷ xs) = whole_step x (xs ++ false ∷ []) (nat_of xs) (omega (arith, length-append xs (false ∷ []))) (whole_int xs)

pub right_zero_value : (v : Values) (a b whole sign word : List ℤ) (never : ℤ) → 0 < length a → 0 < length b → sign ≡ never ∷ [] → whole ≡ low_bits a ++ sign → lit_true v never ≡ false
    → word_value v word ≡ halved (word_value v whole) (shift_count_of v (low_bits b))
    → word_value v word ≡ bits_right_zero (word_value v a) (word_value v b)
right_zero_value v a b whole sign word never ha hb es ew en e =
    e ∙ ap (λ z. halved z (shift_count_of v (low_bits b)))
    (ap (word_value v) (ew ∙ ap (λ l. low_bits a ++ l) es) ∙ ap int_of (map-append (lit_true v) (low_bits a) (never ∷ []))
    ∙ ap (λ x. int_of (bits v (low_bits a) ++ x ∷ [])) en ∙ whole_int (bits v (low_bits a)) ∙ ap pos (sym (low_value v a ha)))
    ∙ ap (λ s. pos (to_uint32 (Some (word_value v a)) / 2 ^ s)) (sym (count_is v b hb))

-- ---- to the left

zero_step : (k n : ℕ) → 0 + 2 * (2 ^ k * n) ≡ 2 ^ suc k * n
zero_step k n = rw (pow-succ' 2 k) (grind arith)

zeros_below : (k : ℕ) (ys : List Bool) → nat_of (replicate k false ++ ys) ≡ 2 ^ k * nat_of ys
zeros_below zero ys = omega arith
zeros_below (suc k) ys = ap (λ n. 0 + 2 * n) (zeros_below k ys) ∙ zero_step k (nat_of ys)

below_product : (t p q : ℕ) → t < p → 0 < q → q * t < p * q
below_product t p q h g =
    let e : (t + 1) * q ≤ p * q = mul-le-mul (omega (arith, h)) (le_refl q) in
    omega (arith, e, g, mul_next t q, mul_comm q t)

raised_mod : (n t p q d : ℕ) (m : ℕ) → p * q ≡ m → t < p → 0 < q → n ≡ t + p * d → (n * q) % m ≡ q * t
raised_mod n t p q d m e h g f =
    let w : n * q ≡ d * m + q * t = rw (f, sym e) (grind arith) in
    ap (λ x. x % m) w ∙ mod-mul-add d m (q * t) (rw (sym e) (below_product t p q h g))

signed_same : (m n : ℕ) → m < 4294967296 → n < 4294967296 → signed m ≡ signed n → m ≡ n
signed_same m n h g e = grind (arith, ints, h, g, e)

mod_less : (n : ℕ) → n % 4294967296 < 4294967296
mod_less n = omega arith

zeros_bits : (v : Values) (by : ℕ) (zeros : List ℤ) (never : ℤ) → 0 < by → zeros ≡ padded (by - 1) (never ∷ []) → lit_true v never ≡ false → bits v zeros ≡ replicate by false
zeros_bits v zero zeros never h e en = absurd (omega (arith, h))
zeros_bits v (suc k) zeros never h e en =
    ap (bits v) e ∙ bits-padded v (suc k - 1) (never ∷ []) ∙ ap (λ b. b ∷ replicate (suc k - 1) b) en ∙ ap (λ n. false ∷ replicate n false) (let f : suc k - 1 ≡ k = omega arith in f)

moved_value : (v : Values) (a lower zeros moved : List ℤ) (by w : ℕ) (never : ℤ) → length a ≡ 32 → 0 < by → by < 32 → w ≡ length a → lower ≡ take (w - by) a
    → zeros ≡ padded (by - 1) (never ∷ []) → moved ≡ zeros ++ lower → lit_true v never ≡ false → word_value v moved ≡ raised (nat_of (bits v a)) by
moved_value v a lower zeros moved by w never la some few ew el ez em en =
    let xs = bits v a in
    let k : ℕ = w - by in
    let lx : length xs ≡ 32 = length-map a (lit_true v) ∙ la in
    let lk : k ≤ length xs = omega (arith, ew, la, lx) in
    let zb = zeros_bits v by zeros never some ez en in
    let mb : bits v moved ≡ replicate by false ++ take k xs =
    ap (bits v) em ∙ map-append (lit_true v) zeros lower ∙ ap (λ l. l ++ bits v lower) zb ∙ ap (λ l. replicate by false ++ l) (ap (bits v) el ∙ bits-take v k a) in
    let lm : length (bits v moved) ≡ 32 =
    ap length mb ∙ length-append (replicate by false) (take k xs) ∙ (omega (arith, length-replicate by false, length-take k xs, lx, ew, la, few)) in
    let pq : 2 ^ k * 2 ^ by ≡ 4294967296 = sym (pow-add 2 k by) ∙ ap (λ n. 2 ^ n) (let f : k + by ≡ 32 = omega (arith, ew, la, few) in f) in
    signed_word (bits v moved) lm
    ∙ ap signed (ap nat_of mb ∙ zeros_below by (take k xs)
    ∙ sym (raised_mod (nat_of xs) (nat_of (take k xs)) (2 ^ k) (2 ^ by) (nat_of (drop k xs)) 4294967296 pq (taken_below k xs lk) (pow_pos by) (nat_split k xs lk)))

pub raised_word : (v : Values) (a lower zeros moved word : List ℤ) (by w : ℕ) (when never : ℤ) → length a ≡ 32 → 0 < by → by < 32 → w ≡ length a → lower ≡ take (w - by) a
    → zeros ≡ padded (by - 1) (never ∷ []) → moved ≡ zeros ++ lower
    → word_value v word ≡ (if lit_true v when then word_value v moved else word_value v a) → IsRaised a by when never word v
raised_word v a lower zeros moved word by w when never la some few ew el ez em p en =
    p ∙ ap (λ z. if lit_true v when then z else word_value v a) (moved_value v a lower zeros moved by w never la some few ew el ez em en)
    ∙ ap (λ z. if lit_true v when then raised (nat_of (bits v a)) by else z) (signed_word (bits v a) (length-map a (lit_true v) ∙ la))

word_below : (v : Values) (a : List ℤ) → length a ≡ 32 → nat_of (bits v a) < 4294967296
word_below v a la = let P : ℕ → Type 0 = λ m. nat_of (bits v a) < 2 ^ m in subst P (length-map a (lit_true v) ∙ la) (nat_below (bits v a))

if_signed : (c : Bool) (m n : ℕ) → (if c then signed m else signed n) ≡ signed (if c then m else n)
if_signed true m n = refl
if_signed false m n = refl

if_below : (c : Bool) (m n : ℕ) → m < 4294967296 → n < 4294967296 → (if c then m else n) < 4294967296
if_below true m n h g = h
if_below false m n h g = g

-- one stage on the numbers without sign
stage_nat : (v : Values) (a word : List ℤ) (by : ℕ) (when never : ℤ) → length a ≡ 32 → length word ≡ 32 → IsRaised a by when never word v → lit_true v never ≡ false
    → nat_of (bits v word) ≡ (if lit_true v when then (nat_of (bits v a) * 2 ^ by) % 4294967296 else nat_of (bits v a))
stage_nat v a word by when never la lw r en =
    let n = nat_of (bits v a) in
    let m = (n * 2 ^ by) % 4294967296 in
    signed_same (nat_of (bits v word)) (if lit_true v when then m else n) (word_below v word lw) (if_below (lit_true v when) m n (mod_less (n * 2 ^ by)) (word_below v a la))
    (sym (signed_word (bits v word) (length-map word (lit_true v) ∙ lw)) ∙ r en ∙ if_signed (lit_true v when) m n)

product_of : (u p q : ℕ) → (u * p) * q ≡ u * (p * q)
product_of u p q = grind arith

raise_stage : (c : Bool) (u n y s by : ℕ) → n ≡ (u * 2 ^ s) % 4294967296 → y ≡ (if c then (n * 2 ^ by) % 4294967296 else n) → y ≡ (u * 2 ^ (s + by * nat_bit c)) % 4294967296
raise_stage true u n y s by e f =
    f ∙ ap (λ x. (x * 2 ^ by) % 4294967296) e ∙ mul-mod_first (u * 2 ^ s) (2 ^ by) 4294967296
    ∙ ap (λ x. x % 4294967296) (product_of u (2 ^ s) (2 ^ by) ∙ ap (λ x. u * x) (sym (pow-add 2 s by) ∙ ap (λ x. 2 ^ x) (let g : s + by ≡ s + by * 1 = omega arith in g)))
raise_stage false u n y s by e f = f ∙ e ∙ ap (λ x. (u * 2 ^ x) % 4294967296) (let g : s ≡ s + by * 0 = omega arith in g)

not_raised : (u : ℕ) → u < 4294967296 → u ≡ (u * 2 ^ 0) % 4294967296
not_raised u h = omega (arith, h)

pub left_value : (v : Values) (a b low count w1 w2 w3 w4 w5 : List ℤ) (p q r s t never : ℤ) → 0 < length a → 0 < length b → low ≡ low_bits a → count ≡ low_bits b
    → p ≡ get_or count 0 p → q ≡ get_or count 1 q → r ≡ get_or count 2 r → s ≡ get_or count 3 s → t ≡ get_or count 4 t
    → length low ≡ 32 → length w1 ≡ 32 → length w2 ≡ 32 → length w3 ≡ 32 → length w4 ≡ 32 → length w5 ≡ 32 → lit_true v never ≡ false
    → IsRaised low 1 p never w1 v → IsRaised w1 2 q never w2 v → IsRaised w2 4 r never w3 v → IsRaised w3 8 s never w4 v → IsRaised w4 16 t never w5 v
    → word_value v w5 ≡ bits_left (word_value v a) (word_value v b)
left_value v a b low count w1 w2 w3 w4 w5 p q r s t never ha hb el ec ep eq er es et l0 l1 l2 l3 l4 l5 en r1 r2 r3 r4 r5 =
    let u = nat_of (bits v low) in
    let n1 = raise_stage (lit_true v p) u u _ 0 1 (not_raised u (word_below v low l0)) (stage_nat v low w1 1 p never l0 l1 r1 en) in
    let n2 = raise_stage (lit_true v q) u _ _ _ 2 n1 (stage_nat v w1 w2 2 q never l1 l2 r2 en) in
    let n3 = raise_stage (lit_true v r) u _ _ _ 4 n2 (stage_nat v w2 w3 4 r never l2 l3 r3 en) in
    let n4 = raise_stage (lit_true v s) u _ _ _ 8 n3 (stage_nat v w3 w4 8 s never l3 l4 r4 en) in
    let n5 = raise_stage (lit_true v t) u _ _ _ 16 n4 (stage_nat v w4 w5 16 t never l4 l5 r5 en) in
    let lc : length count ≡ 32 = ap length ec ∙ low_length b hb in
    let k : shift_count_of v count ≡ shift_count (Some (word_value v b)) = ap (shift_count_of v) ec ∙ sym (count_is v b hb) in
    let ua : u ≡ to_uint32 (Some (word_value v a)) = ap (λ l. nat_of (bits v l)) el ∙ sym (low_value v a ha) in
    signed_word (bits v w5) (length-map w5 (lit_true v) ∙ l5)
    ∙ ap signed (n5
    ∙ ap (λ x. (u * 2 ^ x) % 4294967296) (five_bits (lit_true v p) (lit_true v q) (lit_true v r) (lit_true v s) (lit_true v t) ∙ take_five v count p q r s t (omega (arith, lc)) ep eq er es et ∙ k)
    ∙ ap (λ x. (x * 2 ^ shift_count (Some (word_value v b))) % 4294967296) ua)
