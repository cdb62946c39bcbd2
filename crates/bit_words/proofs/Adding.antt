-- Sums of words.
use Rattle.std.proofs.Common.{ℤ, pos, negsuc, ◌+ℤ◌, ◌-ℤ◌, neg_ℤ, ℕ, zero, suc, Bool, true, false, not, if◌then◌else◌, ◌≡◌, ◌∙◌, sym, ap, refl, List, [], ◌∷◌, ◌++◌, length, map, replicate, max, ◌+◌, ◌-◌, ◌*◌, ◌≤◌, ◌<◌, arith, subst, All, append_assoc, append-nil, add-one}
use Rattle.std.proofs.lemmas.List.{map-append, length-map}
use Rattle.std.proofs.lemmas.List.Elements.{All-append}
use Rattle.std.proofs.lemmas.Int.{ints}
use Rattle.cnf_core.specs.Literals.{Names, lit_true}
use Rattle.cnf_core.specs.declared.clauses.Cnf.{Cnf}
use Rattle.bit_words.specs.Builds.{Values, Built, IsGate, differ}
use Rattle.bit_words.specs.Words.{IsWord, IsSum, padded, sum_bits, bits, bit_int, word_value, int_of}
use Rattle.bit_words.proofs.Within.{all_later}
use Rattle.bit_words.proofs.Composed.{built_none, built_as, built_both, named_more, named_one}
use Rattle.bit_words.proofs.Numbers.{int_of-more, int_of-padded, length-padded, int_of-not}
use Rattle.bit_words.proofs.Lists.{bits-padded, bits-opposites}
use Rattle.bit_words.proofs.Opposites.{opposite_value}

-- one full adder and the rest
sum_step : (x y c : Bool) (p q r : ℤ) → r ≡ (p +ℤ q) +ℤ bit_int (if differ x y then c else x)
    → bit_int (differ (differ x y) c) +ℤ (r +ℤ r) ≡ ((bit_int x +ℤ (p +ℤ p)) +ℤ (bit_int y +ℤ (q +ℤ q))) +ℤ bit_int c
sum_step true true true p q r e = omega (arith, ints)
sum_step true true false p q r e = omega (arith, ints)
sum_step true false true p q r e = omega (arith, ints)
sum_step true false false p q r e = omega (arith, ints)
sum_step false true true p q r e = omega (arith, ints)
sum_step false true false p q r e = omega (arith, ints)
sum_step false false true p q r e = omega (arith, ints)
sum_step false false false p q r e = omega (arith, ints)

sum_last : (x y c : Bool) → int_of (sum_bits c (x ∷ x ∷ []) (y ∷ y ∷ [])) ≡ (int_of (x ∷ []) +ℤ int_of (y ∷ [])) +ℤ bit_int c
sum_last true true true = refl
sum_last true true false = refl
sum_last true false true = refl
sum_last true false false = refl
sum_last false true true = refl
sum_last false true false = refl
sum_last false false true = refl
sum_last false false false = refl

length-sum_bits : (c : Bool) (xs ys : List Bool) → length xs ≡ length ys → length (sum_bits c xs ys) ≡ length xs
length-sum_bits c [] ys e = refl
length-sum_bits c (x ∷ xs) [] e = absurd (omega arith)
length-sum_bits c (x ∷ xs) (y ∷ ys) e = omega (arith, length-sum_bits (if differ x y then c else x) xs ys (omega arith))

int_of-sum : (c : Bool) (xs ys : List Bool) → 0 < length xs → length xs ≡ length ys
    → int_of (sum_bits c (padded 1 xs) (padded 1 ys)) ≡ (int_of xs +ℤ int_of ys) +ℤ bit_int c
int_of-sum c [] ys h e = absurd (omega arith)
int_of-sum c (x ∷ xs) [] h e = absurd (omega arith)
int_of-sum c (x ∷ []) (y ∷ []) h e = sum_last x y c
int_of-sum c (x ∷ []) (y ∷ y' ∷ ys) h e = absurd (omega arith)
int_of-sum c (x ∷ x' ∷ xs) (y ∷ []) h e = absurd (omega arith)
int_of-sum c (x ∷ x' ∷ xs) (y ∷ y' ∷ ys) h e =
    int_of-more (differ (differ x y) c) (sum_bits (if differ x y then c else x) (padded 1 (x' ∷ xs)) (padded 1 (y' ∷ ys))) (omega (arith, length-sum_bits (if differ x y then c else x) (padded 1 (x' ∷ xs)) (padded 1 (y' ∷ ys)) (omega (arith, length-padded 1 (x' ∷ xs) (omega arith), length-padded 1 (y' ∷ ys) (omega arith))), length-padded 1 (x' ∷ xs) (omega arith)))
    ∙ sum_step x y c _ _ _ (int_of-sum (if differ x y then c else x) (x' ∷ xs) (y' ∷ ys) (omega arith) (omega arith))

padded_cons : {X : Type 0} (x : X) (ys : List X) → 0 < length ys → padded 1 (x ∷ ys) ≡ x ∷ padded 1 ys
padded_cons x [] h = absurd (omega arith)
padded_cons x (y ∷ ys) h = refl

again : {X : Type 0} (k : ℕ) (x : X) → x ∷ replicate (suc k) x ≡ padded 1 (x ∷ replicate k x)
again zero x = refl
again (suc k) x = ap (λ l. x ∷ l) (again k x)

-- one copy more
padded_more : {X : Type 0} (k : ℕ) (xs : List X) → padded (k + 1) xs ≡ padded 1 (padded k xs)
padded_more k [] = refl
padded_more k (x ∷ []) = ap (λ n. x ∷ replicate n x) (add-one k) ∙ again k x
padded_more k (x ∷ y ∷ ys) = ap (λ l. x ∷ l) (padded_more k (y ∷ ys)) ∙ sym (padded_cons x (padded k (y ∷ ys)) (omega (arith, length-padded k (y ∷ ys) (omega arith))))

-- the loop: what is summed, and what is left
abbrev pub Summing : List ℤ → List ℤ → ℤ → List ℤ → List ℤ → ℤ → List ℤ → Values → Type 0
Summing a b carry left other next out v = bits v out ++ sum_bits (lit_true v next) (bits v left) (bits v other) ≡ sum_bits (lit_true v carry) (bits v a) (bits v b)

pub summing_none : (s : Cnf) (a b out : List ℤ) (carry : ℤ) → out ≡ [] → Names s.variables carry → Built s s 0 (carry ∷ out) (Summing a b carry a b carry out)
summing_none s a b out carry e h =
    let P : List ℤ → Type 0 = λ l. Built s s 0 (carry ∷ l) (Summing a b carry a b carry l) in
    subst P (sym e) (built_none s (carry ∷ []) (Summing a b carry a b carry []) (named_one s.variables carry h) (λ v. refl))

summing_next : (v : Values) (a b : List ℤ) (carry x y : ℤ) (left other out : List ℤ) (next sum after : ℤ) → Summing a b carry (x ∷ left) (y ∷ other) next out v
    → lit_true v sum ≡ differ (differ (lit_true v x) (lit_true v y)) (lit_true v next)
    → lit_true v after ≡ (if differ (lit_true v x) (lit_true v y) then lit_true v next else lit_true v x)
    → Summing a b carry left other after (out ++ sum ∷ []) v
summing_next v a b carry x y left other out next sum after i g h =
    ap (λ l. l ++ sum_bits (lit_true v after) (bits v left) (bits v other)) (map-append (lit_true v) out (sum ∷ []))
    ∙ append_assoc (bits v out) (lit_true v sum ∷ []) (sum_bits (lit_true v after) (bits v left) (bits v other))
    ∙ ap (λ z. bits v out ++ z ∷ sum_bits (lit_true v after) (bits v left) (bits v other)) g
    ∙ ap (λ z. bits v out ++ differ (differ (lit_true v x) (lit_true v y)) (lit_true v next) ∷ sum_bits z (bits v left) (bits v other)) h
    ∙ i

pub summing_step : (s0 s1 s2 : Cnf) (i m : ℕ) (a b : List ℤ) (carry x y : ℤ) (left other out : List ℤ) (next sum after : ℤ)
    → Built s0 s1 i (next ∷ out) (Summing a b carry (x ∷ left) (y ∷ other) next out)
    → Built s1 s2 3 (sum ∷ after ∷ []) (λ v. (lit_true v sum ≡ differ (differ (lit_true v x) (lit_true v y)) (lit_true v next))
    × (lit_true v after ≡ (if differ (lit_true v x) (lit_true v y) then lit_true v next else lit_true v x)))
    → i + 3 ≤ m
    → Built s0 s2 m (after ∷ (out ++ sum ∷ [])) (Summing a b carry left other after (out ++ sum ∷ []))
summing_step s0 s1 s2 i m a b carry x y left other out next sum after g h le =
    built_both g h le
    (named_more s2.variables after (out ++ sum ∷ []) (h.names 1 sum (omega arith))
    (All-append (Names s2.variables) out (sum ∷ []) (all_later s1.variables s2.variables out (λ k d w. g.names (suc k) d (omega (arith, w))) h.variables)
    (named_one s2.variables sum (h.names 0 sum (omega arith)))))
    (λ v p q. summing_next v a b carry x y left other out next sum after p q.0 q.1)

pub summing_all : (s0 s1 : Cnf) (i : ℕ) (a b left other out : List ℤ) (carry next : ℤ) → Built s0 s1 i (next ∷ out) (Summing a b carry left other next out)
    → left ≡ [] → length out ≡ length a → i ≤ 3 * length a → IsSum s0 s1 a b carry out
summing_all s0 s1 i a b left other out carry next g e l le = record {
  width = l;
  built = built_as g le (λ k d w. g.names (suc k) d (omega (arith, w)))
      (λ v p. sym (append-nil (bits v out)) ∙ sym (ap (λ z. bits v out ++ sum_bits (lit_true v next) (bits v z) (bits v other)) e) ∙ p);
}

summed : (v : Values) (a b : List ℤ) (carry : ℤ) (j k : ℕ) → 0 < length a → 0 < length b → length a + j ≡ length b + k
    → int_of (sum_bits (lit_true v carry) (bits v (padded (j + 1) a)) (bits v (padded (k + 1) b))) ≡ (word_value v a +ℤ word_value v b) +ℤ bit_int (lit_true v carry)
summed v a b carry j k la lb e =
    let p : length (padded j (bits v a)) ≡ length (bits v a) + j = length-padded j (bits v a) (omega (arith, length-map a (lit_true v))) in
    let q : length (padded k (bits v b)) ≡ length (bits v b) + k = length-padded k (bits v b) (omega (arith, length-map b (lit_true v))) in
    ap (λ l. int_of (sum_bits (lit_true v carry) l (bits v (padded (k + 1) b)))) (bits-padded v (j + 1) a ∙ padded_more j (bits v a))
    ∙ ap (λ l. int_of (sum_bits (lit_true v carry) (padded 1 (padded j (bits v a))) l)) (bits-padded v (k + 1) b ∙ padded_more k (bits v b))
    ∙ int_of-sum (lit_true v carry) (padded j (bits v a)) (padded k (bits v b)) (omega (arith, p, length-map a (lit_true v)))
    (omega (arith, p, q, length-map a (lit_true v), length-map b (lit_true v)))
    ∙ ap (λ z. (z +ℤ int_of (padded k (bits v b))) +ℤ bit_int (lit_true v carry)) (int_of-padded j (bits v a))
    ∙ ap (λ z. (word_value v a +ℤ z) +ℤ bit_int (lit_true v carry)) (int_of-padded k (bits v b))

pub sum_word : (s0 s1 : Cnf) (a b a' b' out : List ℤ) (carry : ℤ) (w : ℕ) → w ≡ max (length a) (length b) → a' ≡ padded (w + 1 - length a) a → b' ≡ padded (w + 1 - length b) b
    → IsSum s0 s1 a' b' carry out → 0 < length a → 0 < length b
    → IsWord s0 s1 (3 * w + 3) out (λ v. (word_value v a +ℤ word_value v b) +ℤ bit_int (lit_true v carry))
sum_word s0 s1 a b a' b' out carry w ew ea eb s la lb =
    let j : ℕ = w - length a in
    let k : ℕ = w - length b in
    let ea' : a' ≡ padded (j + 1) a = ea ∙ ap (λ n. padded n a) (let e : w + 1 - length a ≡ w - length a + 1 = omega (arith, ew) in e) in
    let eb' : b' ≡ padded (k + 1) b = eb ∙ ap (λ n. padded n b) (let e : w + 1 - length b ≡ w - length b + 1 = omega (arith, ew) in e) in
    let l : length a' ≡ length a + (j + 1) = ap length ea' ∙ length-padded (j + 1) a la in
    record {
      some = omega (arith, l, s.width);
      built = built_as s.built (omega (arith, l, ew)) s.built.names
          (λ v p. ap int_of (p ∙ ap (λ z. sum_bits (lit_true v carry) (bits v z) (bits v b')) ea' ∙ ap (λ z. sum_bits (lit_true v carry) (bits v (padded (j + 1) a)) (bits v z)) eb')
          ∙ summed v a b carry j k la lb (omega (arith, ew)));
    }

plus_none : (z : ℤ) (b : Bool) → b ≡ false → z +ℤ bit_int b ≡ z
plus_none z b e = rw e (let f : z +ℤ pos 0 ≡ z = omega (arith, ints) in f)

less_none : (z : ℤ) (b : Bool) → b ≡ false → z -ℤ bit_int b ≡ z
less_none z b e = rw e (let f : z -ℤ pos 0 ≡ z = omega (arith, ints) in f)

-- from a carry that never holds
pub never_carried : (s0 s1 s2 : Cnf) (m m' : ℕ) (never : ℤ) (word : List ℤ) (f : Values → ℤ) → IsGate s0 s1 1 never (λ v. false)
    → IsWord s1 s2 m word (λ v. f v +ℤ bit_int (lit_true v never)) → 1 + m ≤ m' → IsWord s0 s2 m' word f
never_carried s0 s1 s2 m m' never word f g h le = record {
  some = h.some;
  built = built_both g h.built le h.built.names (λ v p q. q ∙ plus_none (f v) (lit_true v never) p);
}

pub never_borrowed : (s0 s1 s2 : Cnf) (m m' : ℕ) (never : ℤ) (word : List ℤ) (f : Values → ℤ) → IsGate s0 s1 1 never (λ v. false)
    → IsWord s1 s2 m word (λ v. f v -ℤ bit_int (lit_true v never)) → 1 + m ≤ m' → IsWord s0 s2 m' word f
never_borrowed s0 s1 s2 m m' never word f g h le = record {
  some = h.some;
  built = built_both g h.built le h.built.names (λ v p q. q ∙ less_none (f v) (lit_true v never) p);
}

take_away : (x y : ℤ) (b : Bool) → (x +ℤ (negsuc 0 -ℤ y)) +ℤ bit_int (not b) ≡ (x -ℤ y) -ℤ bit_int b
take_away x y true = omega (arith, ints)
take_away x y false = omega (arith, ints)

-- a sum with the opposite bits
pub difference_word : (s0 s1 : Cnf) (m m' : ℕ) (a b b' word : List ℤ) (borrow carry : ℤ) → All (Names s0.variables) b → 0 < length b → Names s0.variables borrow
    → b' ≡ map neg_ℤ b → carry ≡ neg_ℤ borrow → m ≤ m'
    → IsWord s0 s1 m word (λ v. (word_value v a +ℤ word_value v b') +ℤ bit_int (lit_true v carry))
    → IsWord s0 s1 m' word (λ v. (word_value v a -ℤ word_value v b) -ℤ bit_int (lit_true v borrow))
difference_word s0 s1 m m' a b b' word borrow carry hb lb hr eb ec le h = record {
  some = h.some;
  built = built_as h.built le h.built.names (λ v p.
      p ∙ ap (λ z. (word_value v a +ℤ z) +ℤ bit_int (lit_true v carry))
      (ap (word_value v) eb ∙ ap int_of (bits-opposites v s0.variables b hb) ∙ int_of-not (bits v b) (omega (arith, lb, length-map b (lit_true v))))
      ∙ ap (λ z. (word_value v a +ℤ (negsuc 0 -ℤ word_value v b)) +ℤ bit_int z) (ap (lit_true v) ec ∙ opposite_value s0.variables borrow v hr)
      ∙ take_away (word_value v a) (word_value v b) (lit_true v borrow));
}
