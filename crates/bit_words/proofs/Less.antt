-- Which word is less.
use Rattle.std.proofs.Common.{ℕ, ℤ, pos, ◌+ℤ◌, neg_ℤ, Bool, true, false, not, ◌≡◌, ◌∙◌, sym, ap, refl, arith, List, [], ◌∷◌, length, ◌<◌, ◌≤◌, ◌+◌, ◌-◌, int_lt}
use Rattle.std.proofs.lemmas.Int.{ints}
use Rattle.std.proofs.lemmas.List.{length-map}
use Rattle.cnf_core.specs.Literals.{Names, lit_true}
use Rattle.cnf_core.specs.declared.clauses.Cnf.{Cnf}
use Rattle.bit_words.specs.Builds.{Values, Built, IsGate, majority}
use Rattle.bit_words.specs.Words.{padded, bit_int, int_of, less_bits, bits, word_value}
use Rattle.bit_words.proofs.Composed.{built_as, built_both}
use Rattle.bit_words.proofs.Numbers.{int_of-padded, length-padded}
use Rattle.bit_words.proofs.Lists.{bits-padded}
use Rattle.bit_words.proofs.Opposites.{opposite_value}

less_step : (x y c : Bool) (p q : ℤ) → int_lt p (q +ℤ bit_int (majority (not x) y c)) ≡ int_lt (bit_int x +ℤ (p +ℤ p)) ((bit_int y +ℤ (q +ℤ q)) +ℤ bit_int c)
less_step true true true p q = grind (arith, ints)
less_step true true false p q = grind (arith, ints)
less_step true false true p q = grind (arith, ints)
less_step true false false p q = grind (arith, ints)
less_step false true true p q = grind (arith, ints)
less_step false true false p q = grind (arith, ints)
less_step false false true p q = grind (arith, ints)
less_step false false false p q = grind (arith, ints)

less_last : (x y c : Bool) → less_bits c (x ∷ []) (y ∷ []) ≡ int_lt (int_of (x ∷ [])) (int_of (y ∷ []) +ℤ bit_int c)
less_last true true true = refl
less_last true true false = refl
less_last true false true = refl
less_last true false false = refl
less_last false true true = refl
less_last false true false = refl
less_last false false true = refl
less_last false false false = refl

less_ints : (c : Bool) (xs ys : List Bool) → 0 < length xs → length xs ≡ length ys → less_bits c xs ys ≡ int_lt (int_of xs) (int_of ys +ℤ bit_int c)
less_ints c [] ys h e = absurd (omega arith)
less_ints c (x ∷ xs) [] h e = absurd (omega arith)
less_ints c (x ∷ []) (y ∷ []) h e = less_last x y c
less_ints c (x ∷ []) (y ∷ y' ∷ ys) h e = absurd (omega arith)
less_ints c (x ∷ x' ∷ xs) (y ∷ []) h e = absurd (omega arith)
less_ints c (x ∷ x' ∷ xs) (y ∷ y' ∷ ys) h e =
    less_ints (majority (not x) y c) (x' ∷ xs) (y' ∷ ys) (omega arith) (omega arith)
    ∙ less_step x y c (int_of (x' ∷ xs)) (int_of (y' ∷ ys))

less_more : (c x y : Bool) (xs ys : List Bool) → 0 < length xs → length xs ≡ length ys → less_bits c (x ∷ xs) (y ∷ ys) ≡ less_bits (majority (not x) y c) xs ys
less_more c x y [] ys h e = absurd (omega (arith, h))
less_more c x y (x' ∷ xs) [] h e = absurd (omega (arith, e))
less_more c x y (x' ∷ xs) (y' ∷ ys) h e = refl

-- the loop: what is compared, and what is left
abbrev pub Lesser : List ℤ → List ℤ → List ℤ → List ℤ → ℤ → Values → Type 0
Lesser a b left other so_far v = less_bits (lit_true v so_far) (bits v left) (bits v other) ≡ less_bits false (bits v a) (bits v b)

pub lesser_none : (s0 s1 : Cnf) (a b : List ℤ) (lit : ℤ) → IsGate s0 s1 1 lit (λ v. false) → Built s0 s1 1 (lit ∷ []) (Lesser a b a b lit)
lesser_none s0 s1 a b lit g = built_as g (omega arith) g.names (λ v p. ap (λ z. less_bits z (bits v a) (bits v b)) p)

pub lesser_step : (s0 s1 s2 : Cnf) (i m n : ℕ) (a b : List ℤ) (x y not_x : ℤ) (left other : List ℤ) (so_far next : ℤ)
    → Built s0 s1 i (so_far ∷ []) (Lesser a b (x ∷ left) (y ∷ other) so_far) → Names n x → not_x ≡ neg_ℤ x → 0 < length left → length left ≡ length other
    → IsGate s1 s2 1 next (λ v. majority (lit_true v not_x) (lit_true v y) (lit_true v so_far)) → i + 1 ≤ m
    → Built s0 s2 m (next ∷ []) (Lesser a b left other next)
lesser_step s0 s1 s2 i m n a b x y not_x left other so_far next h nx e l ll g le =
    built_both h g (omega (arith, le)) g.names
    (λ v p q. ap (λ z. less_bits z (bits v left) (bits v other))
    (q ∙ ap (λ z. majority z (lit_true v y) (lit_true v so_far)) (ap (lit_true v) e ∙ opposite_value n x v nx))
    ∙ sym (less_more (lit_true v so_far) (lit_true v x) (lit_true v y) (bits v left) (bits v other)
    (omega (arith, l, length-map left (lit_true v))) (omega (arith, ll, length-map left (lit_true v), length-map other (lit_true v))))
    ∙ p)

pub lesser_all : (s0 s1 s2 : Cnf) (i m n : ℕ) (a b : List ℤ) (x y not_y : ℤ) (so_far lit : ℤ)
    → Built s0 s1 i (so_far ∷ []) (Lesser a b (x ∷ []) (y ∷ []) so_far) → Names n y → not_y ≡ neg_ℤ y
    → IsGate s1 s2 1 lit (λ v. majority (lit_true v x) (lit_true v not_y) (lit_true v so_far)) → i + 1 ≤ m
    → IsGate s0 s2 m lit (λ v. less_bits false (bits v a) (bits v b))
lesser_all s0 s1 s2 i m n a b x y not_y so_far lit h ny e g le =
    built_both h g (omega (arith, le)) g.names
    (λ v p q. q ∙ ap (λ z. majority (lit_true v x) z (lit_true v so_far)) (ap (lit_true v) e ∙ opposite_value n y v ny) ∙ p)

plus_none : (z : ℤ) → z +ℤ pos 0 ≡ z
plus_none z = omega (arith, ints)

-- of words that were extended to one width
pub less_gate : (s0 s1 : Cnf) (m m' w : ℕ) (a b a' b' : List ℤ) (lit : ℤ) → 0 < length a → 0 < length b → length a ≤ w → length b ≤ w
    → a' ≡ padded (w - length a) a → b' ≡ padded (w - length b) b
    → IsGate s0 s1 m' lit (λ v. less_bits false (bits v a') (bits v b')) → m' ≤ m
    → IsGate s0 s1 m lit (λ v. int_lt (word_value v a) (word_value v b))
less_gate s0 s1 m m' w a b a' b' lit la lb wa wb ea eb g le = built_as g le g.names (λ v h.
    let j : ℕ = w - length a in
    let k : ℕ = w - length b in
    let p : length (padded j (bits v a)) ≡ length (bits v a) + j = length-padded j (bits v a) (omega (arith, la, length-map a (lit_true v))) in
    let q : length (padded k (bits v b)) ≡ length (bits v b) + k = length-padded k (bits v b) (omega (arith, lb, length-map b (lit_true v))) in
    h ∙ ap (λ l. less_bits false l (bits v b')) (ap (bits v) ea ∙ bits-padded v j a)
    ∙ ap (λ l. less_bits false (padded j (bits v a)) l) (ap (bits v) eb ∙ bits-padded v k b)
    ∙ less_ints false (padded j (bits v a)) (padded k (bits v b)) (omega (arith, la, p, length-map a (lit_true v))) (omega (arith, wa, wb, p, q, length-map a (lit_true v), length-map b (lit_true v)))
    ∙ ap (λ z. int_lt (int_of (padded j (bits v a))) z) (plus_none (int_of (padded k (bits v b))))
    ∙ ap (λ z. int_lt z (int_of (padded k (bits v b)))) (int_of-padded j (bits v a))
    ∙ ap (λ z. int_lt (word_value v a) z) (int_of-padded k (bits v b)))
