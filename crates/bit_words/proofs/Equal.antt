-- Equality of words.
use Rattle.std.proofs.Common.{ℤ, pos, ◌+ℤ◌, neg_ℤ, ℕ, Bool, true, false, not, ◌&&◌, ◌≡◌, ◌∙◌, sym, ap, refl, List, [], ◌∷◌, length, ◌+◌, ◌-◌, ◌≤◌, ◌<◌, arith}
use Rattle.std.proofs.lemmas.List.{length-map}
use Rattle.std.specs.Ordering.{int_eq}
use Rattle.std.specs.Bool.{Decides}
use Rattle.std.proofs.lemmas.Bool.Decides.{Decides-int_eq, same_from_decides}
use Rattle.std.proofs.lemmas.Int.{ints}
use Rattle.cnf_core.specs.Literals.{lit_true}
use Rattle.cnf_core.specs.declared.clauses.Cnf.{Cnf}
use Rattle.bit_words.specs.Builds.{Values, Built, IsGate, differ}
use Rattle.bit_words.specs.Words.{padded, equal_bits, bits, bit_int, word_value, int_of}
use Rattle.bit_words.proofs.Composed.{built_as, built_both, built_then, name_of}
use Rattle.bit_words.proofs.Numbers.{int_of-padded, length-padded}
use Rattle.bit_words.proofs.Lists.{bits-padded}
use Rattle.bit_words.proofs.Opposites.{opposite_value}

equal_step : (x y : Bool) (p q : ℤ) → Decides (not (differ x y) && int_eq p q) (bit_int x +ℤ (p +ℤ p) ≡ bit_int y +ℤ (q +ℤ q))
equal_step true true p q = (λ h. ap (λ z. pos 1 +ℤ (z +ℤ z)) ((Decides-int_eq p q).0 h), λ e. (Decides-int_eq p q).1 (omega (arith, e, ints)))
equal_step true false p q = (λ h. absurd (cc), λ e. absurd (omega (arith, e, ints)))
equal_step false true p q = (λ h. absurd (cc), λ e. absurd (omega (arith, e, ints)))
equal_step false false p q = (λ h. ap (λ z. pos 0 +ℤ (z +ℤ z)) ((Decides-int_eq p q).0 h), λ e. (Decides-int_eq p q).1 (omega (arith, e, ints)))

equal_last : (x y : Bool) → not (differ x y) ≡ int_eq (int_of (x ∷ [])) (int_of (y ∷ []))
equal_last true true = refl
equal_last true false = refl
equal_last false true = refl
equal_last false false = refl

and_assoc : (a b c : Bool) → ((a && b) && c) ≡ (a && (b && c))
and_assoc true b c = refl
and_assoc false b c = refl

equal_ints : (c : Bool) (xs ys : List Bool) → 0 < length xs → length xs ≡ length ys → equal_bits c xs ys ≡ (c && int_eq (int_of xs) (int_of ys))
equal_ints c [] ys h e = absurd (omega arith)
equal_ints c (x ∷ xs) [] h e = absurd (omega arith)
equal_ints c (x ∷ []) (y ∷ []) h e = ap (λ b. c && b) (equal_last x y)
equal_ints c (x ∷ []) (y ∷ y' ∷ ys) h e = absurd (omega arith)
equal_ints c (x ∷ x' ∷ xs) (y ∷ []) h e = absurd (omega arith)
equal_ints c (x ∷ x' ∷ xs) (y ∷ y' ∷ ys) h e =
    let p = int_of (x' ∷ xs) in
    let q = int_of (y' ∷ ys) in
    equal_ints (c && not (differ x y)) (x' ∷ xs) (y' ∷ ys) (omega arith) (omega arith)
    ∙ and_assoc c (not (differ x y)) (int_eq p q)
    ∙ ap (λ b. c && b) (same_from_decides (not (differ x y) && int_eq p q) (int_eq (bit_int x +ℤ (p +ℤ p)) (bit_int y +ℤ (q +ℤ q))) (equal_step x y p q) (Decides-int_eq _ _))

-- the loop: what is compared, and what is left
abbrev pub Agreeing : List ℤ → List ℤ → List ℤ → List ℤ → ℤ → Values → Type 0
Agreeing a b left other so_far v = equal_bits (lit_true v so_far) (bits v left) (bits v other) ≡ equal_bits true (bits v a) (bits v b)

pub agreeing_none : (s0 s1 : Cnf) (a b : List ℤ) (lit : ℤ) → IsGate s0 s1 1 lit (λ v. true) → Built s0 s1 1 (lit ∷ []) (Agreeing a b a b lit)
agreeing_none s0 s1 a b lit g = built_as g (omega arith) g.names (λ v p. ap (λ z. equal_bits z (bits v a) (bits v b)) p)

pub agreeing_step : (s0 s1 s2 s3 : Cnf) (i m : ℕ) (a b : List ℤ) (x y : ℤ) (left other : List ℤ) (so_far apart agree next : ℤ)
    → Built s0 s1 i (so_far ∷ []) (Agreeing a b (x ∷ left) (y ∷ other) so_far)
    → IsGate s1 s2 1 apart (λ v. differ (lit_true v x) (lit_true v y)) → agree ≡ neg_ℤ apart
    → IsGate s2 s3 1 next (λ v. lit_true v so_far && lit_true v agree) → i + 2 ≤ m
    → Built s0 s3 m (next ∷ []) (Agreeing a b left other next)
agreeing_step s0 s1 s2 s3 i m a b x y left other so_far apart agree next h g e k le =
    built_both (built_then h g) k (omega (arith, le)) k.names
    (λ v p q. ap (λ z. equal_bits z (bits v left) (bits v other))
    (q ∙ ap (λ z. lit_true v so_far && z) (ap (lit_true v) e ∙ opposite_value s2.variables apart v (name_of g) ∙ ap not p.1)) ∙ p.0)

pub agreeing_all : (s0 s1 : Cnf) (i m : ℕ) (a b left other : List ℤ) (lit : ℤ) → Built s0 s1 i (lit ∷ []) (Agreeing a b left other lit) → left ≡ [] → i ≤ m
    → IsGate s0 s1 m lit (λ v. equal_bits true (bits v a) (bits v b))
agreeing_all s0 s1 i m a b left other lit h none le =
    built_as h le h.names (λ v p. sym (ap (λ l. equal_bits (lit_true v lit) (bits v l) (bits v other)) none) ∙ p)

-- of words that were extended to one width
pub equal_gate : (s0 s1 : Cnf) (m m' w : ℕ) (a b a' b' : List ℤ) (lit : ℤ) → 0 < length a → 0 < length b → length a ≤ w → length b ≤ w
    → a' ≡ padded (w - length a) a → b' ≡ padded (w - length b) b
    → IsGate s0 s1 m' lit (λ v. equal_bits true (bits v a') (bits v b')) → m' ≤ m
    → IsGate s0 s1 m lit (λ v. int_eq (word_value v a) (word_value v b))
equal_gate s0 s1 m m' w a b a' b' lit la lb wa wb ea eb g le = built_as g le g.names (λ v h.
    let j : ℕ = w - length a in
    let k : ℕ = w - length b in
    let p : length (padded j (bits v a)) ≡ length (bits v a) + j = length-padded j (bits v a) (omega (arith, la, length-map a (lit_true v))) in
    let q : length (padded k (bits v b)) ≡ length (bits v b) + k = length-padded k (bits v b) (omega (arith, lb, length-map b (lit_true v))) in
    h ∙ ap (λ l. equal_bits true l (bits v b')) (ap (bits v) ea ∙ bits-padded v j a)
    ∙ ap (λ l. equal_bits true (padded j (bits v a)) l) (ap (bits v) eb ∙ bits-padded v k b)
    ∙ equal_ints true (padded j (bits v a)) (padded k (bits v b)) (omega (arith, la, p, length-map a (lit_true v))) (omega (arith, wa, wb, p, q, length-map a (lit_true v), length-map b (lit_true v)))
    ∙ ap (λ z. int_eq z (int_of (padded k (bits v b)))) (int_of-padded j (bits v a))
    ∙ ap (λ z. int_eq (word_value v a) z) (int_of-padded k (bits v b)))
