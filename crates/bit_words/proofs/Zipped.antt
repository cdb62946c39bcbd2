-- Words bit by bit.
use Rattle.std.proofs.Common.{ℤ, ℕ, Bool, true, false, if◌then◌else◌, ◌≡◌, ◌∙◌, sym, ap, refl, List, [], ◌∷◌, ◌++◌, length, ◌+◌, ◌-◌, ◌≤◌, ◌<◌, arith, subst, append_assoc, append-nil}
use Rattle.std.proofs.lemmas.List.{map-append, length-map}
use Rattle.std.proofs.lemmas.List.Elements.{All-append}
use Rattle.cnf_core.specs.Literals.{Names, lit_true}
use Rattle.cnf_core.specs.declared.clauses.Cnf.{Cnf}
use Rattle.bit_words.specs.Builds.{Values, Built, IsGate}
use Rattle.bit_words.specs.declared.joining.BitGate.{BitGate}
use Rattle.bit_words.specs.declared.joining.BitGate.TheVariants as gate
use Rattle.bit_words.specs.Joins.{IsNamed}
use Rattle.bit_words.specs.Words.{IsWord, padded, bits, word_value, int_of, zip_bits}
use Rattle.bit_words.proofs.Within.{all_later, names_later}
use Rattle.bit_words.proofs.Composed.{built_none, built_as, built_both, named_none}
use Rattle.bit_words.proofs.Numbers.{int_of-padded, length-padded}
use Rattle.bit_words.proofs.Lists.{bits-padded}

-- the loop: what is joined, and what is left
abbrev pub Zipping : (Values → Bool → Bool → Bool) → List ℤ → List ℤ → List ℤ → List ℤ → List ℤ → Values → Type 0
Zipping f a b left other out v = bits v out ++ zip_bits (f v) (bits v left) (bits v other) ≡ zip_bits (f v) (bits v a) (bits v b)

pub zipping_none : (s : Cnf) (f : Values → Bool → Bool → Bool) (a b out : List ℤ) → out ≡ [] → Built s s 0 out (Zipping f a b a b out)
zipping_none s f a b out e =
    let P : List ℤ → Type 0 = λ l. Built s s 0 l (Zipping f a b a b l) in
    subst P (sym e) (built_none s [] (Zipping f a b a b []) (named_none s.variables) (λ v. refl))

zipping_next : (v : Values) (f : Values → Bool → Bool → Bool) (a b : List ℤ) (x y : ℤ) (left other out : List ℤ) (bit : ℤ)
    → Zipping f a b (x ∷ left) (y ∷ other) out v → lit_true v bit ≡ f v (lit_true v x) (lit_true v y) → Zipping f a b left other (out ++ bit ∷ []) v
zipping_next v f a b x y left other out bit p q =
    ap (λ l. l ++ zip_bits (f v) (bits v left) (bits v other)) (map-append (lit_true v) out (bit ∷ []))
    ∙ append_assoc (bits v out) (lit_true v bit ∷ []) (zip_bits (f v) (bits v left) (bits v other))
    ∙ ap (λ z. bits v out ++ z ∷ zip_bits (f v) (bits v left) (bits v other)) q
    ∙ p

pub zipping_step : (s0 s1 s2 : Cnf) (i m : ℕ) (f : Values → Bool → Bool → Bool) (a b : List ℤ) (x y : ℤ) (left other out : List ℤ) (bit : ℤ)
    → Built s0 s1 i out (Zipping f a b (x ∷ left) (y ∷ other) out) → IsGate s1 s2 1 bit (λ v. f v (lit_true v x) (lit_true v y)) → i + 1 ≤ m
    → Built s0 s2 m (out ++ bit ∷ []) (Zipping f a b left other (out ++ bit ∷ []))
zipping_step s0 s1 s2 i m f a b x y left other out bit h g le =
    built_both h g le (All-append (Names s2.variables) out (bit ∷ []) (all_later s1.variables s2.variables out h.names g.variables) g.names)
    (λ v p q. zipping_next v f a b x y left other out bit p q)

pub zipping_all : (s0 s1 : Cnf) (i m : ℕ) (f : Values → Bool → Bool → Bool) (a b left other out : List ℤ) → Built s0 s1 i out (Zipping f a b left other out) → left ≡ [] → i ≤ m
    → Built s0 s1 m out (λ v. bits v out ≡ zip_bits (f v) (bits v a) (bits v b))
zipping_all s0 s1 i m f a b left other out h e le =
    built_as h le h.names (λ v p. sym (append-nil (bits v out)) ∙ sym (ap (λ z. bits v out ++ zip_bits (f v) (bits v z) (bits v other)) e) ∙ p)

zip_first : (xs ys : List Bool) → length xs ≡ length ys → zip_bits (λ x y. x) xs ys ≡ xs
zip_first [] ys e = refl
zip_first (x ∷ xs) [] e = absurd (omega (arith, e))
zip_first (x ∷ xs) (y ∷ ys) e = ap (λ l. x ∷ l) (zip_first xs ys (omega (arith, e)))

zip_second : (xs ys : List Bool) → length xs ≡ length ys → zip_bits (λ x y. y) xs ys ≡ ys
zip_second [] [] e = refl
zip_second [] (y ∷ ys) e = absurd (omega (arith, e))
zip_second (x ∷ xs) [] e = absurd (omega (arith, e))
zip_second (x ∷ xs) (y ∷ ys) e = ap (λ l. y ∷ l) (zip_second xs ys (omega (arith, e)))

zip_choice : (c : Bool) (xs ys : List Bool) → length xs ≡ length ys → zip_bits (λ x y. if c then x else y) xs ys ≡ (if c then xs else ys)
zip_choice true xs ys e = zip_first xs ys e
zip_choice false xs ys e = zip_second xs ys e

chosen_int : (c : Bool) (xs ys : List Bool) (p q : ℤ) → int_of xs ≡ p → int_of ys ≡ q → int_of (if c then xs else ys) ≡ (if c then p else q)
chosen_int true xs ys p q e f = e
chosen_int false xs ys p q e f = f

-- a choice between words that were extended to one width
pub choice_word : (s0 s1 : Cnf) (m m' w : ℕ) (c : ℤ) (a b a' b' out : List ℤ) → 0 < length a → 0 < length b → length a ≤ w → length b ≤ w
    → a' ≡ padded (w - length a) a → b' ≡ padded (w - length b) b
    → Built s0 s1 m' out (λ v. bits v out ≡ zip_bits (λ x y. if lit_true v c then x else y) (bits v a') (bits v b')) → m' ≤ m → length out ≡ length a'
    → IsWord s0 s1 m out (λ v. if lit_true v c then word_value v a else word_value v b)
choice_word s0 s1 m m' w c a b a' b' out la lb wa wb ea eb g le lo =
    let j : ℕ = w - length a in
    let k : ℕ = w - length b in
    let l : length a' ≡ length a + j = ap length ea ∙ length-padded j a la in
    let l' : length b' ≡ length b + k = ap length eb ∙ length-padded k b lb in
    record {
      some = omega (arith, la, l, lo);
      built = built_as g le g.names (λ v p.
          ap int_of (p ∙ zip_choice (lit_true v c) (bits v a') (bits v b') (omega (arith, wa, wb, l, l', length-map a' (lit_true v), length-map b' (lit_true v))))
          ∙ chosen_int (lit_true v c) (bits v a') (bits v b') (word_value v a) (word_value v b)
          (ap (word_value v) ea ∙ ap int_of (bits-padded v j a) ∙ int_of-padded j (bits v a))
          (ap (word_value v) eb ∙ ap int_of (bits-padded v k b) ∙ int_of-padded k (bits v b)));
    }

pub named_later : (m n : ℕ) (g : BitGate) → IsNamed m g → m ≤ n → IsNamed n g
named_later m n gate.And h le = tt
named_later m n gate.Or h le = tt
named_later m n gate.Xor h le = tt
named_later m n (gate.Choose c) h le = names_later m n c h le
