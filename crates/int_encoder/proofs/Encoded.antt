-- Rows from words and literals.
use Rattle.std.proofs.Common.{ℕ, ℤ, Bool, ◌≡◌, ◌∙◌, sym, ap, refl, subst, arith, ◌<◌, ◌≤◌, ◌+◌, ◌-◌, ◌*◌, max, int_le, List, [], ◌∷◌, length, get_or, All}
use Rattle.std.specs.Ordering.{int_eq}
use Rattle.std.proofs.lemmas.Bool.Decides.{Decides-int_eq, same_from_decides}
use Rattle.std.proofs.lemmas.Int.{ints}
use Rattle.std.proofs.Math.Nat.{mul-le-mul}
use Rattle.int_encoder.proofs.Orders.{le_decides, and_left, and_right}
use Rattle.cnf_core.specs.declared.clauses.Cnf.{Cnf}
use Rattle.js_values.specs.Numbers.{same}
use Rattle.bit_words.specs.Builds.{IsGate}
use Rattle.bit_words.specs.Words.{IsWord, word_value}
use Rattle.bit_words.proofs.Composed.{built_as}
use Rattle.int_encoder.specs.declared.op.IntOp.{IntOp}
use Rattle.int_encoder.specs.declared.op.IntBits.TheVariants as made
use Rattle.int_encoder.specs.Rows.{whole, truth, IsPart, IsRow, int_value, row_value, part_values, own_cost, widest}

pub two_of : (parts : List (List ℤ)) (a b : List ℤ) → length parts ≡ 2 → a ≡ get_or parts 0 a → b ≡ get_or parts (length parts - 1) b → parts ≡ a ∷ b ∷ []
two_of [] a b l ea eb = absurd (omega (arith, l))
two_of (x ∷ []) a b l ea eb = absurd (omega (arith, l))
two_of (x ∷ y ∷ []) a b l ea eb = ap (λ u. u ∷ y ∷ []) (sym ea) ∙ ap (λ u. a ∷ u ∷ []) (sym eb)
two_of (x ∷ y ∷ z ∷ zs) a b l ea eb = absurd (omega (arith, l))

pub one_of : (parts : List (List ℤ)) (a : List ℤ) → length parts ≡ 1 → a ≡ get_or parts 0 a → parts ≡ a ∷ []
one_of [] a l ea = absurd (omega (arith, l))
one_of (x ∷ []) a l ea = ap (λ u. u ∷ []) (sym ea)
one_of (x ∷ y ∷ ys) a l ea = absurd (omega (arith, l))

pub part_at : (n i : ℕ) (parts : List (List ℤ)) (a : List ℤ) → All (IsPart n) parts → i < length parts → a ≡ get_or parts i a → IsPart n a
part_at n i parts a h w e = let P : List ℤ → Type 0 = λ u. IsPart n u in subst P (sym e) (h i a w)

pub word_row : (s0 s1 : Cnf) (m : ℕ) (o : IntOp) (parts : List (List ℤ)) (a b word : List ℤ) (f : ℤ → ℤ → ℤ) → parts ≡ a ∷ b ∷ []
    → ((p q : ℤ) → whole (f p q) ≡ int_value o p q) → IsWord s0 s1 m word (λ v. f (word_value v a) (word_value v b))
    → m ≤ own_cost o (widest (a ∷ b ∷ [])) → IsRow s0 s1 o parts (made.Int word)
word_row s0 s1 m o parts a b word f e same_value g le =
    built_as g.built (let P : List (List ℤ) → Type 0 = λ l. m ≤ own_cost o (widest l) in subst P (sym e) le) g.built.names
    (λ v p. ap whole p ∙ same_value (word_value v a) (word_value v b) ∙ sym (ap (λ l. row_value o (part_values v l)) e))

pub flag_row : (s0 s1 : Cnf) (m : ℕ) (o : IntOp) (parts : List (List ℤ)) (a b : List ℤ) (lit : ℤ) (f : ℤ → ℤ → Bool) → parts ≡ a ∷ b ∷ []
    → ((p q : ℤ) → truth (f p q) ≡ int_value o p q) → IsGate s0 s1 m lit (λ v. f (word_value v a) (word_value v b))
    → m ≤ own_cost o (widest (a ∷ b ∷ [])) → IsRow s0 s1 o parts (made.Flag lit)
flag_row s0 s1 m o parts a b lit f e same_value g le =
    built_as g (let P : List (List ℤ) → Type 0 = λ l. m ≤ own_cost o (widest l) in subst P (sym e) le) g.names
    (λ v p. ap truth p ∙ same_value (word_value v a) (word_value v b) ∙ sym (ap (λ l. row_value o (part_values v l)) e))

pub word_row_one : (s0 s1 : Cnf) (m : ℕ) (o : IntOp) (parts : List (List ℤ)) (a word : List ℤ) (f : ℤ → ℤ) → parts ≡ a ∷ []
    → ((p : ℤ) → whole (f p) ≡ int_value o p p) → IsWord s0 s1 m word (λ v. f (word_value v a))
    → m ≤ own_cost o (widest (a ∷ [])) → IsRow s0 s1 o parts (made.Int word)
word_row_one s0 s1 m o parts a word f e same_value g le =
    built_as g.built (let P : List (List ℤ) → Type 0 = λ l. m ≤ own_cost o (widest l) in subst P (sym e) le) g.built.names
    (λ v p. ap whole p ∙ same_value (word_value v a) ∙ sym (ap (λ l. row_value o (part_values v l)) e))

pub flag_row_one : (s0 s1 : Cnf) (m : ℕ) (o : IntOp) (parts : List (List ℤ)) (a : List ℤ) (lit : ℤ) (f : ℤ → Bool) → parts ≡ a ∷ []
    → ((p : ℤ) → truth (f p) ≡ int_value o p p) → IsGate s0 s1 m lit (λ v. f (word_value v a))
    → m ≤ own_cost o (widest (a ∷ [])) → IsRow s0 s1 o parts (made.Flag lit)
flag_row_one s0 s1 m o parts a lit f e same_value g le =
    built_as g (let P : List (List ℤ) → Type 0 = λ l. m ≤ own_cost o (widest l) in subst P (sym e) le) g.names
    (λ v p. ap truth p ∙ same_value (word_value v a) ∙ sym (ap (λ l. row_value o (part_values v l)) e))

pub eq_same : (m n : ℤ) → int_eq m n ≡ same m n
eq_same m n = same_from_decides (int_eq m n) (same m n) (Decides-int_eq m n) (
  (λ h. omega (arith, ints, (le_decides m n).0 (and_left _ _ h), (le_decides n m).0 (and_right (int_le m n) _ h))),
  (λ e. rw ((le_decides m n).1 (omega (arith, ints, e)), (le_decides n m).1 (omega (arith, ints, e))) refl),
)

square : (a b w : ℕ) → a ≤ w → b ≤ w → a * b ≤ w * w
square a b w h k = mul-le-mul h k

pub cost_mul : (a b : ℕ) → 0 < a → 0 < b → b * (4 * a + 3) + 1 ≤ 32 * (max a (max b 0) * max a (max b 0))
cost_mul a b ha hb =
    let w : ℕ = max a (max b 0) in
    omega (arith, ha, hb, square b a w (omega arith) (omega arith), square 1 w w (omega (arith, ha)) (omega arith), square 1 b w (omega (arith, ha)) (omega arith), square 1 1 w (omega (arith, ha)) (omega (arith, ha)))

pub cost_quot : (a b : ℕ) → 0 < a → 0 < b → a * (4 * b + 12) + 9 * a + 6 * b + 21 ≤ 64 * (max a (max b 0) * max a (max b 0))
cost_quot a b ha hb =
    let w : ℕ = max a (max b 0) in
    omega (arith, ha, hb, square a b w (omega arith) (omega arith), square 1 a w (omega (arith, ha)) (omega arith), square 1 b w (omega (arith, ha)) (omega arith), square 1 1 w (omega (arith, ha)) (omega (arith, ha)))

pub cost_rest : (a b : ℕ) → 0 < a → 0 < b → a * (4 * b + 12) + 4 * a + 11 * b + 20 ≤ 64 * (max a (max b 0) * max a (max b 0))
cost_rest a b ha hb =
    let w : ℕ = max a (max b 0) in
    omega (arith, ha, hb, square a b w (omega arith) (omega arith), square 1 a w (omega (arith, ha)) (omega arith), square 1 b w (omega (arith, ha)) (omega arith), square 1 1 w (omega (arith, ha)) (omega (arith, ha)))
