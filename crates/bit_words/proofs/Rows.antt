-- Products of words, row by row.
use Rattle.std.proofs.Common.{ℕ, zero, suc, ℤ, pos, negsuc, ◌+ℤ◌, ◌-ℤ◌, ◌*ℤ◌, neg_ℤ, Bool, true, false, ◌&&◌, if◌then◌else◌, ◌≡◌, ◌∙◌, sym, ap, refl, subst, arith, List, [], ◌∷◌, ◌++◌, length, drop, replicate, get_or, ◌<◌, ◌≤◌, ◌+◌, ◌-◌, ◌*◌, All}
use Rattle.std.proofs.lemmas.Int.{ints}
use Rattle.std.proofs.lemmas.List.{length-append, map-append, length-map}
use Rattle.std.proofs.Math.IntN.{*ℤ-zero, zero-*ℤ, *ℤ-negsuc, suc_ℤ-*ℤ, *ℤ_comm}
use Rattle.std.proofs.Math.Nat.{add-mul, one-mul}
use Rattle.std.proofs.lemmas.List.Elements.{All-append}
use Rattle.bit_words.proofs.Within.{all_later}
use Rattle.cnf_core.specs.Literals.{Names, lit_true}
use Rattle.cnf_core.specs.declared.clauses.Cnf.{Cnf}
use Rattle.bit_words.specs.Builds.{Values, Built}
use Rattle.bit_words.specs.Words.{IsWord, bit_int, int_of, bits, word_value, padded, zip_bits}
use Rattle.bit_words.specs.LongDivision.{above}
use Rattle.bit_words.proofs.Numbers.{int_of-more, int_of-padded}
use Rattle.bit_words.proofs.Lists.{bits-padded}
use Rattle.bit_words.proofs.Composed.{built_as, built_both, built_then, named_none}

pub one_more : (m : ℤ) (n : ℕ) → m *ℤ pos (suc n) ≡ (m *ℤ pos n) +ℤ m
one_more m n = *ℤ_comm m (pos (suc n)) ∙ suc_ℤ-*ℤ (pos n) m ∙ ap (λ z. z +ℤ m) (*ℤ_comm (pos n) m)

dist_pos : (p q : ℤ) (n : ℕ) → (p +ℤ q) *ℤ pos n ≡ (p *ℤ pos n) +ℤ (q *ℤ pos n)
dist_pos p q zero = *ℤ-zero (p +ℤ q) ∙ sym (ap (λ z. z +ℤ (q *ℤ pos zero)) (*ℤ-zero p) ∙ ap (λ z. pos 0 +ℤ z) (*ℤ-zero q))
dist_pos p q (suc n) = omega (arith, ints, one_more (p +ℤ q) n, one_more p n, one_more q n, dist_pos p q n)

pub dist : (p q b : ℤ) → (p +ℤ q) *ℤ b ≡ (p *ℤ b) +ℤ (q *ℤ b)
dist p q (pos n) = dist_pos p q n
dist p q (negsuc n) = omega (arith, ints, *ℤ-negsuc (p +ℤ q) n, *ℤ-negsuc p n, *ℤ-negsuc q n, dist_pos p q (suc n))

pub mul_step : (x : Bool) (p b : ℤ) → (bit_int x +ℤ (p +ℤ p)) *ℤ b ≡ (if x then b else pos 0) +ℤ ((p *ℤ b) +ℤ (p *ℤ b))
mul_step true p b = omega (arith, ints, dist (pos 1) (p +ℤ p) b, dist p p b, *ℤ_comm (pos 1) b, one_more b 0, *ℤ-zero b)
mul_step false p b = omega (arith, ints, dist (pos 0) (p +ℤ p) b, dist p p b, zero-*ℤ b)

mul_last : (x : Bool) (b : ℤ) → neg_ℤ (bit_int x) *ℤ b ≡ pos 0 -ℤ (if x then b else pos 0)
mul_last true b = *ℤ_comm (negsuc 0) b ∙ *ℤ-negsuc b 0 ∙ (omega (arith, ints, one_more b 0, *ℤ-zero b))
mul_last false b = zero-*ℤ b

above-append : (xs : List Bool) (x : Bool) (z : ℤ) → above (xs ++ x ∷ []) z ≡ above xs (bit_int x +ℤ (z +ℤ z))
above-append [] x z = refl
above-append (y ∷ ys) x z = ap (λ u. bit_int y +ℤ (u +ℤ u)) (above-append ys x z)

pub int_of-above : (xs ys : List Bool) → 0 < length ys → int_of (xs ++ ys) ≡ above xs (int_of ys)
int_of-above [] ys h = refl
int_of-above (x ∷ xs) ys h = int_of-more x (xs ++ ys) (omega (arith, h, length-append xs ys)) ∙ ap (λ u. bit_int x +ℤ (u +ℤ u)) (int_of-above xs ys h)

-- a word by its first bit and the others
pub word_parts : (v : Values) (w : List ℤ) (x : ℤ) → 1 < length w → x ≡ get_or w 0 x → word_value v w ≡ bit_int (lit_true v x) +ℤ (word_value v (drop 1 w) +ℤ word_value v (drop 1 w))
word_parts v [] x h e = absurd (omega (arith, h))
word_parts v (y ∷ []) x h e = absurd (omega (arith, h))
word_parts v (y ∷ z ∷ zs) x h e = ap (λ u. bit_int (lit_true v u) +ℤ (word_value v (z ∷ zs) +ℤ word_value v (z ∷ zs))) (sym e)

-- the product, where these bits are done and these of the second word are left
abbrev pub Rowing : List ℤ → List ℤ → List ℤ → List ℤ → List ℤ → Values → Type 0
Rowing a b done rows left v = above (bits v done) (word_value v rows +ℤ (int_of (bits v left) *ℤ word_value v a)) ≡ word_value v b *ℤ word_value v a

adding_none : (z : ℤ) → pos 0 +ℤ z ≡ z
adding_none z = omega (arith, ints)

pub rowing_none : (v : Values) (a b done rows : List ℤ) → done ≡ [] → word_value v rows ≡ pos 0 → Rowing a b done rows b v
rowing_none v a b done rows e f =
    ap (λ l. above (bits v l) (word_value v rows +ℤ (word_value v b *ℤ word_value v a))) e
    ∙ ap (λ z. z +ℤ (word_value v b *ℤ word_value v a)) f ∙ adding_none (word_value v b *ℤ word_value v a)

regroup : (r s q u w : ℤ) → (r +ℤ w) ≡ s +ℤ (u +ℤ u) → s +ℤ ((u +ℤ q) +ℤ (u +ℤ q)) ≡ r +ℤ (w +ℤ (q +ℤ q))
regroup r s q u w e = omega (arith, ints, e)

no_carry : (z : ℤ) → z +ℤ pos 0 ≡ z
no_carry z = omega (arith, ints)

pub no_borrow : (z : ℤ) → z -ℤ pos 0 ≡ z
no_borrow z = omega (arith, ints)

take_last : (r c : ℤ) → r -ℤ c ≡ r +ℤ (pos 0 -ℤ c)
take_last r c = omega (arith, ints)

-- one row is added, and its lowest bit is done
pub rowing_next : (v : Values) (a b done rows row sum next left : List ℤ) (x low never : ℤ) → Rowing a b done rows (x ∷ left) v → 0 < length left
    → word_value v row ≡ (if lit_true v x then word_value v a else pos 0)
    → word_value v sum ≡ (word_value v rows +ℤ word_value v row) +ℤ bit_int (lit_true v never) → lit_true v never ≡ false
    → 1 < length sum → low ≡ get_or sum 0 low → next ≡ drop 1 sum
    → Rowing a b (done ++ low ∷ []) next left v
rowing_next v a b done rows row sum next left x low never i some r s n ls el en =
    let p = int_of (bits v left) in
    let m = word_value v a in
    let c : ℤ = if lit_true v x then m else pos 0 in
    let parts : word_value v sum ≡ bit_int (lit_true v low) +ℤ (word_value v next +ℤ word_value v next) =
    word_parts v sum low ls el ∙ ap (λ w. bit_int (lit_true v low) +ℤ (word_value v w +ℤ word_value v w)) (sym en) in
    let total : word_value v rows +ℤ c ≡ bit_int (lit_true v low) +ℤ (word_value v next +ℤ word_value v next) =
    sym (s ∙ ap (λ z. (word_value v rows +ℤ z) +ℤ bit_int (lit_true v never)) r ∙ ap (λ z. (word_value v rows +ℤ c) +ℤ bit_int z) n ∙ no_carry (word_value v rows +ℤ c)) ∙ parts in
    let whole : int_of (bits v (x ∷ left)) *ℤ m ≡ c +ℤ ((p *ℤ m) +ℤ (p *ℤ m)) =
    ap (λ z. z *ℤ m) (int_of-more (lit_true v x) (bits v left) (omega (arith, some, length-map left (lit_true v)))) ∙ mul_step (lit_true v x) p m in
    ap (λ l. above l (word_value v next +ℤ (p *ℤ m))) (map-append (lit_true v) done (low ∷ []))
    ∙ above-append (bits v done) (lit_true v low) (word_value v next +ℤ (p *ℤ m))
    ∙ ap (above (bits v done)) (regroup (word_value v rows) (bit_int (lit_true v low)) (p *ℤ m) (word_value v next) c total ∙ ap (λ z. word_value v rows +ℤ z) (sym whole))
    ∙ i

-- the last row is taken away
pub rowing_all : (v : Values) (a b done rows row rest : List ℤ) (x never : ℤ) → Rowing a b done rows (x ∷ []) v
    → word_value v row ≡ (if lit_true v x then word_value v a else pos 0)
    → word_value v rest ≡ (word_value v rows -ℤ word_value v row) -ℤ bit_int (lit_true v never) → lit_true v never ≡ false
    → 0 < length rest → word_value v (done ++ rest) ≡ word_value v a *ℤ word_value v b
rowing_all v a b done rows row rest x never i r s n some =
    let m = word_value v a in
    let c : ℤ = if lit_true v x then m else pos 0 in
    let total : word_value v rest ≡ word_value v rows -ℤ c =
    s ∙ ap (λ z. (word_value v rows -ℤ z) -ℤ bit_int (lit_true v never)) r ∙ ap (λ z. (word_value v rows -ℤ c) -ℤ bit_int z) n ∙ no_borrow (word_value v rows -ℤ c) in
    ap int_of (map-append (lit_true v) done rest) ∙ int_of-above (bits v done) (bits v rest) (omega (arith, some, length-map rest (lit_true v)))
    ∙ ap (above (bits v done)) (total ∙ take_last (word_value v rows) c ∙ ap (λ z. word_value v rows +ℤ z) (sym (mul_last (lit_true v x) m)))
    ∙ i ∙ *ℤ_comm (word_value v b) m

zip_mask : (xs : List Bool) (k : ℕ) (c : Bool) → length xs ≤ k → zip_bits (λ x y. x && y) xs (replicate k c) ≡ (if c then xs else replicate (length xs) false)
zip_mask [] k true h = refl
zip_mask [] k false h = refl
zip_mask (x ∷ xs) zero c h = absurd (omega (arith, h))
zip_mask (true ∷ xs) (suc k) true h = ap (λ l. true ∷ l) (zip_mask xs k true (omega (arith, h)))
zip_mask (false ∷ xs) (suc k) true h = ap (λ l. false ∷ l) (zip_mask xs k true (omega (arith, h)))
zip_mask (true ∷ xs) (suc k) false h = ap (λ l. false ∷ l) (zip_mask xs k false (omega (arith, h)))
zip_mask (false ∷ xs) (suc k) false h = ap (λ l. false ∷ l) (zip_mask xs k false (omega (arith, h)))

int_of-none : (k : ℕ) → int_of (replicate k false) ≡ pos 0
int_of-none zero = refl
int_of-none (suc k) = int_of-padded k (false ∷ [])

masked_int : (xs : List Bool) (k : ℕ) (c : Bool) → length xs ≤ k → int_of (zip_bits (λ x y. x && y) xs (replicate k c)) ≡ (if c then int_of xs else pos 0)
masked_int xs k true h = ap int_of (zip_mask xs k true h)
masked_int xs k false h = ap int_of (zip_mask xs k false h) ∙ int_of-none (length xs)

-- a word whose bits were masked
pub masked_word : (s0 s1 : Cnf) (m m' w : ℕ) (a mask out : List ℤ) (keep : ℤ) → 0 < length a → w ≡ length a → mask ≡ padded (w - 1) (keep ∷ [])
    → Built s0 s1 m' out (λ v. bits v out ≡ zip_bits (λ x y. x && y) (bits v a) (bits v mask)) → m' ≤ m → length out ≡ length a
    → IsWord s0 s1 m out (λ v. if lit_true v keep then word_value v a else pos 0)
masked_word s0 s1 m m' w a mask out keep la ew em g le lo = record {
  some = omega (arith, la, lo);
  built = built_as g le g.names (λ v p.
      let k : ℕ = w - 1 in
      ap int_of (p ∙ ap (λ l. zip_bits (λ x y. x && y) (bits v a) l) (ap (bits v) em ∙ bits-padded v k (keep ∷ [])))
      ∙ masked_int (bits v a) (suc k) (lit_true v keep) (omega (arith, la, ew, length-map a (lit_true v))));
}

-- a word of copies of a literal that never holds
pub none_word : (v : Values) (k : ℕ) (word : List ℤ) (never : ℤ) → word ≡ padded k (never ∷ []) → lit_true v never ≡ false → word_value v word ≡ pos 0
none_word v k word never ew h =
    ap (word_value v) ew ∙ ap int_of (bits-padded v k (never ∷ [])) ∙ int_of-padded k (lit_true v never ∷ []) ∙ ap (λ b. neg_ℤ (bit_int b)) h

pub mul_next : (i k : ℕ) → (i + 1) * k ≡ i * k + k
mul_next i k = add-mul i 1 k ∙ ap (λ z. i * k + z) (one-mul k)

pub mul_more : (i n k : ℕ) → i < n → i * k + k ≤ n * k
mul_more i n k h =
    let e : n ≡ (i + 1) + (n - (i + 1)) = omega (arith, h) in
    omega (arith, ap (λ z. z * k) e, add-mul (i + 1) (n - (i + 1)) k, mul_next i k)

pub rows_step : (s0 s1 s2 s3 : Cnf) (i m n : ℕ) (a b done rows row sum next left : List ℤ) (x low never : ℤ)
    → Built s0 s1 i [] (λ v. (lit_true v never ≡ false) × Rowing a b done rows (x ∷ left) v)
    → IsWord s1 s2 (length a) row (λ v. if lit_true v x then word_value v a else pos 0)
    → IsWord s2 s3 n sum (λ v. (word_value v rows +ℤ word_value v row) +ℤ bit_int (lit_true v never))
    → 0 < length left → 1 < length sum → low ≡ get_or sum 0 low → next ≡ drop 1 sum → i + (length a + n) ≤ m
    → Built s0 s3 m [] (λ v. (lit_true v never ≡ false) × Rowing a b (done ++ low ∷ []) next left v)
rows_step s0 s1 s2 s3 i m n a b done rows row sum next left x low never g r s some ls el en le =
    built_both (built_then g r.built) s.built (omega (arith, le)) (named_none s3.variables)
    (λ v p q. (p.0.0, rowing_next v a b done rows row sum next left x low never p.0.1 some p.1 q p.0.0 ls el en))

pub rows_all : (s0 s1 s2 s3 : Cnf) (i m n : ℕ) (a b done rows row rest out : List ℤ) (x never : ℤ)
    → Built s0 s1 i [] (λ v. (lit_true v never ≡ false) × Rowing a b done rows (x ∷ []) v)
    → IsWord s1 s2 (length a) row (λ v. if lit_true v x then word_value v a else pos 0)
    → IsWord s2 s3 n rest (λ v. (word_value v rows -ℤ word_value v row) -ℤ bit_int (lit_true v never))
    → i + (length a + n) ≤ m → All (Names s1.variables) done → out ≡ done ++ rest
    → IsWord s0 s3 m out (λ v. word_value v a *ℤ word_value v b)
rows_all s0 s1 s2 s3 i m n a b done rows row rest out x never g r s le names eo = record {
  some = omega (arith, ap length eo, length-append done rest, s.some);
  built = built_both (built_then g r.built) s.built (omega (arith, le))
      (let P : List ℤ → Type 0 = λ l. All (Names s3.variables) l in
      subst P (sym eo) (All-append (Names s3.variables) done rest (all_later s1.variables s3.variables done names (omega (arith, r.built.variables, s.built.variables))) s.built.names))
      (λ v p q. ap (word_value v) eo ∙ rowing_all v a b done rows row rest x never p.0.1 p.1 q p.0.0 s.some);
}
