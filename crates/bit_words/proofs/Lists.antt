-- Words as lists of literals.
use Rattle.std.proofs.Common.{ℤ, neg_ℤ, ℕ, zero, suc, not, ◌≡◌, ◌∙◌, sym, ap, refl, List, [], ◌∷◌, ◌++◌, length, map, take, drop, replicate, get_or, ◌+◌, ◌-◌, ◌≤◌, ◌<◌, arith, subst, All, add-one, drop-cons}
use Rattle.std.proofs.lemmas.List.{length-map, length-take}
use Rattle.cnf_core.specs.Literals.{Names, lit_true}
use Rattle.bit_words.specs.Builds.{Values}
use Rattle.bit_words.specs.Words.{padded, bits, int_of, word_value, FitsIn}
use Rattle.bit_words.proofs.Within.{names_later}
use Rattle.bit_words.proofs.Composed.{named_more, named_none}
use Rattle.bit_words.proofs.Opposites.{opposite_names, opposite_value}
use Rattle.bit_words.proofs.Numbers.{int_of-take, int_of-padded, int_of-fits}

bits-replicate : (v : Values) (k : ℕ) (x : ℤ) → bits v (replicate k x) ≡ replicate k (lit_true v x)
bits-replicate v zero x = refl
bits-replicate v (suc k) x = ap (λ l. lit_true v x ∷ l) (bits-replicate v k x)

pub bits-padded : (v : Values) (k : ℕ) (w : List ℤ) → bits v (padded k w) ≡ padded k (bits v w)
bits-padded v k [] = refl
bits-padded v k (x ∷ []) = ap (λ l. lit_true v x ∷ l) (bits-replicate v k x)
bits-padded v k (x ∷ y ∷ ys) = ap (λ l. lit_true v x ∷ l) (bits-padded v k (y ∷ ys))

pub bits-take : (v : Values) (k : ℕ) (w : List ℤ) → bits v (take k w) ≡ take k (bits v w)
bits-take v zero w = refl
bits-take v (suc k) [] = refl
bits-take v (suc k) (x ∷ xs) = ap (λ l. lit_true v x ∷ l) (bits-take v k xs)

pub narrowed_value : (v : Values) (k : ℕ) (w : List ℤ) → 0 < k → k ≤ length w → FitsIn k (word_value v w) → word_value v (take k w) ≡ word_value v w
narrowed_value v zero w h le f = absurd (omega (arith, h))
narrowed_value v (suc k) w h le f = ap int_of (bits-take v (suc k) w) ∙ int_of-take k (bits v w) (omega (arith, le, length-map w (lit_true v))) f

pub narrowed_fits : (v : Values) (k : ℕ) (w : List ℤ) → k ≤ length w → FitsIn k (word_value v (take k w))
narrowed_fits v k w le =
    let P : ℕ → Type 0 = λ n. FitsIn n (word_value v (take k w)) in
    subst P (length-map (take k w) (lit_true v) ∙ length-take k w ∙ (omega (arith, le))) (int_of-fits (bits v (take k w)))

pub extended_value : (v : Values) (k : ℕ) (w : List ℤ) → word_value v (padded k w) ≡ word_value v w
extended_value v k w = ap int_of (bits-padded v k w) ∙ int_of-padded k (bits v w)

-- the next element
pub next_left : (a : List ℤ) (i : ℕ) (x : ℤ) → i < length a → x ≡ get_or a i x → drop i a ≡ x ∷ drop (i + 1) a
next_left a i x h e = drop-cons a i x h ∙ ap (λ z. z ∷ drop (suc i) a) (sym e) ∙ ap (λ n. x ∷ drop n a) (sym (add-one i))

pub padded_is : (k : ℕ) (xs : List ℤ) (x : ℤ) → 0 < length xs → x ≡ get_or xs (length xs - 1) x → xs ++ replicate k x ≡ padded k xs
padded_is k [] x h e = absurd (omega arith)
padded_is k (y ∷ []) x h e = ap (λ z. y ∷ replicate k z) e
padded_is k (y ∷ z ∷ zs) x h e = ap (λ l. y ∷ l) (padded_is k (z ∷ zs) x (omega arith) (e ∙ ap (λ n. get_or (y ∷ z ∷ zs) n x) (let f : suc (suc (length zs)) - 1 ≡ suc (length (z ∷ zs) - 1) = omega arith in f)))

pub name_at : (m n : ℕ) (a : List ℤ) (i : ℕ) (x : ℤ) → All (Names m) a → i < length a → x ≡ get_or a i x → m ≤ n → Names n x
name_at m n a i x h w e le = let P : ℤ → Type 0 = λ z. Names n z in subst P (sym e) (names_later m n (get_or a i x) (h i x w) le)

same_names : (n k : ℕ) (x : ℤ) → Names n x → All (Names n) (replicate k x)
same_names n zero x h = named_none n
same_names n (suc k) x h = named_more n x (replicate k x) h (same_names n k x h)

rest_names : (n : ℕ) (x : ℤ) (xs : List ℤ) → All (Names n) (x ∷ xs) → All (Names n) xs
rest_names n x xs a i d h = a (suc i) d (omega (arith, h))

pub padded_names : (n k : ℕ) (xs : List ℤ) → All (Names n) xs → All (Names n) (padded k xs)
padded_names n k [] a = a
padded_names n k (x ∷ []) a = named_more n x (replicate k x) (a 0 x (omega arith)) (same_names n k x (a 0 x (omega arith)))
padded_names n k (x ∷ y ∷ ys) a = named_more n x (padded k (y ∷ ys)) (a 0 x (omega arith)) (padded_names n k (y ∷ ys) (rest_names n x (y ∷ ys) a))

pub take_names : (n k : ℕ) (xs : List ℤ) → All (Names n) xs → All (Names n) (take k xs)
take_names n zero xs a = named_none n
take_names n (suc k) [] a = named_none n
take_names n (suc k) (x ∷ xs) a = named_more n x (take k xs) (a 0 x (omega arith)) (take_names n k xs (rest_names n x xs a))

pub opposites_names : (n : ℕ) (xs : List ℤ) → All (Names n) xs → All (Names n) (map neg_ℤ xs)
opposites_names n [] a = a
opposites_names n (x ∷ xs) a = named_more n (neg_ℤ x) (map neg_ℤ xs) (opposite_names n x (a 0 x (omega arith))) (opposites_names n xs (rest_names n x xs a))

pub bits-opposites : (v : Values) (n : ℕ) (xs : List ℤ) → All (Names n) xs → bits v (map neg_ℤ xs) ≡ map not (bits v xs)
bits-opposites v n [] a = refl
bits-opposites v n (x ∷ xs) a = rw (opposite_value n x v (a 0 x (omega arith)), bits-opposites v n xs (rest_names n x xs a)) refl

pub drop_names : (n k : ℕ) (xs : List ℤ) → All (Names n) xs → All (Names n) (drop k xs)
drop_names n zero xs a = a
drop_names n (suc k) [] a = a
drop_names n (suc k) (x ∷ xs) a = drop_names n k xs (rest_names n x xs a)
