-- How many inputs there are, counted name by name.
use Rattle.std.proofs.Common.{◌≡◌, ◌*◌, ◌+◌, ◌-◌, ◌^◌, ◌≤◌, ◌<◌, ℕ, zero, suc, ℤ, pos, negsuc, ◌+ℤ◌, ◌-ℤ◌, min, List, [], ◌∷◌, length, map, inl, inr, refl, sym, ap, ◌∙◌, arith}
use Rattle.std.specs.Prelude.{◌≤ℤ◌, ◌⊎◌}
use Rattle.std.proofs.lemmas.Bool.{cases_lt}
use native.Mathlib.Numerals.{unary_clauses}
use Rattle.std.proofs.Math.Nat.{suc-mul, mul-one, one-mul, mul_assoc, mul_comm, pow-succ', le-mul_of_pos_right}
use Rattle.std.proofs.lemmas.Int.{ints}
use Rattle.std.proofs.lemmas.List.{length-append, length-map}
use Rattle.path_core.specs.declared.bounds.Kind.TheVariants as kinds
use Rattle.path_core.specs.declared.bounds.Declared.{Declared}
use Rattle.path_core.specs.declared.path.InputValue.TheVariants as values
use Rattle.std.specs.List.{flat_map}
use Rattle.path_core.specs.Inputs.{ints_from, to_count, values_of, within, texts_of, lengths_from}
use Rattle.path_core.proofs.Places.{spread}

abbrev pub most : ℕ
most = 340282366920938463463374607431768211455

-- the product of the counts of values and a number, at most the greatest
abbrev pub product_from : ℕ → List Declared → ℕ
product_from total [] = total
product_from total (d ∷ ds) = product_from (min (total * min (length (values_of d.kind)) most) most) ds

length-spread : {A : Type 0} (vs : List A) (xs : List (List A)) → length (spread vs xs) ≡ length vs * length xs
length-spread [] xs = omega arith
length-spread (v ∷ vs) xs = length-append (map (λ rest. v ∷ rest) xs) (spread vs xs) ∙ omega (arith, length-map xs (λ rest. v ∷ rest), length-spread vs xs, suc-mul (length vs) (length xs))

over : (t w : ℕ) → most ≤ t * w → min (t * w) most ≡ most
over t w h = omega arith

under : (t : ℕ) → t < most → min t most ≡ t
under t h = omega arith

above_is : (t : ℕ) → most ≤ t → min t most ≡ most
above_is t h = omega arith

cut_by : (t w : ℕ) → (t < most) ⊎ (most ≤ t) → min (min t most * suc w) most ≡ min (t * suc w) most
cut_by t w (inl below) = ap (λ (n : ℕ). min (n * suc w) most) (under t below)
cut_by t w (inr above) = rw (above_is t above) (over most (suc w) (le-mul_of_pos_right {m = suc w} most (omega arith)) ∙ sym (over t (suc w) (omega (arith, le-mul_of_pos_right {m = suc w} t (omega arith)))))

-- a product that is cut before the last factor is cut the same
cut : (t w : ℕ) → min (min t most * w) most ≡ min (t * w) most
cut t zero = omega arith
cut t (suc w) = cut_by t w (cases_lt t most)

cut_right : (t v : ℕ) → min (t * min v most) most ≡ min (t * v) most
cut_right t v = ap (λ (n : ℕ). min n most) (mul_comm t (min v most)) ∙ cut v t ∙ ap (λ (n : ℕ). min n most) (mul_comm v t)

product_cut : (t : ℕ) (ds : List Declared) → t ≤ most → product_from t ds ≡ min (t * length (within ds)) most
product_cut t [] h = omega (arith, mul-one t)
product_cut t (d ∷ ds) h =
    let v = length (values_of d.kind) in
    let w = length (within ds) in
    let e : length (within (d ∷ ds)) ≡ v * w = length-spread (values_of d.kind) (within ds) in
    ap (λ (n : ℕ). product_from n ds) (cut_right t v) ∙ product_cut (min (t * v) most) ds (omega arith) ∙ cut (t * v) w ∙ ap (λ (n : ℕ). min n most) (mul_assoc t v w ∙ ap (λ (n : ℕ). t * n) (sym e))

product_is : (ds : List Declared) → product_from 1 ds ≡ min (length (within ds)) most
product_is ds = product_cut 1 ds (omega arith) ∙ ap (λ (n : ℕ). min n most) (one-mul (length (within ds)))

length-ints : (low : ℤ) (n : ℕ) → length (ints_from low n) ≡ n
length-ints low zero = refl
length-ints low (suc n) = ap (λ (m : ℕ). suc m) (length-ints (low +ℤ pos 1) n)

counted : (low high z : ℤ) → z ≡ high -ℤ low → low ≤ℤ high → pos (to_count z) ≡ (high -ℤ low) +ℤ pos 1
counted low high (pos n) e h = omega (arith, ints)
counted low high (negsuc n) e h = absurd (omega (arith, ints))

-- how many numbers there are from low to high
pub length-values : (low high : ℤ) → low ≤ℤ high → pos (length (values_of (kinds.Int low high))) ≡ (high -ℤ low) +ℤ pos 1
length-values low high h = rw (length-map (ints_from low (to_count (high -ℤ low))) values.Int, length-ints low (to_count (high -ℤ low))) (counted low high (high -ℤ low) refl h)

pub count_is : (total : ℕ) (left ds : List Declared) → length left < 1 → product_from total left ≡ product_from 1 ds → total ≡ min (length (within ds)) most
count_is total [] ds h e = e ∙ product_is ds
count_is total (d ∷ left) ds h e = absurd (omega arith)

-- ---- texts

pow-zero : (n : ℕ) → n ^ 0 ≡ 1
pow-zero n = simp unary_clauses refl

length-same : (alphabet : List ℕ) (n : ℕ) → length (texts_of alphabet n) ≡ length alphabet ^ n
length-same alphabet zero = sym (pow-zero (length alphabet))
length-same alphabet (suc n) = length-spread alphabet (texts_of alphabet n) ∙ ap (λ (k : ℕ). length alphabet * k) (length-same alphabet n) ∙ sym (pow-succ' (length alphabet) n)

-- how many strings there are of so many lengths from one on, at most the greatest
abbrev pub texts_from : List ℕ → ℕ → ℕ → ℕ
texts_from alphabet from k = min (length (flat_map (texts_of alphabet) (lengths_from from k))) most

-- a length less, added to those of more units
pub length_added : (alphabet : List ℕ) (from k total : ℕ) → total ≡ texts_from alphabet (suc from) k → min (total + min (length alphabet ^ from) most) most ≡ texts_from alphabet from (suc k)
length_added alphabet from k total e =
    let s = length-append (texts_of alphabet from) (flat_map (texts_of alphabet) (lengths_from (suc from) k)) in
    let l = length-same alphabet from in
    omega arith

pub counted_more : (alphabet : List ℕ) (from less to total power new : ℕ) → suc less ≡ from → from ≤ suc to → total ≡ texts_from alphabet from (suc to - from) → power ≡ min (length alphabet ^ less) most → new ≡ min (total + power) most → new ≡ texts_from alphabet less (suc to - less)
counted_more alphabet from less to total power new f b t p n =
    let k : suc to - less ≡ suc (suc to - from) = omega arith in
    rw (k, n, p) (length_added alphabet less (suc to - from) total (rw f t))
