-- The strings over an alphabet, each with the next one behind it.
use Rattle.std.proofs.Common.{◌≡◌, ◌≤◌, ◌<◌, ◌+◌, ◌-◌, ℕ, zero, suc, List, [], ◌∷◌, ◌++◌, length, map, take, drop, nat_eq, true, false, Some, None, refl, sym, ap, subst, ◌∙◌, arith}
use Rattle.std.specs.Prelude.{slice_index_or}
use Rattle.std.specs.List.{flat_map, IsDistinct, AllByRecursion}
use Rattle.std.proofs.lemmas.Bool.{lt-ltb, le-ltb}
use Rattle.std.proofs.lemmas.List.{length-drop}
use Rattle.path_core.specs.declared.bounds.Kind.TheVariants as kinds
use Rattle.path_core.specs.declared.path.InputValue.{InputValue}
use Rattle.path_core.specs.declared.path.InputValue.TheVariants as values
use Rattle.path_core.specs.Inputs.{texts_of, lengths_from, values_of, AreTexts}
use Rattle.path_core.specs.Order.{head_of, first_unit, next_unit, lowest, next_same, or_longer, next_text, next_value, first_value}
use Rattle.path_core.proofs.Places.{Chained, spread, outer, begin_both, Long, long-spread}

same_unit : (n : ℕ) → nat_eq n n ≡ true
same_unit n = grind arith

apart : (a : ℕ) (others xs : List ℕ) → AllByRecursion (λ y. nat_eq a y ≡ false) xs → Chained (next_unit others) xs → Chained (next_unit (a ∷ others)) xs
apart a others [] h k = tt
apart a others (x ∷ xs) h k = (rw h.0 k.0, apart a others xs h.1 k.1)

units_chained : (units : List ℕ) → IsDistinct nat_eq units → Chained (next_unit units) units
unfolding IsDistinct
units_chained [] h = tt
units_chained (a ∷ others) h = (rw (same_unit a) refl, apart a others others h.0 (units_chained others h.1))

units_begin : (units : List ℕ) → 1 ≤ length units → (rest : List ℕ) × (units ≡ first_unit units ∷ rest)
units_begin [] h = absurd (omega arith)
units_begin (u ∷ us) h = (us, refl)

same_begin : (alphabet : List ℕ) (n : ℕ) → 1 ≤ length alphabet → (rest : List (List ℕ)) × (texts_of alphabet n ≡ lowest alphabet n ∷ rest)
same_begin alphabet zero h = ([], refl)
same_begin alphabet (suc n) h =
    let u = units_begin alphabet h in
    let r = same_begin alphabet n h in
    begin_both (first_unit alphabet) (lowest alphabet n) alphabet (texts_of alphabet n) u.0 r.0 u.1 r.1

same_chained : (alphabet : List ℕ) (n : ℕ) → 1 ≤ length alphabet → IsDistinct nat_eq alphabet → Chained (next_same alphabet n) (texts_of alphabet n)
same_chained alphabet zero h d = (refl, tt)
same_chained alphabet (suc n) h d =
    let r = same_begin alphabet n h in
    let k : Chained (next_same alphabet n) (lowest alphabet n ∷ r.0) = subst (λ (xs : List (List ℕ)). Chained (next_same alphabet n) xs) r.1 (same_chained alphabet n h d) in
    subst (λ (xs : List (List ℕ)). Chained (next_same alphabet (suc n)) (spread alphabet xs)) (sym r.1) (outer (next_unit alphabet) (lowest alphabet n) (next_same alphabet n) (next_same alphabet (suc n)) (λ v rest. refl) alphabet r.0 (units_chained alphabet d) k)

same_long : (alphabet : List ℕ) (n : ℕ) → Long n (texts_of alphabet n)
same_long alphabet zero = (refl, tt)
same_long alphabet (suc n) = long-spread n alphabet (texts_of alphabet n) (same_long alphabet n)

joined : (alphabet : List ℕ) (most n : ℕ) (xs ys : List (List ℕ)) → Chained (next_same alphabet n) xs → Long n xs → or_longer alphabet most n None ≡ head_of ys → Chained (next_text alphabet most) ys → Chained (next_text alphabet most) (xs ++ ys)
joined alphabet most n [] ys h l e k = k
joined alphabet most n (x ∷ []) ys h l e k = (rw (l.0, h.0) e, k)
joined alphabet most n (x ∷ x' ∷ xs) ys h l e k = (rw (l.0, h.0) refl, joined alphabet most n (x' ∷ xs) ys h.1 l.1 e k)

longer_head : (alphabet : List ℕ) (n : ℕ) (ys rest : List (List ℕ)) (r : List (List ℕ)) → texts_of alphabet n ≡ lowest alphabet n ∷ r → Some (lowest alphabet n) ≡ head_of (texts_of alphabet n ++ ys)
longer_head alphabet n ys rest r e = rw e refl

longer : (alphabet : List ℕ) (most n k : ℕ) → 1 ≤ length alphabet → suc n + k ≡ suc most → or_longer alphabet most n None ≡ head_of (flat_map (texts_of alphabet) (lengths_from (suc n) k))
longer alphabet most n zero h e = rw (le-ltb n most (omega arith)) refl
longer alphabet most n (suc k) h e = rw (lt-ltb n most (omega arith)) (longer_head alphabet (suc n) (flat_map (texts_of alphabet) (lengths_from (suc (suc n)) k)) [] (same_begin alphabet (suc n) h).0 (same_begin alphabet (suc n) h).1)

all_chained : (alphabet : List ℕ) (most n k : ℕ) → 1 ≤ length alphabet → IsDistinct nat_eq alphabet → n + k ≡ suc most → Chained (next_text alphabet most) (flat_map (texts_of alphabet) (lengths_from n k))
all_chained alphabet most n zero h d e = tt
all_chained alphabet most n (suc k) h d e =
    joined alphabet most n (texts_of alphabet n) (flat_map (texts_of alphabet) (lengths_from (suc n) k)) (same_chained alphabet n h d) (same_long alphabet n) (longer alphabet most n k h (omega arith)) (all_chained alphabet most (suc n) k h d (omega arith))

told : (least most : ℕ) (alphabet : List ℕ) (xs : List (List ℕ)) → Chained (next_text alphabet most) xs → Chained (next_value (kinds.Text least most alphabet)) (map values.Text xs)
told least most alphabet [] h = tt
told least most alphabet (x ∷ []) h = (rw h.0 refl, tt)
told least most alphabet (x ∷ x' ∷ xs) h = (rw h.0 refl, told least most alphabet (x' ∷ xs) h.1)

pub texts_chained : (least most : ℕ) (alphabet : List ℕ) → AreTexts least most alphabet → Chained (next_value (kinds.Text least most alphabet)) (values_of (kinds.Text least most alphabet))
texts_chained least most alphabet h =
    let o = h.ordered in
    told least most alphabet (flat_map (texts_of alphabet) (lengths_from least (suc most - least))) (all_chained alphabet most least (suc most - least) h.some h.different (omega arith))

all_begin : (alphabet : List ℕ) (n k : ℕ) → 1 ≤ length alphabet → 0 < k → (rest : List InputValue) × (map values.Text (flat_map (texts_of alphabet) (lengths_from n k)) ≡ values.Text (lowest alphabet n) ∷ rest)
all_begin alphabet n zero h k = absurd (omega arith)
all_begin alphabet n (suc k) h p =
    let r = same_begin alphabet n h in
    (map values.Text (r.0 ++ flat_map (texts_of alphabet) (lengths_from (suc n) k)), ap (λ (xs : List (List ℕ)). map values.Text (xs ++ flat_map (texts_of alphabet) (lengths_from (suc n) k))) r.1)

pub texts_begin : (least most : ℕ) (alphabet : List ℕ) → AreTexts least most alphabet → (rest : List InputValue) × (values_of (kinds.Text least most alphabet) ≡ first_value (kinds.Text least most alphabet) ∷ rest)
texts_begin least most alphabet h =
    let o = h.ordered in
    all_begin alphabet least (suc most - least) h.some (omega arith)

-- ---- the next text, by the last unit that isn't at its last

found_here : (alphabet us : List ℕ) (at d w : ℕ) → at < length us → next_same alphabet (length (drop (suc at) us)) (drop (suc at) us) ≡ None → next_unit alphabet (slice_index_or us at d) ≡ Some w → next_same alphabet (length us) us ≡ Some (take at us ++ w ∷ lowest alphabet (length (drop (suc at) us)))
found_here alphabet [] at d w h none next = absurd (omega arith)
found_here alphabet (u ∷ us) zero d w h none next = rw (none, next) refl
found_here alphabet (u ∷ us) (suc at) d w h none next = rw (found_here alphabet us at d w (omega arith) none next) refl

pub found_at : (alphabet us : List ℕ) (at more d v w : ℕ) → more ≡ suc at → at < length us → next_same alphabet (length (drop more us)) (drop more us) ≡ None → v ≡ slice_index_or us at d → Some w ≡ next_unit alphabet v → next_same alphabet (length us) us ≡ Some (take at us ++ w ∷ lowest alphabet (length us - suc at))
found_at alphabet us at more d v w e h none is next = rw (← length-drop (suc at) us) (found_here alphabet us at d w h (subst (λ (m : ℕ). next_same alphabet (length (drop m us)) (drop m us) ≡ None) e none) (ap (next_unit alphabet) (sym is) ∙ sym next))
