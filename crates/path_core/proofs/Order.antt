-- The inputs in their order, each with the next one behind it.
use Rattle.std.proofs.Common.{◌≡◌, ℕ, zero, suc, ℤ, pos, negsuc, ◌+ℤ◌, ◌-ℤ◌, List, [], ◌∷◌, ◌++◌, length, map, take, drop, true, false, Some, None, refl, sym, ap, subst, ◌∙◌, append_assoc, arith}
use Rattle.std.specs.Prelude.{All, int_lt, ◌≤ℤ◌, ◌<◌, slice_index_or}
use Rattle.std.proofs.lemmas.Int.{ints}
use Rattle.std.proofs.lemmas.List.Elements.{All-head, All-tail}
use Rattle.path_core.specs.declared.bounds.Kind.{Kind}
use Rattle.path_core.specs.declared.bounds.Kind.TheVariants as kinds
use Rattle.path_core.specs.declared.bounds.Declared.{Declared}
use Rattle.path_core.specs.declared.path.InputValue.{InputValue}
use Rattle.path_core.specs.declared.path.InputValue.TheVariants as values
use Rattle.path_core.specs.Inputs.{Values, ints_from, to_count, values_of, within, IsNext, IsLast, IsWithin, IsRange}
use Rattle.path_core.specs.Order.{head_of, next_value, first_value, first_of, next_of}
use Rattle.path_core.proofs.Places.{Chained, spread, behind, outer, begin_both, Long, long-spread, long-at}
use Rattle.path_core.proofs.Spelling.{texts_begin, texts_chained}

-- ---- whole numbers

counted : (low high z : ℤ) → z ≡ high -ℤ low → low ≤ℤ high → low +ℤ pos (to_count z) ≡ high +ℤ pos 1
counted low high (pos n) e h = omega (arith, ints)
counted low high (negsuc n) e h = absurd (omega (arith, ints))

not_below : (a b : ℤ) → a ≡ b → int_lt a b ≡ false
not_below a b e = grind (arith, ints)

is_below : (a b : ℤ) (m : ℕ) → a +ℤ pos (suc (suc m)) ≡ b +ℤ pos 1 → int_lt a b ≡ true
is_below a b m e = grind (arith, ints)

numbers : (least low high : ℤ) (n : ℕ) → low +ℤ pos n ≡ high +ℤ pos 1 → Chained (next_value (kinds.Int least high)) (map values.Int (ints_from low n))
numbers least low high zero e = tt
numbers least low high (suc zero) e = (rw (not_below low high (omega (arith, ints))) refl, tt)
numbers least low high (suc (suc m)) e = (rw (is_below low high m e) refl, numbers least (low +ℤ pos 1) high (suc m) (omega (arith, ints)))

pub values_chained : (kind : Kind) → IsRange kind → Chained (next_value kind) (values_of kind)
values_chained (kinds.Int low high) h = numbers low low high (to_count (high -ℤ low)) (counted low high (high -ℤ low) refl h)
values_chained (kinds.Text least most alphabet) h = texts_chained least most alphabet h

ints_begin : (low high : ℤ) (n : ℕ) → low +ℤ pos n ≡ high +ℤ pos 1 → low ≤ℤ high → (rest : List InputValue) × (map values.Int (ints_from low n) ≡ values.Int low ∷ rest)
ints_begin low high zero e h = absurd (omega (arith, ints))
ints_begin low high (suc n) e h = (map values.Int (ints_from (low +ℤ pos 1) n), refl)

pub values_begin : (kind : Kind) → IsRange kind → (rest : List InputValue) × (values_of kind ≡ first_value kind ∷ rest)
values_begin (kinds.Int low high) h = ints_begin low high (to_count (high -ℤ low)) (counted low high (high -ℤ low) refl h) h
values_begin (kinds.Text least most alphabet) h = texts_begin least most alphabet h

-- ---- all inputs

pub within_begins : (ds : List Declared) → All (λ d. IsRange d.kind) ds → (rest : List Values) × (within ds ≡ first_of ds ∷ rest)
within_begins [] h = ([], refl)
within_begins (d ∷ ds) h =
    let v = values_begin d.kind (All-head (λ (x : Declared). IsRange x.kind) d ds h) in
    let r = within_begins ds (All-tail (λ (x : Declared). IsRange x.kind) d ds h) in
    begin_both (first_value d.kind) (first_of ds) (values_of d.kind) (within ds) v.0 r.0 v.1 r.1

pub within_chained : (ds : List Declared) → All (λ d. IsRange d.kind) ds → Chained (next_of ds) (within ds)
within_chained [] h = (refl, tt)
within_chained (d ∷ ds) h =
    let t = All-tail (λ (x : Declared). IsRange x.kind) d ds h in
    let r = within_begins ds t in
    let k : Chained (next_of ds) (first_of ds ∷ r.0) = subst (λ (xs : List Values). Chained (next_of ds) xs) r.1 (within_chained ds t) in
    subst (λ (xs : List Values). Chained (next_of (d ∷ ds)) (spread (values_of d.kind) xs)) (sym r.1) (outer (next_value d.kind) (first_of ds) (next_of ds) (next_of (d ∷ ds)) (λ v rest. refl) (values_of d.kind) r.0 (values_chained d.kind (All-head (λ (x : Declared). IsRange x.kind) d ds h)) k)

head_is : {A : Type 0} (xs : List A) (x : A) → Some x ≡ head_of xs → (rest : List A) × (xs ≡ x ∷ rest)
head_is [] x e = absurd cc
head_is (y ∷ xs) x e = (xs, cc)

head_none : {A : Type 0} (xs : List A) → None ≡ head_of xs → xs ≡ []
head_none [] e = refl
head_none (y ∷ xs) e = absurd cc

pub is_next : (ds : List Declared) (x y : Values) → All (λ d. IsRange d.kind) ds → next_of ds x ≡ Some y → IsNext (within ds) x y
is_next ds x y h e = λ before after is. head_is after y (sym e ∙ behind (next_of ds) before x after (subst (λ (xs : List Values). Chained (next_of ds) xs) is (within_chained ds h)))

pub is_last : (ds : List Declared) (x : Values) → All (λ d. IsRange d.kind) ds → next_of ds x ≡ None → IsLast (within ds) x
is_last ds x h e = λ before after is. head_none after (sym e ∙ behind (next_of ds) before x after (subst (λ (xs : List Values). Chained (next_of ds) xs) is (within_chained ds h)))

-- ---- the next input in place

found_here : (ds : List Declared) (vs : Values) (at : ℕ) (d : Declared) (v w : InputValue) → at < length ds → length vs ≡ length ds → next_of (drop (suc at) ds) (drop (suc at) vs) ≡ None → next_value (slice_index_or ds at d).kind (slice_index_or vs at v) ≡ Some w → next_of ds vs ≡ Some (take at vs ++ w ∷ first_of (drop (suc at) ds))
found_here [] vs at d v w h k none next = absurd (omega arith)
found_here (d' ∷ ds) [] at d v w h k none next = absurd (omega arith)
found_here (d' ∷ ds) (v' ∷ vs) zero d v w h k none next = rw (none, next) refl
found_here (d' ∷ ds) (v' ∷ vs) (suc at) d v w h k none next = rw (found_here ds vs at d v w (omega arith) (omega arith) none next) refl

-- the last place whose value goes on gives the next input
pub found_at : (ds : List Declared) (vs : Values) (at more more' : ℕ) (d : Declared) (v w : InputValue) → more ≡ suc at → more' ≡ suc at → at < length ds → length vs ≡ length ds → next_of (drop more ds) (drop more vs) ≡ None → v ≡ slice_index_or vs at v → Some w ≡ next_value (slice_index_or ds at d).kind v → next_of ds vs ≡ Some (take at vs ++ w ∷ first_of (drop more' ds))
found_at ds vs at more more' d v w e e' h k none is next = rw e' (found_here ds vs at d v w h k (rw e at none) (ap (λ (x : InputValue). next_value (slice_index_or ds at d).kind x) (sym is) ∙ sym next))

-- ---- a value for each name

long-within : (ds : List Declared) → Long (length ds) (within ds)
long-within [] = (refl, tt)
long-within (d ∷ ds) = long-spread (length ds) (values_of d.kind) (within ds) (long-within ds)

pub within_length : (ds : List Declared) (before : List Values) (x : Values) (after : List Values) → within ds ≡ before ++ x ∷ after → length x ≡ length ds
within_length ds before x after e = long-at (length ds) before x after (subst (λ (xs : List Values). Long (length ds) xs) e (long-within ds))

-- ---- what a caller needs that goes on from an input

pub first_within : (ds : List Declared) (x : Values) (rest : List Values) → within ds ≡ x ∷ rest → IsWithin ds x
first_within ds x rest e = ([], rest, e)

pub moved_within : (ds : List Declared) (x y : Values) → IsWithin ds x → IsNext (within ds) x y → IsWithin ds y
moved_within ds x y w next =
    let r = next w.0 w.1 w.2 in
    (w.0 ++ x ∷ [], r.0, w.2 ∙ ap (λ (after : List Values). w.0 ++ x ∷ after) r.1 ∙ sym (append_assoc w.0 (x ∷ []) (y ∷ r.0)))
