-- The map of terms: a term's place, and a new term behind the others.
use Rattle.std.proofs.Common.{ℕ, zero, suc, Bool, true, false, ◌≡◌, ◌<◌, ◌≤◌, ◌+◌, ◌∙◌, sym, refl, ap, subst, List, [], ◌∷◌, ◌++◌, length, get_or, slice_get, position, if◌then◌else◌, arith, true≢false, Option, Some, None, inl, inr, append_assoc}
use Rattle.std.specs.List.{IsDistinct, AllByRecursion}
use Rattle.std.specs.Map.{keys_of}
use Rattle.std.proofs.lemmas.List.{map-append, length-append, append-nil}
use Rattle.std.proofs.lemmas.Map.Keys.{IsDistinct-head, IsDistinct-tail}
use Rattle.std.proofs.lemmas.List.Quantifiers.{position-Some}
use Rattle.std.proofs.lemmas.Option.{slice_get-get_or}
use Rattle.indexmap.specs.IndexMap.{insert_entry}
use Rattle.term_table.specs.declared.term.Term.{Term}
use Rattle.std.proofs.lemmas.Slice.Eq.{bytes_eq-Decides}
use Rattle.term_table.specs.declared.term.Term.TheVariants.{Flag, Int, Text}
use Rattle.term_table.specs.contracts.term.TermPartialEq as impl
use Rattle.term_table.specs.Growing.{Grown, IsNew, IsAdded, AreDistinct, HasFlags}

abbrev pub term_eq : Term → Term → Bool
term_eq s t = (impl.TheImpl.eq-value).it s t

pub term_same : (s t : Term) → term_eq s t ≡ true → s ≡ t
term_same (Flag a) (Flag b) h = grind arith
term_same (Int m) (Int n) h = grind arith
term_same (Text x) (Text y) h = ap (λ (u : List ℕ). Text u) ((bytes_eq-Decides x y).0 h)
term_same (Flag a) (Int n) h = absurd (grind arith)
term_same (Flag a) (Text y) h = absurd (grind arith)
term_same (Int m) (Flag b) h = absurd (grind arith)
term_same (Int m) (Text y) h = absurd (grind arith)
term_same (Text x) (Flag b) h = absurd (grind arith)
term_same (Text x) (Int n) h = absurd (grind arith)

pub term_refl : (t : Term) → term_eq t t ≡ true
term_refl (Flag a) = grind arith
term_refl (Int m) = grind arith
term_refl (Text x) = (bytes_eq-Decides x x).1 refl

abbrev Entries : Type 0
Entries = List (Term × Unit {0})

-- no key is equal
abbrev pub Absent : Term → Entries → Type 0
Absent t [] = Unit {0}
Absent t (e ∷ es) = (term_eq t e.0 ≡ false) × Absent t es

pub absent_from : (t : Term) (es : Entries) → position (term_eq t) (keys_of es) ≡ None → Absent t es
absent_from t [] h = tt
absent_from t (e ∷ es) h = by (term_eq t e.0) refl (absent_from t es)
  where
    by : (b : Bool) → term_eq t e.0 ≡ b → (position (term_eq t) (keys_of es) ≡ None → Absent t es) → (term_eq t e.0 ≡ false) × Absent t es
    by true p rest = absurd (grind arith)
    by false p rest = (p, rest (grind arith))

pushed : (t : Term) (es : Entries) → Absent t es → insert_entry term_eq es t (tt {0}) ≡ es ++ (t, tt {0}) ∷ []
pushed t [] h = refl
pushed t (e ∷ es) h = ap (λ b. if b then (e.0, tt {0}) ∷ es else e ∷ insert_entry term_eq es t (tt {0})) h.0 ∙ ap (λ l. e ∷ l) (pushed t es h.1)

none_equal : (t : Term) (es : Entries) → Absent t es → IsNew (keys_of es) t
none_equal t [] h k e = absurd (grind arith)
none_equal t (x ∷ es) h zero e = let s : x.0 ≡ t = grind arith in true≢false (sym (term_refl t) ∙ ap (term_eq t) (sym s) ∙ h.0)
none_equal t (x ∷ es) h (suc k) e = none_equal t es h.1 k e

pub keys_are : (es new : Entries) (t : Term) → Absent t es → new ≡ insert_entry term_eq es t (tt {0}) → keys_of new ≡ keys_of es ++ t ∷ []
keys_are es new t a e = ap keys_of (e ∙ pushed t es a) ∙ map-append (λ x. x.0) es ((t, tt {0}) ∷ [])

pub added_new : (es new : Entries) (t : Term) (id : ℕ) → Absent t es → new ≡ insert_entry term_eq es t (tt {0}) → id ≡ length (keys_of es) → IsAdded (keys_of es) (keys_of new) t id
added_new es new t id a e i = inr (keys_are es new t a e, i, none_equal t es a)

pub added_old : (t : Term) (ts : List Term) (id : ℕ) → position (term_eq t) ts ≡ Some id → IsAdded ts ts t id
added_old t ts id e =
    let p = position-Some (term_eq t) ts id t e in
    inl (refl, slice_get-get_or ts id t p.0 ∙ ap (λ x. Some x) (sym (term_same t (get_or ts id t) p.1)))

pub grown_same : (ts : List Term) → Grown ts ts
grown_same ts = ([], sym (append-nil ts))

-- ---- the flags stay

front : (old more : List Term) (id : ℕ) (t : Term) → slice_get old id ≡ Some t → slice_get (old ++ more) id ≡ Some t
front [] more id t h = absurd (grind arith)
front (x ∷ old) more zero t h = h
front (x ∷ old) more (suc id) t h = front old more id t h

-- a longer table has each earlier term where it was
pub stays : (old new : List Term) (id : ℕ) (t : Term) → Grown old new → slice_get old id ≡ Some t → slice_get new id ≡ Some t
stays old new id t g h = subst (λ (l : List Term). slice_get l id ≡ Some t) (sym g.1) (front old g.0 id t h)

pub flags_stay : (es new : Entries) (t : Term) → HasFlags (keys_of es) → Absent t es → new ≡ insert_entry term_eq es t (tt {0}) → HasFlags (keys_of new)
flags_stay es new t h a e =
    let g : Grown (keys_of es) (keys_of new) = (t ∷ [], keys_are es new t a e) in
    record { not_held = stays (keys_of es) (keys_of new) 0 (Flag false) g h.not_held; held = stays (keys_of es) (keys_of new) 1 (Flag true) g h.held }

-- ---- what a caller needs

behind : (ts : List Term) (t : Term) (id : ℕ) → id ≡ length ts → slice_get (ts ++ t ∷ []) id ≡ Some t
behind [] t zero h = refl
behind [] t (suc id) h = absurd (omega arith)
behind (x ∷ ts) t zero h = absurd (omega arith)
behind (x ∷ ts) t (suc id) h = behind ts t id (omega (arith, h))

pub added_at : (old new : List Term) (t : Term) (id : ℕ) → IsAdded old new t id → slice_get new id ≡ Some t
added_at old new t id h =
    elim h [
      | inl x ↦ subst (λ (l : List Term). slice_get l id ≡ Some t) (sym x.0) x.1
      | inr x ↦ subst (λ (l : List Term). slice_get l id ≡ Some t) (sym x.0) (behind old t id x.1)
    ]

pub added_grown : (old new : List Term) (t : Term) (id : ℕ) → IsAdded old new t id → Grown old new
added_grown old new t id h =
    elim h [
      | inl x ↦ ([], x.0 ∙ sym (append-nil old))
      | inr x ↦ (t ∷ [], x.0)
    ]

pub added_few : (old new : List Term) (t : Term) (id : ℕ) → IsAdded old new t id → length new ≤ length old + 1
added_few old new t id h =
    elim h [
      | inl x ↦ omega (arith, ap (λ (l : List Term). length l) x.0)
      | inr x ↦ omega (arith, ap (λ (l : List Term). length l) x.0, length-append old (t ∷ []))
    ]

-- ---- no two are equal

all_at : (P : Term → Type 0) (ts : List Term) (j : ℕ) (x : Term) → AllByRecursion P ts → slice_get ts j ≡ Some x → P x
all_at P [] j x h k = absurd (grind arith)
all_at P (y ∷ ts) zero x h k = subst P (grind arith) h.0
all_at P (y ∷ ts) (suc j) x h k = all_at P ts j x h.1 k

apart : (x t : Term) (ts : List Term) (j : ℕ) → AllByRecursion (λ y. term_eq x y ≡ false) ts → slice_get ts j ≡ Some t → t ≡ x → ⊥
apart x t ts j h k e = true≢false (sym (term_refl x) ∙ ap (term_eq x) (sym e) ∙ all_at (λ y. term_eq x y ≡ false) ts j t h k)

pub distinct_terms : (ts : List Term) → IsDistinct term_eq ts → AreDistinct ts
distinct_terms [] d i j t h k = absurd (grind arith)
distinct_terms (x ∷ ts) d zero zero t h k = refl
distinct_terms (x ∷ ts) d zero (suc j) t h k = absurd (apart x t ts j (IsDistinct-head term_eq x ts d) k (grind arith))
distinct_terms (x ∷ ts) d (suc i) zero t h k = absurd (apart x t ts i (IsDistinct-head term_eq x ts d) h (grind arith))
distinct_terms (x ∷ ts) d (suc i) (suc j) t h k = ap (λ (n : ℕ). suc n) (distinct_terms ts (IsDistinct-tail term_eq x ts d) i j t h k)
