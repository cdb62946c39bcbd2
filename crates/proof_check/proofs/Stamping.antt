-- Marks as stamps.
use Rattle.std.proofs.Common.{ℕ, refl, zero, suc, ◌+◌, ◌*◌, ◌-◌, ◌==◌, ◌<◌, ◌≤◌, ◌≡◌, ◌≢◌, ℤ, pos, negsuc, Bool, true, false, ◌||◌, List, [], ◌∷◌, ◌++◌, take, length, set, map, replicate, Some, slice_get, sym, subst, ap, ◌∙◌, arith, unwrap_or, true≢false}
use Rattle.std.specs.List.{All}
use Rattle.std.specs.Ordering.{int_eq}
use Rattle.std.specs.Cmp.{signed_Decides}
use Rattle.std.proofs.lemmas.Bool.{ne_eqb, eq-eqb}
use Rattle.std.proofs.lemmas.Int.{ints}
use Rattle.std.proofs.Math.Seq.{take-append_seam}
use Rattle.cnf_core.specs.Literals.{Names}
use Rattle.cnf_core.specs.Validity.{among, also}
use Rattle.proof_check.specs.Marking.{Marking, place, is_false, cleared}
use Rattle.proof_check.specs.Stamps.{marked_by}
use Rattle.proof_check.proofs.Known.{all_head, all_tail}

-- a stamp that stands at no place marks none
marked_none : (present : ℕ) (stamps : List ℕ) (n : ℕ) → All (λ s. s < present) stamps → length stamps ≡ n → marked_by stamps present ≡ replicate n false
marked_none present [] zero a e = refl
marked_none present [] (suc n) a e = absurd (omega arith)
marked_none present (s ∷ ss) zero a e = absurd (omega arith)
marked_none present (s ∷ ss) (suc n) a e =
    let below : s < present = all_head (λ x. x < present) s ss a in
    ap (λ b. b ∷ marked_by ss present) (ne_eqb s present (λ same. absurd (omega arith)))
    ∙ ap (λ bs. false ∷ bs) (marked_none present ss n (all_tail (λ x. x < present) s ss a) (omega arith))

pub cleared_by : (variables present : ℕ) (stamps : List ℕ) → All (λ s. s < present) stamps → length stamps ≡ 2 * variables + 1 →
    let marking : Marking = record { variables = variables; marked = marked_by stamps present } in marking ≡ cleared variables
cleared_by variables present stamps a e = ap (λ (bs : List Bool). let marking : Marking = record { variables = variables; marked = bs } in marking) (marked_none present stamps (2 * variables + 1) a e)

-- a list of n elements ends where the first n do
pub whole : (n : ℕ) (stamps more : List ℕ) → length stamps ≡ n → take n (stamps ++ more) ≡ stamps
whole n stamps more e = subst (λ k. take k (stamps ++ more) ≡ stamps) e (take-append_seam stamps more)

none_at : (n k : ℕ) → unwrap_or (slice_get (replicate n false) k) false ≡ false
none_at zero k = refl
none_at (suc n) zero = refl
none_at (suc n) (suc k) = none_at n k

pub none_wrong : (variables : ℕ) → is_false (cleared variables) ≡ among []
none_wrong variables = λ i l. none_at (2 * variables + 1) (place l) i

set_here : (f : ℕ → Bool) (xs : List ℕ) (i v : ℕ) → i < length xs → slice_get (map f (set xs i v)) i ≡ Some (f v)
set_here f [] i v w = absurd (omega arith)
set_here f (x ∷ xs) zero v w = refl
set_here f (x ∷ xs) (suc i) v w = set_here f xs i v (omega arith)

set_there : (f : ℕ → Bool) (xs : List ℕ) (i j v : ℕ) → i ≢ j → slice_get (map f (set xs i v)) j ≡ slice_get (map f xs) j
set_there f [] i j v n = refl
set_there f (x ∷ xs) zero zero v n = absurd (n refl)
set_there f (x ∷ xs) zero (suc j) v n = refl
set_there f (x ∷ xs) (suc i) zero v n = refl
set_there f (x ∷ xs) (suc i) (suc j) v n = set_there f xs i j v (λ e. n (ap suc e))

place_pos : (n : ℕ) → place (pos n) ≡ 2 * n
place_pos n = grind (arith, ints)

place_neg : (n : ℕ) → place (negsuc n) ≡ 2 * n + 1
place_neg n = let e : 2 * suc n - 1 ≡ 2 * n + 1 = omega arith in e

-- two literals at one place are one
one_place : (l k : ℤ) → place l ≡ place k → l ≡ k
one_place (pos m) (pos n) e = let d : 2 * m ≡ 2 * n = sym (place_pos m) ∙ (e ∙ place_pos n) in ap pos (omega arith)
one_place (pos m) (negsuc n) e = let d : 2 * m ≡ 2 * n + 1 = sym (place_pos m) ∙ (e ∙ place_neg n) in absurd (omega arith)
one_place (negsuc m) (pos n) e = let d : 2 * m + 1 ≡ 2 * n = sym (place_neg m) ∙ (e ∙ place_pos n) in absurd (omega arith)
one_place (negsuc m) (negsuc n) e = let d : 2 * m + 1 ≡ 2 * n + 1 = sym (place_neg m) ∙ (e ∙ place_neg n) in ap negsuc (omega arith)

pub has_place : (variables places : ℕ) (l : ℤ) → Names variables l → places ≡ 2 * variables + 1 → place l < places
has_place variables places (pos n) w e = let b : n ≤ variables = w.1 in subst (λ p. p < places) (sym (place_pos n)) (omega arith)
has_place variables places (negsuc n) w e = let b : suc n ≤ variables = w.1 in subst (λ p. p < places) (sym (place_neg n)) (omega arith)

stamped_at : (present : ℕ) (stamps : List ℕ) (l k : ℤ) (same : Bool) → place l < length stamps → same ≡ int_eq l k →
    unwrap_or (slice_get (marked_by (set stamps (place l) present) present) (place k)) false ≡ (same || unwrap_or (slice_get (marked_by stamps present) (place k)) false)
stamped_at present stamps l k true w e =
    let one : l ≡ k = (signed_Decides l k).0 (sym e) in
    ap (λ b. unwrap_or b false) (subst (λ x. slice_get (marked_by (set stamps (place l) present) present) (place x) ≡ Some (present == present)) one (set_here (λ s. s == present) stamps (place l) present w))
    ∙ eq-eqb present present refl
stamped_at present stamps l k false w e =
    ap (λ b. unwrap_or b false) (set_there (λ s. s == present) stamps (place l) (place k) present (λ p. true≢false (sym ((signed_Decides l k).1 (one_place l k p)) ∙ sym e)))

-- to stamp the place of a literal makes it false too
pub stamped_also : (variables present : ℕ) (stamps : List ℕ) (l : ℤ) → place l < length stamps →
    is_false (let marking : Marking = record { variables = variables; marked = marked_by (set stamps (place l) present) present } in marking)
    ≡ also (is_false (let marking : Marking = record { variables = variables; marked = marked_by stamps present } in marking)) l
stamped_also variables present stamps l w = λ i k. stamped_at present stamps l k (int_eq l k) w refl i
