-- Clauses and their literals.
use Rattle.std.proofs.Common.{ℤ, Bool, true, false, ◌&&◌, ◌||◌, List, [], ◌∷◌, ◌≡◌, refl, sym, ap, ◌∙◌, true≢false}
use Rattle.std.specs.List.{list_all}
use Rattle.std.specs.Ordering.{int_eq}
use Rattle.cnf_core.specs.Validity.{among, also, is_falsified}
use Rattle.sat_core.proofs.Replay.{and_parts, and_both, or_left, or_right, same, itself}

pub all_among : (test : ℤ → Bool) (c : List ℤ) → ((k : ℤ) → among c k ≡ true → test k ≡ true) → list_all test c ≡ true
all_among test [] h = refl
all_among test (k ∷ ks) h = and_both _ _ (h k (or_left _ (among ks k) (itself k))) (all_among test ks (λ x t. h x (or_right (int_eq k x) _ t)))

or_end : (a : Bool) → (a || false) ≡ a
or_end true = refl
or_end false = refl

-- what is false only with one more literal has that literal
new_case : (q : ℤ → Bool) (o k : ℤ) (ks : List ℤ) (b : Bool) → q k ≡ b → (int_eq o k || b) ≡ true → (b && is_falsified q ks) ≡ false → (is_falsified q ks ≡ false → among ks o ≡ true) → among (k ∷ ks) o ≡ true
new_case q o k ks true e a n go = or_right _ _ (go n)
new_case q o k ks false e a n go = ap (λ x. int_eq k x || among ks x) (same o k (sym (or_end (int_eq o k)) ∙ a)) ∙ ap (λ b. b || among ks k) (itself k)

pub has_new : (q : ℤ → Bool) (o : ℤ) (c : List ℤ) → is_falsified (also q o) c ≡ true → is_falsified q c ≡ false → among c o ≡ true
has_new q o [] a n = absurd (true≢false n)
has_new q o (k ∷ ks) a n = let p = and_parts _ _ a in new_case q o k ks (q k) refl p.0 n (has_new q o ks p.1)
