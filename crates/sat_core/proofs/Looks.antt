-- Watched literals: what a look shows, and that guarded clauses are at rest.
use Rattle.std.proofs.Common.{ℕ, ℤ, neg_ℤ, Bool, true, false, not, ◌&&◌, ◌||◌, cond, List, [], ◌∷◌, ◌≡◌, ◌≢◌, refl, Option, Some, None, sym, subst, ap, ◌∙◌, true≢false, ⊎_elim}
use Rattle.std.specs.List.{All, find, list_all}
use Rattle.std.proofs.lemmas.List.Elements.{All-head, All-tail}
use Rattle.cnf_core.specs.Literals.{Names}
use Rattle.std.specs.Ordering.{int_eq}
use Rattle.cnf_core.specs.Validity.{among, also, is_falsified, unit_of}
use Rattle.sat_core.specs.declared.watching.Pair.{Pair}
use Rattle.sat_core.specs.Rest.{RestsAt}
use Rattle.sat_core.specs.Watching.{Stands, Guards, IsWatched, replaces}
use Rattle.sat_core.proofs.Replay.{and_parts, or_left, or_right, true_or_false, same, itself, unit_here, unit_found}
use Rattle.sat_core.proofs.Units.{unit_free}
use Rattle.sat_core.proofs.Clauses.{all_among}
use Rattle.sat_core.proofs.Setting.{apart}

-- ---- lists of literals

find_step : (test : ℤ → Bool) (k l : ℤ) (ks : List ℤ) (b : Bool) → test k ≡ b → (find test ks ≡ Some l → (among ks l ≡ true) × (test l ≡ true)) → cond b (Some k) (find test ks) ≡ Some l → (among (k ∷ ks) l ≡ true) × (test l ≡ true)
find_step test k l ks true t f e =
    let s : k ≡ l = cc in (or_left (int_eq k l) (among ks l) (subst (λ x. int_eq k x ≡ true) s (itself k)), subst (λ x. test x ≡ true) s t)
find_step test k l ks false t f e = let r = f e in (or_right (int_eq k l) (among ks l) r.0, r.1)

pub find_some : (test : ℤ → Bool) (c : List ℤ) (l : ℤ) → find test c ≡ Some l → (among c l ≡ true) × (test l ≡ true)
find_some test [] l e = absurd (cc)
find_some test (k ∷ ks) l e = find_step test k l ks (test k) refl (find_some test ks l) e

none_step : (test : ℤ → Bool) (k : ℤ) (ks : List ℤ) (b : Bool) → test k ≡ b → cond b (Some k) (find test ks) ≡ None → (test k ≡ false) × (find test ks ≡ None)
none_step test k ks true t e = absurd (cc)
none_step test k ks false t e = (t, e)

pub find_none : (test : ℤ → Bool) (c : List ℤ) (l : ℤ) → find test c ≡ None → among c l ≡ true → test l ≡ false
find_none test [] l e m = absurd (true≢false (sym m))
find_none test (k ∷ ks) l e m =
    let r = none_step test k ks (test k) refl e in
    ⊎_elim
    (λ (s : int_eq k l ≡ true). subst (λ x. test x ≡ false) (same k l s) r.0)
    (λ (s : int_eq k l ≡ false). find_none test ks l r.1 (sym (ap (λ b. b || among ks l) s) ∙ m))
    (true_or_false (int_eq k l))

pub test_of_all : (test : ℤ → Bool) (c : List ℤ) (l : ℤ) → list_all test c ≡ true → among c l ≡ true → test l ≡ true
test_of_all test [] l a e = absurd (true≢false (sym e))
test_of_all test (k ∷ ks) l a e =
    let p = and_parts _ _ a in
    ⊎_elim
    (λ (s : int_eq k l ≡ true). subst (λ x. test x ≡ true) (same k l s) p.0)
    (λ (s : int_eq k l ≡ false). test_of_all test ks l p.1 (sym (ap (λ b. b || among ks l) s) ∙ e))
    (true_or_false (int_eq k l))

-- ---- a look

both_hold : (a b : Bool) → (not a && not b) ≡ true → (a ≡ false) × (b ≡ false)
both_hold true b h = absurd (cc)
both_hold false true h = absurd (cc)
both_hold false false h = (refl, refl)

one_fails : (a b : Bool) → (not a && not b) ≡ false → (a || b) ≡ true
one_fails true b h = refl
one_fails false true h = refl
one_fails false false h = absurd (cc)

differ_by : (a b : ℤ) → int_eq a b ≡ false → a ≢ b
differ_by a b f e = true≢false (sym (subst (λ x. int_eq a x ≡ true) e (itself a)) ∙ f)

turned : (a b : ℤ) → int_eq a b ≡ int_eq b a
turned a b = ⊎_elim
    (λ (t : int_eq a b ≡ true). t ∙ sym (subst (λ x. int_eq x a ≡ true) (same a b t) (itself a)))
    (λ (f : int_eq a b ≡ false). f ∙ sym (apart b a (λ e. differ_by a b f (sym e))))
    (true_or_false (int_eq a b))

pub replaced : (p : ℤ → Bool) (c : List ℤ) (other to : ℤ) → find (replaces p other) c ≡ Some to → (among c to ≡ true) × (to ≢ other) × (p to ≡ false)
replaced p c other to e =
    let r = find_some (replaces p other) c to e in
    let b = both_hold (int_eq to other) (p to) r.1 in
    (r.0, differ_by to other b.0, b.1)

-- every literal but the other is false
pub all_but : (p : ℤ → Bool) (c : List ℤ) (other : ℤ) → find (replaces p other) c ≡ None → is_falsified (also p other) c ≡ true
all_but p c other e = all_among (also p other) c (λ k m. ap (λ b. b || p k) (turned other k) ∙ one_fails (int_eq k other) (p k) (find_none (replaces p other) c k e m))

pub no_other : (p : ℤ → Bool) (c : List ℤ) (other : ℤ) → find (replaces p other) c ≡ None → p other ≡ true → is_falsified p c ≡ true
no_other p c other e t = all_among p c (λ k m.
    ⊎_elim
    (λ (s : int_eq other k ≡ true). subst (λ x. p x ≡ true) (same other k s) t)
    (λ (s : int_eq other k ≡ false). sym (ap (λ b. b || p k) s) ∙ test_of_all (also p other) c k (all_but p c other e) m)
    (true_or_false (int_eq other k)))

pub watched_among : (c : List ℤ) (o : Option Pair) (other l : ℤ) → Stands c o → IsWatched o other l → among c other ≡ true
watched_among c o other l s w =
    let t : Stands c (Some w.0) = subst (Stands c) w.1 s in
    ⊎_elim
    (λ (e : (w.0.first ≡ l) × (w.0.second ≡ other)). subst (λ x. among c x ≡ true) e.1 t.1)
    (λ (e : (w.0.first ≡ other) × (w.0.second ≡ l)). subst (λ x. among c x ≡ true) e.0 t.0)
    w.2

pub forced : (p : ℤ → Bool) (c : List ℤ) (o : Option Pair) (other l : ℤ) → Stands c o → IsWatched o other l → find (replaces p other) c ≡ None → p other ≡ false → p (neg_ℤ other) ≡ false → unit_of p c ≡ Some other
forced p c o other l s w e f g = unit_here p c other f g (watched_among c o other l s w) (all_but p c other e)

-- ---- guarded clauses are at rest

none_of : (o : Option ℤ) → ((l : ℤ) → o ≡ Some l → ⊥) → o ≡ None
none_of None h = refl
none_of (Some l) h = absurd (h l refl)

false_of : (b : Bool) → (b ≡ true → ⊥) → b ≡ false
false_of true h = absurd (h refl)
false_of false h = refl

pub no_longer : (p : ℤ → Bool) (a l : ℤ) → p a ≡ false → also p l a ≡ true → l ≡ a
no_longer p a l f t = ⊎_elim (λ s. same l a s) (λ n. absurd (true≢false (sym t ∙ (ap (λ b. b || p a) n ∙ f)))) (true_or_false (int_eq l a))

pub two_left : (p : ℤ → Bool) (c : List ℤ) (a b : ℤ) → among c a ≡ true → among c b ≡ true → a ≢ b → p a ≡ false → p b ≡ false → RestsAt p c
two_left p c a b m n ne f g = (
  false_of (is_falsified p c) (λ t. true≢false (sym (test_of_all p c a t m) ∙ f)),
  none_of (unit_of p c) (λ l e.
      let u = unit_found p c l (find (λ x. not (p x)) c) refl e in
      ne (sym (no_longer p a l f (test_of_all (also p l) c a u.1 m)) ∙ no_longer p b l g (test_of_all (also p l) c b u.1 n))),
)

pub one_true : (p : ℤ → Bool) (c : List ℤ) (k : ℤ) → among c k ≡ true → p k ≡ false → p (neg_ℤ k) ≡ true → RestsAt p c
one_true p c k m f t = (
  false_of (is_falsified p c) (λ s. true≢false (sym (test_of_all p c k s m) ∙ f)),
  none_of (unit_of p c) (λ l e.
      let u = unit_found p c l (find (λ x. not (p x)) c) refl e in
      let s : l ≡ k = no_longer p k l f (test_of_all (also p l) c k u.1 m) in
      true≢false (sym t ∙ (ap (λ x. p (neg_ℤ x)) (sym s) ∙ (unit_free p c l e).1))),
)

-- no literal is false with its opposite
abbrev pub Agrees : (ℤ → Bool) → Type 0
Agrees p = (k : ℤ) → p (neg_ℤ k) ≡ true → p k ≡ false

pub guarded_rests : (p : ℤ → Bool) (c : List ℤ) (o : Option Pair) → Agrees p → Stands c o → Guards p p c o → RestsAt p c
guarded_rests p c None ok s g = one_true p c g.0 g.1 (ok g.0 g.2) g.2
guarded_rests p c (Some w) ok s g = ⊎_elim
    (λ (t : p w.first ≡ true). one_true p c w.second s.1 (ok w.second (g.0 t)) (g.0 t))
    (λ (f : p w.first ≡ false). ⊎_elim
    (λ (t : p w.second ≡ true). one_true p c w.first s.0 (ok w.first (g.1 t)) (g.1 t))
    (λ (h : p w.second ≡ false). two_left p c w.first w.second s.0 s.1 s.2 f h)
    (true_or_false (p w.second)))
    (true_or_false (p w.first))

pub named_among : (most : ℕ) (c : List ℤ) (l : ℤ) → All (Names most) c → among c l ≡ true → Names most l
named_among most [] l a e = absurd (true≢false (sym e))
named_among most (k ∷ ks) l a e = ⊎_elim
    (λ (s : int_eq k l ≡ true). subst (Names most) (same k l s) (All-head (Names most) k ks a))
    (λ (s : int_eq k l ≡ false). named_among most ks l (All-tail (Names most) k ks a) (sym (ap (λ b. b || among ks l) s) ∙ e))
    (true_or_false (int_eq k l))
