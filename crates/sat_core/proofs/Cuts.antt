-- The clause and hints of the first cut.
use Rattle.std.proofs.Common.{ℕ, zero, suc, ◌+◌, ◌-◌, ◌<◌, ◌≤◌, ℤ, neg_ℤ, unsigned_abs, Bool, true, false, not, ◌||◌, List, [], ◌∷◌, ◌++◌, ◌≡◌, refl, Option, Some, length, take, set, get_or, slice_get, unwrap_or, sym, subst, ap, ◌∙◌, arith, true≢false, ⊎_elim, ◌⊎◌, inl, inr, option_and_then}
use Rattle.std.specs.List.{find}
use Rattle.std.specs.Ordering.{int_eq}
use Rattle.std.proofs.lemmas.Bool.{cases_eq}
use Rattle.std.proofs.lemmas.List.{length-set, take_more}
use Rattle.cnf_core.specs.Validity.{among, also, is_falsified, unit_of, numbered, leads, if_some}
use Rattle.sat_core.specs.declared.trail.Entry.{Entry}
use Rattle.sat_core.specs.declared.cutting.Resolvent.{Resolvent}
use Rattle.sat_core.specs.Trails.{falsified, IsTrail, IsFree, HasReason, AreNamed}
use Rattle.sat_core.specs.Rest.{IsConflict}
use Rattle.sat_core.specs.Cuts.{marked, Marks, onto, front, CutAt, NoDecision, IsDecision, NoneMarked, BeforeCut, IsOne, KeepsAt, Asserting, StillAsserting}
use Rattle.sat_core.proofs.Replay.{Within, or_left, or_right, true_or_false, same, itself, unit_here, unit_found, leads_cons}
use Rattle.sat_core.proofs.Setting.{get_here, get_there, abs_opposite}
use Rattle.sat_core.proofs.Clauses.{all_among}
use Rattle.sat_core.proofs.Looks.{Agrees, test_of_all}
use Rattle.sat_core.proofs.Passes.{trail_agrees, none_agrees}
use Rattle.sat_core.proofs.Settling.{front_within, falsified_at, take_all}

-- ---- marks
pub among_push : (c : List ℤ) (l k : ℤ) → among (c ++ l ∷ []) k ≡ true → (among c k ≡ true) ⊎ (l ≡ k)
among_push [] l k e = ⊎_elim (λ t. inr (same l k t)) (λ f. absurd (true≢false (sym e ∙ ap (λ b. b || false) f))) (true_or_false (int_eq l k))
among_push (x ∷ c) l k e = ⊎_elim
    (λ (t : int_eq x k ≡ true). inl (or_left (int_eq x k) (among c k) t))
    (λ (f : int_eq x k ≡ false). ⊎_elim (λ a. inl (or_right (int_eq x k) (among c k) a)) (λ a. inr a) (among_push c l k (sym (ap (λ b. b || among (c ++ l ∷ []) k) f) ∙ e)))
    (true_or_false (int_eq x k))

pub among_left : (c : List ℤ) (l k : ℤ) → among c k ≡ true → among (c ++ l ∷ []) k ≡ true
among_left [] l k e = absurd (true≢false (sym e))
among_left (x ∷ c) l k e = ⊎_elim
    (λ (t : int_eq x k ≡ true). or_left (int_eq x k) (among (c ++ l ∷ []) k) t)
    (λ (f : int_eq x k ≡ false). or_right (int_eq x k) (among (c ++ l ∷ []) k) (among_left c l k (sym (ap (λ b. b || among c k) f) ∙ e)))
    (true_or_false (int_eq x k))

pub among_last : (c : List ℤ) (l : ℤ) → among (c ++ l ∷ []) l ≡ true
among_last [] l = or_left (int_eq l l) false (itself l)
among_last (x ∷ c) l = or_right (int_eq x l) (among (c ++ l ∷ []) l) (among_last c l)

mark_here : (marks : List Bool) (p : ℕ) (k : ℤ) → p < length marks → unsigned_abs k - 1 ≡ p → marked (set marks p true) k ≡ true
mark_here marks p k w e = ap (λ i. unwrap_or (slice_get (set marks p true) i) false) e ∙ ap (λ o. unwrap_or o false) (get_here marks p true w)

mark_more : (marks : List Bool) (p : ℕ) (k : ℤ) → p < length marks → marked marks k ≡ true → marked (set marks p true) k ≡ true
mark_more marks p k w t = ⊎_elim
    (λ (e : unsigned_abs k - 1 ≡ p). mark_here marks p k w e)
    (λ ne. ap (λ o. unwrap_or o false) (get_there marks p (unsigned_abs k - 1) true (λ q. ne (sym q))) ∙ t)
    (cases_eq (unsigned_abs k - 1) p)

pub marks_more : (old now new : List Bool) (c : List ℤ) (i : ℕ) (l : ℤ) (p : ℕ) → i < length c → l ≡ get_or c i l → p ≡ unsigned_abs l - 1 → p < length now → Marks old now (take i c) → new ≡ set now p true → Marks old new (take (i + 1) c)
marks_more old now new c i l p w is e r m so = subst (λ x. Marks old x (take (i + 1) c)) (sym so) (record {
  long = length-set now p true ∙ m.long;
  more = λ k t. mark_more now p k r (m.more k t);
  each = λ k t. ⊎_elim
      (λ a. mark_more now p k r (m.each k a))
      (λ (a : l ≡ k). mark_here now p k r (ap (λ x. unsigned_abs x - 1) (sym a) ∙ sym e))
      (among_push (take i c) l k (sym (ap (λ x. among x k) (take_more c i l w ∙ ap (λ x. take i c ++ x ∷ []) (sym is))) ∙ t));
})

pub marks_none : (marks : List Bool) (c : List ℤ) → Marks marks marks (take 0 c)
marks_none marks c = record { long = refl; more = λ k t. t; each = λ k t. absurd (true≢false (sym t)) }

-- ---- hints
pub onto_push : (ms ns : List ℕ) (n : ℕ) → onto (ms ++ n ∷ []) ns ≡ n ∷ onto ms ns
onto_push [] ns n = refl
onto_push (m ∷ ms) ns n = onto_push ms (m ∷ ns) n

-- ---- what is false by the trail
pub take_twice : (es : List Entry) (i j : ℕ) → i ≤ j → take i (take j es) ≡ take i es
take_twice [] zero j w = refl
take_twice [] (suc i) zero w = refl
take_twice [] (suc i) (suc j) w = refl
take_twice (e ∷ es) zero j w = refl
take_twice (e ∷ es) (suc i) zero w = absurd (omega (arith, w))
take_twice (e ∷ es) (suc i) (suc j) w = ap (λ fs. e ∷ fs) (take_twice es i j (omega (arith, w)))

pub front_up : (es : List Entry) (i j : ℕ) → i ≤ j → Within (front es i) (front es j)
front_up es i j w k t = front_within (take j es) i k (subst (λ fs. falsified (among []) fs k ≡ true) (sym (take_twice es i j w)) t)

-- what is false by entries of which none is marked was false before them
unmarked : (marks : List Bool) (es : List Entry) (i n : ℕ) (k : ℤ) → i ≤ n → n ≤ length es → NoneMarked marks es i n → marked marks k ≡ true → front es n k ≡ true → front es i k ≡ true
unmarked marks es i zero k w most none m t = subst (λ x. front es x k ≡ true) (let e : 0 ≡ i = omega (arith, w) in e) t
unmarked marks es i (suc n) k w most none m t = ⊎_elim
    (λ (e : suc n ≡ i). subst (λ x. front es x k ≡ true) e t)
    (λ ne.
    let x = there es n (omega (arith, most)) in
    let low : i ≤ n = omega (arith, w, ne) in
    let one : suc n ≡ n + 1 = omega arith in
    let before : front es (n + 1) k ≡ true = subst (λ y. front es y k ≡ true) one t in
    let split : also (front es n) (neg_ℤ x.0.lit) k ≡ true = subst (λ (q : ℤ → Bool). q k ≡ true) (falsified_at es n x.0 x.1) before in
    ⊎_elim
    (λ (s : int_eq (neg_ℤ x.0.lit) k ≡ true).
    let q : neg_ℤ x.0.lit ≡ k = same (neg_ℤ x.0.lit) k s in
    absurd (true≢false (sym m ∙ (ap (λ y. unwrap_or (slice_get marks (y - 1)) false) (ap unsigned_abs (sym q) ∙ abs_opposite x.0.lit) ∙ none n x.0 low (omega arith) x.1))))
    (λ (s : int_eq (neg_ℤ x.0.lit) k ≡ false).
    unmarked marks es i n k low (omega (arith, most)) (λ j e a b g. none j e a (omega (arith, b)) g) m (sym (ap (λ b. b || front es n k) s) ∙ split))
    (true_or_false (int_eq (neg_ℤ x.0.lit) k)))
    (cases_eq (suc n) i)
  where
    there : (fs : List Entry) (j : ℕ) → j < length fs → (e : Entry) × (slice_get fs j ≡ Some e)
    there [] j v = absurd (omega (arith, v))
    there (f ∷ fs) zero v = (f, refl)
    there (f ∷ fs) (suc j) v = there fs j (omega (arith, v))

-- entries that aren't marked are passed over
pub passed_over : (known : List (List ℤ)) (es : List Entry) (i n : ℕ) (r : Resolvent) → i ≤ n → n ≤ length es → NoneMarked r.marks es i n → CutAt known es n r → CutAt known es i r
passed_over known es i n r w most none c = record {
  leads = λ d m a up. c.leads d (λ k t f. m k t (unmarked r.marks es i n k w most none t f)) a (λ k t. ⊎_elim (λ f. inl (front_up es i n w k f)) (λ x. inr x) (up k t));
  later = λ k t. let l = c.later k t in (l.0, out (front es i k) (front es n k) (front_up es i n w k) l.1);
  some = c.some;
}
  where
    out : (a b : Bool) → (a ≡ true → b ≡ true) → b ≡ false → a ≡ false
    out true b f e = absurd (true≢false (sym (f refl) ∙ e))
    out false b f e = refl

-- ---- the conflicting clause
pub start_cut : (known : List (List ℤ)) (es : List Entry) (n : ℕ) (r : Resolvent) → IsConflict known (falsified (among []) es) n → ((c : List ℤ) → numbered known n ≡ Some c → (k : ℤ) → among c k ≡ true → marked r.marks k ≡ true) →
    r.clause ≡ [] → r.hints ≡ n ∷ [] → CutAt known es (length es) r
start_cut known es n r conflict marks empty hints = record {
  leads = λ d m a up.
      ap (λ hs. leads known d (onto hs [])) hints
      ∙ (ap (λ (o : Option (List ℤ)). if_some o (is_falsified d)) conflict.1
      ∙ all_among d conflict.0 (λ k t. m k (marks conflict.0 conflict.1 k t)
      (subst (λ fs. falsified (among []) fs k ≡ true) (sym (take_all es (length es) (omega arith))) (test_of_all (falsified (among []) es) conflict.0 k conflict.2 t))));
  later = λ k t. absurd (true≢false (sym (ap (λ c. among c k) (sym empty) ∙ t)));
  some = (n, [], ap (λ hs. onto hs []) hints);
}

pub trail_at : (known : List (List ℤ)) (p : ℤ → Bool) (es : List Entry) (i : ℕ) (e : Entry) → IsTrail known p es → slice_get es i ≡ Some e →
    IsFree (falsified p (take i es)) e.lit × HasReason known (falsified p (take i es)) e.lit e.reason
trail_at known p [] i e t g = absurd (cc)
trail_at known p (x ∷ es) zero e t g = let q : x ≡ e = cc in subst (λ y. IsFree p y.lit × HasReason known p y.lit y.reason) q (t.0, t.1)
trail_at known p (x ∷ es) (suc i) e t g = trail_at known (also p (neg_ℤ x.lit)) es i e t.2 g

false_unless : (b : Bool) → (b ≡ true → ⊥) → b ≡ false
false_unless true f = absurd (f refl)
false_unless false f = refl

module _ (known : List (List ℤ)) (most : ℕ) (es : List Entry) (i : ℕ) (e : Entry) (trail : IsTrail known (among []) es) (named : AreNamed most es) (at : slice_get es i ≡ Some e) where
  next_front : front es (i + 1) ≡ also (front es i) (neg_ℤ e.lit)
  next_front = falsified_at es i e at

  agrees : Agrees (falsified (among []) es)
  agrees = trail_agrees known most (among []) es none_agrees trail named

  is_free : IsFree (front es i) e.lit
  is_free = (trail_at known (among []) es i e trail at).0

  next_cases : (k : ℤ) → front es (i + 1) k ≡ true → (neg_ℤ e.lit ≡ k) ⊎ (front es i k ≡ true)
  next_cases k t =
      let u : also (front es i) (neg_ℤ e.lit) k ≡ true = subst (λ (q : ℤ → Bool). q k ≡ true) next_front t in
      ⊎_elim (λ s. inl (same (neg_ℤ e.lit) k s)) (λ f. inr (sym (ap (λ b. b || front es i k) f) ∙ u)) (true_or_false (int_eq (neg_ℤ e.lit) k))

  next_up : (k : ℤ) → front es i k ≡ true → front es (i + 1) k ≡ true
  next_up k t = front_up es i (i + 1) (omega arith) k t

  next_own : front es (i + 1) (neg_ℤ e.lit) ≡ true
  next_own = subst (λ (q : ℤ → Bool). q (neg_ℤ e.lit) ≡ true) (sym next_front) (or_left (int_eq (neg_ℤ e.lit) (neg_ℤ e.lit)) (front es i (neg_ℤ e.lit)) (itself (neg_ℤ e.lit)))

  pub own_false : falsified (among []) es (neg_ℤ e.lit) ≡ true
  own_false = front_within es (i + 1) (neg_ℤ e.lit) next_own

  lower : (k : ℤ) → front es (i + 1) k ≡ false → front es i k ≡ false
  lower k f = false_unless (front es i k) (λ t. true≢false (sym (next_up k t) ∙ f))

  -- the entry's literal is kept
  pub kept_cut : (old new : Resolvent) → new.clause ≡ old.clause ++ neg_ℤ e.lit ∷ [] → new.marks ≡ old.marks → new.hints ≡ old.hints → CutAt known es (i + 1) old → CutAt known es i new
  kept_cut old new so marks hints c = record {
    leads = λ d m a up.
        ap (λ hs. leads known d (onto hs [])) hints
        ∙ c.leads d
        (λ k t f. ⊎_elim
        (λ (q : neg_ℤ e.lit ≡ k). a k (subst (λ x. among x k ≡ true) (sym so) (subst (λ x. among (old.clause ++ neg_ℤ e.lit ∷ []) x ≡ true) q (among_last old.clause (neg_ℤ e.lit)))))
        (λ (g : front es i k ≡ true). m k (ap (λ x. marked x k) marks ∙ t) g)
        (next_cases k f))
        (λ k t. a k (subst (λ x. among x k ≡ true) (sym so) (among_left old.clause (neg_ℤ e.lit) k t)))
        (λ k t. ⊎_elim
        (λ f. inl (next_up k f))
        (λ (x : among new.clause k ≡ true). ⊎_elim
        (λ y. inr y)
        (λ (q : neg_ℤ e.lit ≡ k). inl (subst (λ z. front es (i + 1) z ≡ true) q next_own))
        (among_push old.clause (neg_ℤ e.lit) k (subst (λ z. among z k ≡ true) so x)))
        (up k t));
    later = λ k t. ⊎_elim
        (λ y. let l = c.later k y in (l.0, lower k l.1))
        (λ (q : neg_ℤ e.lit ≡ k). subst (λ z. (falsified (among []) es z ≡ true) × (front es i z ≡ false)) q (own_false, is_free.1))
        (among_push old.clause (neg_ℤ e.lit) k (subst (λ z. among z k ≡ true) so t));
    some = (c.some.0, c.some.1, ap (λ hs. onto hs []) hints ∙ c.some.2);
  }

  -- the entry is replaced by its reason
  module _ (n : ℕ) (reason : e.reason ≡ Some n) (old new : Resolvent) (marks : (c : List ℤ) → numbered known n ≡ Some c → Marks old.marks new.marks c) (clause : new.clause ≡ old.clause)
      (hints : new.hints ≡ old.hints ++ n ∷ []) (cut : CutAt known es (i + 1) old) where
    why : (c : List ℤ) × (numbered known n ≡ Some c) × (unit_of (front es i) c ≡ Some e.lit)
    why = subst (HasReason known (front es i) e.lit) reason (trail_at known (among []) es i e trail at).1

    pub replaced_cut : CutAt known es i new
    replaced_cut =
        let w = why in
        let u = unit_found (front es i) w.0 e.lit (find (λ x. not (front es i x)) w.0) refl w.2 in
        let mk = marks w.0 w.1 in
        record {
          leads = λ d m a up.
              let out : d e.lit ≡ false = false_unless (d e.lit) (λ t. ⊎_elim
              (λ (f : front es i e.lit ≡ true). true≢false (sym f ∙ is_free.0))
              (λ (x : among new.clause e.lit ≡ true). true≢false (sym (cut.later e.lit (subst (λ z. among z e.lit ≡ true) clause x)).0 ∙ agrees e.lit own_false))
              (up e.lit t)) in
              let out' : d (neg_ℤ e.lit) ≡ false = false_unless (d (neg_ℤ e.lit)) (λ t. ⊎_elim
              (λ (f : front es i (neg_ℤ e.lit) ≡ true). true≢false (sym f ∙ is_free.1))
              (λ (x : among new.clause (neg_ℤ e.lit) ≡ true). true≢false (sym next_own ∙ (cut.later (neg_ℤ e.lit) (subst (λ z. among z (neg_ℤ e.lit) ≡ true) clause x)).1))
              (up (neg_ℤ e.lit) t)) in
              let all : is_falsified (also d e.lit) w.0 ≡ true = all_among (also d e.lit) w.0 (λ k t. ⊎_elim
              (λ (s : int_eq e.lit k ≡ true). or_left (int_eq e.lit k) (d k) s)
              (λ (s : int_eq e.lit k ≡ false). or_right (int_eq e.lit k) (d k) (m k (mk.each k t) (sym (ap (λ b. b || front es i k) s) ∙ test_of_all (also (front es i) e.lit) w.0 k u.1 t)))
              (true_or_false (int_eq e.lit k))) in
              let unit : option_and_then (unit_of d) (numbered known n) ≡ Some e.lit = ap (option_and_then (unit_of d)) w.1 ∙ unit_here d w.0 e.lit out out' u.0 all in
              ap (λ hs. leads known d (onto hs [])) hints
              ∙ (ap (leads known d) (onto_push old.hints [] n)
              ∙ (leads_cons known d n (onto old.hints []) cut.some
              ∙ (ap (λ (o : Option ℤ). if_some o (λ l. leads known (also d (neg_ℤ l)) (onto old.hints []))) unit
              ∙ cut.leads (also d (neg_ℤ e.lit))
              (λ k t f. ⊎_elim
              (λ (q : neg_ℤ e.lit ≡ k). or_left (int_eq (neg_ℤ e.lit) k) (d k) (subst (λ x. int_eq (neg_ℤ e.lit) x ≡ true) q (itself (neg_ℤ e.lit))))
              (λ (g : front es i k ≡ true). or_right (int_eq (neg_ℤ e.lit) k) (d k) (m k (mk.more k t) g))
              (next_cases k f))
              (λ k t. or_right (int_eq (neg_ℤ e.lit) k) (d k) (a k (subst (λ z. among z k ≡ true) (sym clause) t)))
              (λ k t. ⊎_elim
              (λ (s : int_eq (neg_ℤ e.lit) k ≡ true). inl (subst (λ z. front es (i + 1) z ≡ true) (same (neg_ℤ e.lit) k s) next_own))
              (λ (s : int_eq (neg_ℤ e.lit) k ≡ false). ⊎_elim
              (λ f. inl (next_up k f))
              (λ (x : among new.clause k ≡ true). inr (subst (λ z. among z k ≡ true) clause x))
              (up k (sym (ap (λ b. b || d k) s) ∙ t)))
              (true_or_false (int_eq (neg_ℤ e.lit) k))))));
          later = λ k t. let l = cut.later k (subst (λ z. among z k ≡ true) clause t) in (l.0, lower k l.1);
          some = (n, onto old.hints [], ap (λ hs. onto hs []) hints ∙ onto_push old.hints [] n);
        }

-- ---- where the clause is asserted
pub keeps_cut : (known : List (List ℤ)) (most : ℕ) (es : List Entry) (i : ℕ) (old new : Resolvent) → IsTrail known (among []) es → AreNamed most es → KeepsAt es i old new → CutAt known es (i + 1) old → CutAt known es i new
keeps_cut known most es i old new trail named k c = kept_cut known most es i k.entry trail named k.at old new k.clause k.marks k.hints c

-- the last level is done
pub kept_first : (known : List (List ℤ)) (most : ℕ) (es : List Entry) (start i : ℕ) (old new : Resolvent) → IsTrail known (among []) es → AreNamed most es → start ≤ i → i < length es → NoneMarked old.marks es start i → KeepsAt es i old new → CutAt known es (i + 1) old → CutAt known es start new
kept_first known most es start i old new trail named w most_i none k c =
    passed_over known es start i new w (omega (arith, most_i)) (subst (λ m. NoneMarked m es start i) (sym k.marks) none) (keeps_cut known most es i old new trail named k c)

pub one_kept : (es : List Entry) (i : ℕ) (old new : Resolvent) → old.clause ≡ [] → KeepsAt es i old new → IsOne new.clause
one_kept es i old new empty k = (neg_ℤ k.entry.lit, k.clause ∙ ap (λ c. c ++ neg_ℤ k.entry.lit ∷ []) empty)

rest_cons : (first x l : ℤ) (rest more : List ℤ) → rest ++ x ∷ [] ≡ l ∷ more → ((rest ≡ []) × (x ≡ l)) ⊎ ((zs : List ℤ) × (rest ≡ l ∷ zs))
rest_cons first x l [] more e = inl (refl, cc)
rest_cons first x l (y ∷ ys) more e = inr (ys, let q : y ≡ l = cc in ap (λ z. z ∷ ys) q)

no_push : (rest : List ℤ) (x : ℤ) → rest ++ x ∷ [] ≡ [] → ⊥
no_push [] x e = absurd (cc)
no_push (y ∷ ys) x e = absurd (cc)

pub keeps_asserting : (known : List (List ℤ)) (most : ℕ) (es : List Entry) (i : ℕ) (old new : Resolvent) → IsTrail known (among []) es → AreNamed most es → KeepsAt es i old new → StillAsserting es i old.clause new.clause
keeps_asserting known most es i old new trail named k cut w a =
    let x = neg_ℤ k.entry.lit in
    record {
      first = a.first;
      rest = a.rest ++ x ∷ [];
      clause = k.clause ∙ ap (λ c. c ++ x ∷ []) a.clause;
      decision = a.decision;
      free = a.free;
      others = λ l t. ⊎_elim
          (λ y. a.others l y)
          (λ (q : x ≡ l). front_up es (i + 1) cut w l (subst (λ z. front es (i + 1) z ≡ true) q (next_own known most es i k.entry trail named k.at)))
          (among_push a.rest x l t);
      second = λ l more e. ⊎_elim
          (λ (h : (a.rest ≡ []) × (x ≡ l)). subst (BeforeCut es cut) h.1 (λ j d low at dec. ⊎_elim
          (λ (early : j ≤ i). false_unless (front es j x) (λ t. true≢false (sym (front_up es j i early x t) ∙ (is_free known most es i k.entry trail named k.at).1)))
          (λ (late : i + 1 ≤ j). absurd (a.only h.0 j d late low at dec))
          (early_or_late j i)))
          (λ (h : (zs : List ℤ) × (a.rest ≡ l ∷ zs)). a.second l h.0 h.1)
          (rest_cons a.first x l a.rest more e);
      only = λ e. absurd (no_push a.rest x e);
    }
  where
    early_or_late : (j m : ℕ) → (j ≤ m) ⊎ (m + 1 ≤ j)
    early_or_late zero m = inl (omega arith)
    early_or_late (suc j) zero = inr (omega arith)
    early_or_late (suc j) (suc m) = ⊎_elim (λ h. inl (omega (arith, h))) (λ h. inr (omega (arith, h))) (early_or_late j m)

pub same_asserting : (es : List Entry) (i : ℕ) (old new : List ℤ) → new ≡ old → StillAsserting es i old new
same_asserting es i old new e = subst (StillAsserting es i old) (sym e) (λ cut w a. a)

-- the cut goes down to a decision
pub cut_lower : (es : List Entry) (clause : List ℤ) (i cut : ℕ) → i + 1 ≤ cut → length clause ≤ 1 → IsDecision es i → Asserting es clause (i + 1) cut → Asserting es clause i i
cut_lower es clause i cut w short dec a =
    let none = no_rest clause a.first a.rest a.clause short in
    record {
      first = a.first;
      rest = a.rest;
      clause = a.clause;
      decision = dec;
      free = false_unless (front es i a.first) (λ t. true≢false (sym (front_up es i cut (omega (arith, w)) a.first t) ∙ a.free));
      others = λ k t. absurd (true≢false (sym (ap (λ c. among c k) (sym none) ∙ t)));
      second = λ l more e. absurd (let q : [] ≡ l ∷ more = sym none ∙ e in cc);
      only = λ e j d low high. absurd (omega (arith, low, high));
    }
  where
    no_rest : (c : List ℤ) (x : ℤ) (r : List ℤ) → c ≡ x ∷ r → length c ≤ 1 → r ≡ []
    no_rest c x [] e s = refl
    no_rest c x (y ∷ r) e s = let q : length c ≡ length r + 2 = ap length e ∙ omega arith in absurd (omega (arith, q, s))

pub cut_stays : (es : List Entry) (clause : List ℤ) (i cut : ℕ) → (length clause ≤ 1 → NoDecision es i (i + 1)) → Asserting es clause (i + 1) cut → Asserting es clause i cut
cut_stays es clause i cut none a = record {
  first = a.first;
  rest = a.rest;
  clause = a.clause;
  decision = a.decision;
  free = a.free;
  others = a.others;
  second = a.second;
  only = λ e j d low high at. ⊎_elim
      (λ (q : j ≡ i). none (short clause a.first a.rest a.clause e) j d low (omega (arith, q)) at)
      (λ ne. a.only e j d (omega (arith, low, ne)) high at)
      (cases_eq j i);
}
  where
    short : (c : List ℤ) (x : ℤ) (r : List ℤ) → c ≡ x ∷ r → r ≡ [] → length c ≤ 1
    short c x r e f = let q : length c ≡ 1 = ap length e ∙ ap (λ z. length (x ∷ z)) f in omega (arith, q)

pub asserting_start : (es : List Entry) (start : ℕ) (clause : List ℤ) → IsDecision es start → IsOne clause → ((k : ℤ) → among clause k ≡ true → front es start k ≡ false) → Asserting es clause start start
asserting_start es start clause dec one out = record {
  first = one.0;
  rest = [];
  clause = one.1;
  decision = dec;
  free = out one.0 (subst (λ c. among c one.0 ≡ true) (sym one.1) (or_left (int_eq one.0 one.0) false (itself one.0)));
  others = λ k t. absurd (true≢false (sym t));
  second = λ l more e. absurd (cc);
  only = λ e j d low high. absurd (omega (arith, low, high));
}
