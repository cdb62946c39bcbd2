-- What is learnt at the first cut is valid, asserted and new.
use Rattle.std.proofs.Common.{ℕ, zero, suc, ℤ, pos, negsuc, neg_ℤ, Bool, true, false, not, ◌||◌, List, [], ◌∷◌, ◌≡◌, refl, Option, Some, None, take, get_or, slice_get, sym, subst, ap, ◌∙◌, true≢false, ⊎_elim, inr}
use Rattle.std.specs.List.{All}
use Rattle.std.specs.Ordering.{int_eq}
use Rattle.std.proofs.lemmas.List.Elements.{All-head, All-tail}
use Rattle.std.proofs.lemmas.List.Folds.{list_any_at}
use Rattle.std.proofs.lemmas.Option.{slice_get-get_or}
use Rattle.cnf_core.specs.Literals.{Names}
use Rattle.cnf_core.specs.Validity.{among, also, contains, is_falsified, unit_of, numbered, leads, is_plain}
use Rattle.cnf_core.specs.Derivations.{IsFresh}
use Rattle.sat_core.specs.declared.trail.Entry.{Entry}
use Rattle.sat_core.specs.declared.cutting.Resolvent.{Resolvent}
use Rattle.sat_core.specs.declared.cutting.Lesson.{Lesson}
use Rattle.sat_core.specs.Trails.{falsified, IsTrail, AreNamed}
use Rattle.sat_core.specs.Rest.{IsRest}
use Rattle.sat_core.specs.Watching.{AtDecisions, HeldAt}
use Rattle.sat_core.specs.Cuts.{onto, CutAt, Asserting, Teaches}
use Rattle.sat_core.proofs.Replay.{and_both, or_left, or_right, true_or_false, same, itself, unit_here}
use Rattle.sat_core.proofs.Clauses.{all_among, has_new}
use Rattle.sat_core.proofs.Looks.{test_of_all}
use Rattle.sat_core.proofs.Passes.{trail_agrees, none_agrees}

false_unless : (b : Bool) → (b ≡ true → ⊥) → b ≡ false
false_unless true f = absurd (f refl)
false_unless false f = refl

opposite_named : (most : ℕ) (k : ℤ) → Names most k → Names most (neg_ℤ k)
opposite_named most (pos zero) m = m
opposite_named most (pos (suc j)) m = m
opposite_named most (negsuc j) m = m

pub false_named : (most : ℕ) (p : ℤ → Bool) (es : List Entry) (k : ℤ) → ((l : ℤ) → p l ≡ true → Names most l) → AreNamed most es → falsified p es k ≡ true → Names most k
false_named most p [] k h n t = h k t
false_named most p (e ∷ es) k h n t = false_named most (also p (neg_ℤ e.lit)) es k
    (λ l u. ⊎_elim
    (λ (s : int_eq (neg_ℤ e.lit) l ≡ true). subst (Names most) (same (neg_ℤ e.lit) l s) (opposite_named most e.lit (All-head (λ (x : Entry). Names most x.lit) e es n)))
    (λ (s : int_eq (neg_ℤ e.lit) l ≡ false). h l (sym (ap (λ b. b || p l) s) ∙ u))
    (true_or_false (int_eq (neg_ℤ e.lit) l)))
    (All-tail (λ (x : Entry). Names most x.lit) e es n) t

pub all_from_among : (P : ℤ → Type 0) (c : List ℤ) → ((k : ℤ) → among c k ≡ true → P k) → All P c
all_from_among P c h i d w = h (get_or c i d) (list_any_at (λ k. int_eq k (get_or c i d)) c i d w (itself (get_or c i d)))

pub teaches : (known : List (List ℤ)) (most : ℕ) (es : List Entry) (r : Resolvent) (lesson : Lesson) → IsTrail known (among []) es → AreNamed most es → CutAt known es 0 r → Asserting es r.clause 0 lesson.cut →
    lesson.step.clause ≡ r.clause → lesson.step.hints ≡ onto r.hints [] → Teaches known most es lesson
teaches known most es r lesson trail named c a so hints =
    let agrees = trail_agrees known most (among []) es none_agrees trail named in
    let falses : (k : ℤ) → among lesson.step.clause k ≡ true → falsified (among []) es k ≡ true = λ k t. (c.later k (subst (λ x. among x k ≡ true) so t)).0 in
    record {
      first = a.first;
      rest = a.rest;
      clause = so ∙ a.clause;
      asserts = record { decision = a.decision; free = a.free; others = a.others; second = a.second; only = a.only };
      valid =
          and_both (is_plain lesson.step.clause) (leads known (among lesson.step.clause) lesson.step.hints)
          (all_among (λ l. not (among lesson.step.clause (neg_ℤ l))) lesson.step.clause
          (λ k t. ap not (false_unless (among lesson.step.clause (neg_ℤ k)) (λ u. true≢false (sym (falses k t) ∙ agrees k (falses (neg_ℤ k) u))))))
          (ap (leads known (among lesson.step.clause)) hints
          ∙ c.leads (among lesson.step.clause) (λ k m f. absurd (true≢false (sym f))) (λ k t. subst (λ x. among x k ≡ true) (sym so) t) (λ k t. inr (subst (λ x. among x k ≡ true) so t)));
      named = all_from_among (Names most) lesson.step.clause (λ k t. false_named most (among []) es k (λ l u. absurd (true≢false (sym u))) named (falses k t));
      falses = falses;
    }

-- ---- decisions
held_none : (P : (ℤ → Bool) → Type 0) (r : Option ℕ) (p : ℤ → Bool) → r ≡ None → HeldAt P r p → P p
held_none P None p e h = h
held_none P (Some n) p e h = absurd (cc)

pub decided_at : (P : (ℤ → Bool) → Type 0) (p : ℤ → Bool) (es : List Entry) (i : ℕ) (e : Entry) → slice_get es i ≡ Some e → e.reason ≡ None → AtDecisions P p es → P (falsified p (take i es))
decided_at P p [] i e g n a = absurd (cc)
decided_at P p (x ∷ es) zero e g n a = held_none P x.reason p (let q : x ≡ e = cc in ap (λ (y : Entry). y.reason) q ∙ n) a.0
decided_at P p (x ∷ es) (suc i) e g n a = decided_at P (also p (neg_ℤ x.lit)) es i e g n a.1

held_from : (P : (ℤ → Bool) → Type 0) (r : Option ℕ) (p : ℤ → Bool) → (r ≡ None → P p) → HeldAt P r p
held_from P None p h = h refl
held_from P (Some n) p h = tt

pub decisions_from : (P : (ℤ → Bool) → Type 0) (p : ℤ → Bool) (es : List Entry) → ((i : ℕ) (e : Entry) → slice_get es i ≡ Some e → e.reason ≡ None → P (falsified p (take i es))) → AtDecisions P p es
decisions_from P p [] h = tt
decisions_from P p (x ∷ es) h = (held_from P x.reason p (λ n. h zero x refl n), decisions_from P (also p (neg_ℤ x.lit)) es (λ i e g n. h (suc i) e g n))

-- ---- a clause that is asserted at a rest contains no clause
contained_in : (p : ℤ → Bool) (first : ℤ) (rest c : List ℤ) → ((k : ℤ) → among rest k ≡ true → p k ≡ true) → contains (first ∷ rest) c ≡ true → is_falsified (also p first) c ≡ true
contained_in p first rest c others h = all_among (also p first) c (λ k t. ⊎_elim
    (λ (s : int_eq first k ≡ true). or_left (int_eq first k) (p k) s)
    (λ (s : int_eq first k ≡ false). or_right (int_eq first k) (p k) (others k (sym (ap (λ b. b || among rest k) s) ∙ test_of_all (among (first ∷ rest)) c k h t)))
    (true_or_false (int_eq first k)))

some_none : (o : Option ℤ) (l : ℤ) → o ≡ Some l → o ≡ None → ⊥
some_none o l e f = let q : Some l ≡ None = sym e ∙ f in cc

pub asserted_new : (known : List (List ℤ)) (p : ℤ → Bool) (first : ℤ) (rest : List ℤ) → IsRest known p → p first ≡ false → p (neg_ℤ first) ≡ false → ((k : ℤ) → among rest k ≡ true → p k ≡ true) → IsFresh known (first ∷ rest)
asserted_new known p first rest rests free free' others = (
  λ e. (let q : first ∷ rest ≡ [] = e in cc),
  λ i d w.
      let c = get_or known i d in
      let at : numbered known (suc i) ≡ Some c = slice_get-get_or known i d w in
      let r = rests (suc i) c at in
      false_unless (contains (first ∷ rest) c) (λ h.
      let inside = contained_in p first rest c others h in
      some_none (unit_of p c) first (unit_here p c first free free' (has_new p first c inside r.0) inside) r.1),
)
