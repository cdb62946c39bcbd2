-- From the walks of one run's moves, at its own input and at another, to the two paths.
use Rattle.std.proofs.Common.{Bool, true, false, ◌≡◌, ◌⊎◌, inl, inr, List, [], ◌∷◌, ◌++◌, Option, Some, None, refl, ap, sym, subst, ◌∙◌}
use Rattle.path_core.specs.declared.path.End.{End}
use Rattle.path_core.specs.declared.path.Event.{Event}
use Rattle.js_meaning.specs.Running.{Item, passed, made, Outcome}
use Rattle.js_meaning.specs.Path.{end_of}
use Rattle.js_meaning.specs.Apart.{Silent}
use Rattle.term_table.specs.declared.term.TermId.{TermId}
use Rattle.term_table.specs.declared.moves.Move.{Move}
use Rattle.term_table.specs.declared.moves.Move.TheVariants as move
use Rattle.term_table.specs.Views.{View, passes, holds}
use Rattle.term_table.specs.Walking.{Passing, Failing}
use Rattle.js_ends.specs.Ends.{IsAgain, AreApart}
use Rattle.js_ends.specs.Alike.{Guarded, guarded_path, EndsPath, Reached, Leads, EndsOutcome, ReachedOutcome, LeadsOutcome, IsBehind, exits, Begins, AreAlike, EndsAsWell, IsPassed, IsNeverPassed, IsSince, Tells}

-- a guard stopped the run
abbrev IsStopped : Option TermId → Type 0
IsStopped None = ⊥
IsStopped (Some t) = Unit {0}

-- as long as the events are the same; where the run ends, only a guard that stopped it is passed
Alike : Option TermId → List Item → End → List Item → End → Type 0
Alike o [] e [] f = e ≡ f
Alike o [] e (passed y ∷ ys) f = IsStopped o × (e ≡ y)
Alike o [] e (made v ∷ ys) f = ⊥
Alike o (passed x ∷ xs) e [] f = f ≡ x
Alike o (passed x ∷ xs) e (passed y ∷ ys) f = (x ≡ y) × Alike o xs e ys f
Alike o (passed x ∷ xs) e (made v ∷ ys) f = ⊥
Alike o (made u ∷ xs) e [] f = ⊥
Alike o (made u ∷ xs) e (passed y ∷ ys) f = ⊥
Alike o (made u ∷ xs) e (made v ∷ ys) f = u ≡ v → Alike o xs e ys f

abbrev AlikePaths : Option TermId → Guarded → Guarded → Type 0
AlikePaths o w u = Alike o w.0 w.1 u.0 u.1

-- behind a guard of the run
past_guard : (o : Option TermId) (b : Bool) (exit : End) (w rest u : Guarded) (go : Guarded → Type 0) →
    w ≡ (passed exit ∷ rest.0, rest.1) → ((u : Guarded) → go u → AlikePaths o rest u) →
    Passing EndsPath b exit u go → AlikePaths o w u
unfolding Alike
past_guard o true exit w rest u go p k h =
    subst (λ x. AlikePaths o x u) (sym p) (subst (λ x. AlikePaths o (passed exit ∷ rest.0, rest.1) x) (sym h.is) (refl, k h.rest h.on))
past_guard o false exit w rest (items, f) go p k h =
    subst (λ x. AlikePaths o x (items, f)) (sym p) (subst (λ ys. AlikePaths o (passed exit ∷ rest.0, rest.1) (ys, f)) (sym h.0) h.1)

-- at the guard where the run failed
at_failed : (t : TermId) (b : Bool) (exit : End) (w u : Guarded) → w.0 ≡ [] → w.1 ≡ exit → Failing EndsPath b exit u →
    AlikePaths (Some t) w u
unfolding Alike
at_failed t true exit (items, e) u p q h =
    subst (λ x. AlikePaths (Some t) (items, e) x) (sym h.is) (subst (λ xs. Alike (Some t) xs e (passed exit ∷ h.rest.0) h.rest.1) (sym p) (tt, q))
at_failed t false exit (items, e) (others, f) p q h =
    subst (λ xs. Alike (Some t) xs e others f) (sym p) (subst (λ ys. Alike (Some t) [] e ys f) (sym h.0) (q ∙ sym h.1))

at_end : (view : View) (failed : Option TermId) (end : End) (w u : Guarded) → Reached None failed end w →
    Reached view failed end u → AlikePaths failed w u
unfolding Alike
at_end view None end w u p q =
    subst (λ w. AlikePaths None w u) (sym p) (subst (λ u. AlikePaths None ([], end) u) (sym q) refl)
at_end view (Some t) end w u p q = at_failed t (holds view t) end w u p.0 p.1 q

walks_alike : (view : View) (moves : List Move) (failed : Option TermId) (end : End) (w u : Guarded) →
    Leads None moves failed end w → Leads view moves failed end u → AlikePaths failed w u
unfolding Alike
walks_alike view [] failed end w u h k = at_end view failed end w u h k
walks_alike view (move.Guard t exit ∷ moves) failed end w u h k =
    past_guard failed (passes view t) exit w h.rest u (λ u. Leads view moves failed end u) h.is (λ u k. walks_alike view moves failed end h.rest u h.on k) k
walks_alike view (move.Event e choice ∷ moves) failed end w u h k =
    subst (λ w. AlikePaths failed w u) (sym h.is) (subst (λ u. AlikePaths failed (made e ∷ h.rest.0, h.rest.1) u) (sym k.is)
    (λ same. walks_alike view moves failed end h.rest k.rest (h.on refl) (k.on (sym same))))

-- ---- of two such lists of exits one begins with the other

one_begins : (o : Option TermId) (xs : List Item) (e : End) (ys : List Item) (f : End) → Alike o xs e ys f →
    Begins (exits xs e) (exits ys f) ⊎ Begins (exits ys f) (exits xs e)
unfolding Alike
one_begins o [] e [] f h = inl ([], ap (λ x. x ∷ []) h)
one_begins o [] e (passed y ∷ ys) f h = inl (exits ys f, ap (λ x. x ∷ exits ys f) h.1)
one_begins o [] e (made v ∷ ys) f h = absurd h
one_begins o (passed x ∷ xs) e [] f h = inr (exits xs e, ap (λ y. y ∷ exits xs e) h)
one_begins o (passed x ∷ xs) e (passed y ∷ ys) f h = more (one_begins o xs e ys f h.1)
  where
    more : Begins (exits xs e) (exits ys f) ⊎ Begins (exits ys f) (exits xs e) → Begins (x ∷ exits xs e) (y ∷ exits ys f) ⊎ Begins (y ∷ exits ys f) (x ∷ exits xs e)
    more (inl b) = inl (b.0, ap (λ zs. x ∷ zs) b.1 ∙ ap (λ z. z ∷ exits ys f) h.0)
    more (inr b) = inr (b.0, ap (λ zs. y ∷ zs) b.1 ∙ ap (λ z. z ∷ exits xs e) (sym h.0))
one_begins o (passed x ∷ xs) e (made v ∷ ys) f h = absurd h
one_begins o (made u ∷ xs) e [] f h = absurd h
one_begins o (made u ∷ xs) e (passed y ∷ ys) f h = absurd h
one_begins o (made u ∷ xs) e (made v ∷ ys) f h = inl ([], refl)

alike_behind : (o : Option TermId) (events : List Event) (w0 : List Item) (e : End) (u0 : List Item) (f : End) →
    Alike o w0 e u0 f → (xs ys : List Item) → IsBehind events w0 xs → IsBehind events u0 ys → Alike o xs e ys f
unfolding Alike
alike_behind o [] w0 e u0 f h xs ys p q = subst (λ xs. Alike o xs e ys f) p (subst (λ ys. Alike o w0 e ys f) q h)
alike_behind o (a ∷ events) [] e u0 f h xs ys p q = absurd p
alike_behind o (a ∷ events) (passed x ∷ w0) e [] f h xs ys p q = absurd q
alike_behind o (a ∷ events) (passed x ∷ w0) e (passed y ∷ u0) f h xs ys p q =
    alike_behind o (a ∷ events) w0 e u0 f h.1 xs ys p q
alike_behind o (a ∷ events) (passed x ∷ w0) e (made v ∷ u0) f h xs ys p q = absurd h
alike_behind o (a ∷ events) (made u ∷ w0) e [] f h xs ys p q = absurd q
alike_behind o (a ∷ events) (made u ∷ w0) e (passed y ∷ u0) f h xs ys p q = absurd h
alike_behind o (a ∷ events) (made u ∷ w0) e (made v ∷ u0) f h xs ys p q =
    alike_behind o events w0 e u0 f (h (p.0 ∙ sym q.0)) xs ys p.1 q.1

pub paths_alike : (view : View) (moves : List Move) (failed : Option TermId) (end : End) (w u : Guarded) →
    Leads None moves failed end w → Leads view moves failed end u → AreAlike w u
paths_alike view moves failed end w u h k events xs ys p q =
    one_begins failed xs w.1 ys u.1 (alike_behind failed events w.0 w.1 u.0 u.1 (walks_alike view moves failed end w u h k) xs ys p q)

-- ---- where no guard stopped the run

ends_as_well : (xs : List Item) (e : End) (ys : List Item) (f : End) → Alike None xs e ys f → Silent xs →
    Silent ys × Begins (exits ys f) (exits xs e)
unfolding Alike
ends_as_well [] e [] f h s = (tt, ([], ap (λ x. x ∷ []) (sym h)))
ends_as_well [] e (passed y ∷ ys) f h s = absurd h.0
ends_as_well [] e (made v ∷ ys) f h s = absurd h
ends_as_well (passed x ∷ xs) e [] f h s = (tt, (exits xs e, ap (λ y. y ∷ exits xs e) h))
ends_as_well (passed x ∷ xs) e (passed y ∷ ys) f h s =
    let r = ends_as_well xs e ys f h.1 s in
    (r.0, (r.1.0, ap (λ zs. y ∷ zs) r.1.1 ∙ ap (λ z. z ∷ exits xs e) (sym h.0)))
ends_as_well (passed x ∷ xs) e (made v ∷ ys) f h s = absurd h
ends_as_well (made u ∷ xs) e ys f h s = absurd s

again_end : (x : End) (xs : List Item) (e : End) → Silent xs → x ≡ e → IsAgain x xs e
again_end x [] e s p = p
again_end x (passed y ∷ xs) e s p = inr (again_end x xs e s p)
again_end x (made u ∷ xs) e s p = s

never_passed : (xs : List Item) (e : End) (ys : List Item) (f : End) → Alike None xs e ys f → Silent xs →
    AreApart xs e → IsPassed e ys → ⊥
unfolding Alike
never_passed xs e [] f h s a n = n
never_passed [] e (passed y ∷ ys) f h s a n = h.0
never_passed (passed x ∷ xs) e (passed y ∷ ys) f h s a (inl p) = a.0 (again_end x xs e s (h.0 ∙ p))
never_passed (passed x ∷ xs) e (passed y ∷ ys) f h s a (inr n) = never_passed xs e ys f h.1 s a.1 n
never_passed (made u ∷ xs) e (passed y ∷ ys) f h s a n = s
never_passed xs e (made v ∷ ys) f h s a n = n

apart_behind : (events : List Event) (items xs : List Item) (e : End) → IsBehind events items xs → AreApart items e →
    AreApart xs e
apart_behind [] items xs e b a = subst (λ xs. AreApart xs e) b a
apart_behind (v ∷ events) [] xs e b a = absurd b
apart_behind (v ∷ events) (passed x ∷ items) xs e b a = apart_behind (v ∷ events) items xs e b a.1
apart_behind (v ∷ events) (made u ∷ items) xs e b a = apart_behind events items xs e b.1 a

pub unguarded_follows : (view : View) (moves : List Move) (end : End) (w u : Guarded) → Leads None moves None end w →
    Leads view moves None end u → EndsAsWell w u
unguarded_follows view moves end w u h k events xs ys p q s =
    ends_as_well xs w.1 ys u.1 (alike_behind None events w.0 w.1 u.0 u.1 (walks_alike view moves None end w u h k) xs ys p q) s

pub unguarded_passed : (view : View) (moves : List Move) (end : End) (w u : Guarded) → Leads None moves None end w →
    Leads view moves None end u → AreApart w.0 w.1 → IsNeverPassed w u
unguarded_passed view moves end w u h k a events xs ys p q s n =
    never_passed xs w.1 ys u.1 (alike_behind None events w.0 w.1 u.0 u.1 (walks_alike view moves None end w u h k) xs ys p q) s (apart_behind events w.0 xs w.1 p a) n

-- ---- of outcomes

shown_end : (exit : End) (r : Outcome) → EndsOutcome exit r.1 → EndsPath exit (guarded_path r).1
shown_end exit r h = h

guard_outcome : (b : Bool) (exit : End) (r : Outcome) (go : Outcome → Type 0) (go' : Guarded → Type 0) →
    ((r : Outcome) → go r → go' (guarded_path r)) → Passing EndsOutcome b exit r go →
    Passing EndsPath b exit (guarded_path r) go'
guard_outcome true exit r go go' k h =
    record { rest = guarded_path h.rest; is = ap guarded_path h.is; on = k h.rest h.on }
guard_outcome false exit r go go' k h = (h.0, h.1)

failed_outcome : (b : Bool) (exit : End) (r : Outcome) → Failing EndsOutcome b exit r →
    Failing EndsPath b exit (guarded_path r)
failed_outcome true exit r h = record { rest = guarded_path h.rest; is = ap guarded_path h.is; on = tt }
failed_outcome false exit r h = (h.0, h.1)

reached_outcome : (view : View) (failed : Option TermId) (end : End) (r : Outcome) →
    ReachedOutcome view failed end r → Reached view failed end (guarded_path r)
reached_outcome view None end (items, p) h =
    ap (λ items. (items, end_of p.0 p.1)) h.0 ∙ ap (λ (e : End). ([], e)) h.1
reached_outcome view (Some t) end r h = failed_outcome (holds view t) end r h

pub outcome_leads : (view : View) (moves : List Move) (failed : Option TermId) (end : End) (r : Outcome) →
    LeadsOutcome view moves failed end r → Leads view moves failed end (guarded_path r)
outcome_leads view [] failed end r h = reached_outcome view failed end r h
outcome_leads view (move.Guard t exit ∷ moves) failed end r h =
    guard_outcome (passes view t) exit r (λ r. LeadsOutcome view moves failed end r) (λ w. Leads view moves failed end w) (λ r h. outcome_leads view moves failed end r h) h
outcome_leads view (move.Event e choice ∷ moves) failed end r h =
    record { rest = guarded_path h.rest; is = ap guarded_path h.is; on = λ same. outcome_leads view moves failed end h.rest (h.on same) }

-- ---- what an end tells

again_later : (x : End) (xs ys : List Item) (end : End) → Silent xs → IsAgain x ys end → IsAgain x (xs ++ ys) end
again_later x [] ys end q n = n
again_later x (passed y ∷ xs) ys end q n = inr (again_later x xs ys end q n)
again_later x (made e ∷ xs) ys end q n = absurd q

-- who has passed a guard doesn't end at its exit before the next event
goes_past : (x : End) (xs ys : List Item) (end : End) → AreApart (xs ++ ys) end → IsSince x xs → IsAgain x ys end → ⊥
goes_past x [] ys end p s n = s
goes_past x (passed y ∷ xs) ys end p (inl s) n =
    p.0 (subst (λ z. IsAgain z (xs ++ ys) end) (sym s.0) (again_later x xs ys end s.1 n))
goes_past x (passed y ∷ xs) ys end p (inr s) n = goes_past x xs ys end p.1 s n
goes_past x (made e ∷ xs) ys end p s n = goes_past x xs ys end p s n

apart_right : (xs ys : List Item) (end : End) → AreApart (xs ++ ys) end → AreApart ys end
apart_right [] ys end p = p
apart_right (passed x ∷ xs) ys end p = apart_right xs ys end p.1
apart_right (made e ∷ xs) ys end p = apart_right xs ys end p

pub ends_tell : (before : List Item) (exit : End) (behind : List Item) (end : End) →
    AreApart (before ++ (passed exit ∷ behind)) end → Tells before exit behind end
ends_tell before exit behind end p x (inl s) n = goes_past x before (passed exit ∷ behind) end p s (inr n)
ends_tell before exit behind end p x (inr e) n =
    (apart_right before (passed exit ∷ behind) end p).0 (subst (λ z. IsAgain z behind end) (sym e) n)
