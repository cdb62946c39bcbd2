-- A valid step's clause is true wherever the clauses before it are, so that what is refuted has no model.
use Rattle.std.proofs.Common.{ℕ, zero, suc, ℤ, pos, negsuc, neg_ℤ, unsigned_abs, Bool, true, false, not, ◌&&◌, ◌||◌, List, [], ◌∷◌, map, take, length, ◌≡◌, ◌≢◌, ◌<◌, refl, arith, Option, Some, None, sym, subst, ap, ◌∙◌, true≢false, slice_get, get_or, ◌⊎◌, inl, inr, ⊎_elim, get_or-take, length-take, option_and_then}
use Rattle.std.specs.List.{All}
use Rattle.std.specs.Ordering.{int_eq}
use Rattle.std.specs.Cmp.{signed_Decides}
use Rattle.std.proofs.lemmas.Option.{slice_get-get_or}
use Rattle.std.proofs.lemmas.List.Elements.{All-append, All-map}
use Rattle.cnf_core.specs.declared.clauses.Cnf.{Cnf}
use Rattle.cnf_core.specs.declared.clauses.ProofStep.{ProofStep}
use Rattle.cnf_core.specs.declared.clauses.Derivation.{Derivation}
use Rattle.cnf_core.specs.Literals.{Names, lit_true, clause_true, Solves, HasNoModel}
use Rattle.cnf_core.specs.Validity.{among, also, is_falsified, unit_of, numbered, if_some, leads, is_valid}
use Rattle.cnf_core.specs.Derivations.{IsWithin, StepsWithin, known_before, AllValid, HasEmpty, Refutes}
use Rattle.proof_check.proofs.Known.{at_number, known_names, all_take}
use Rattle.proof_check.proofs.Units.{unit_found, found_holds}

and_parts : (a b : Bool) → (a && b) ≡ true → (a ≡ true) × (b ≡ true)
and_parts true b h = (refl, h)
and_parts false b h = absurd (true≢false (sym h))

or_cases : (a b : Bool) → (a || b) ≡ true → (a ≡ true) ⊎ (b ≡ true)
or_cases true b h = inl refl
or_cases false b h = inr h

or_none : (a b : Bool) → (a || b) ≡ false → (a ≡ false) × (b ≡ false)
or_none true b h = absurd (true≢false h)
or_none false b h = (refl, h)

or_false : (a b : Bool) → a ≡ false → b ≡ false → (a || b) ≡ false
or_false true b h k = absurd (true≢false h)
or_false false b h k = k

true_or_false : (b : Bool) → (b ≡ true) ⊎ (b ≡ false)
true_or_false true = inl refl
true_or_false false = inr refl

below_or : (k n : ℕ) → k < suc n → (k < n) ⊎ (k ≡ n)
below_or k n w = grind arith

pub same_lit : (a b : ℤ) → int_eq a b ≡ true → a ≡ b
same_lit a b h = (signed_Decides a b).0 h

not_true : (b : Bool) → not b ≡ true → b ≡ false
not_true true h = absurd (true≢false (sym h))
not_true false h = refl

not_of : (b : Bool) → b ≡ true → not b ≡ false
not_of true h = refl
not_of false h = absurd (true≢false (sym h))

-- 0 is its own opposite, so it is left out
opposite_false : (v : ℕ → Bool) (l : ℤ) → l ≢ pos 0 → lit_true v l ≡ true → lit_true v (neg_ℤ l) ≡ false
opposite_false v (pos zero) n h = absurd (n refl)
opposite_false v (pos (suc n)) m h = not_of (v (suc n)) h
opposite_false v (negsuc n) m h = not_true (v (suc n)) h

-- the values make each of these literals false
abbrev Refuses : (ℕ → Bool) → (ℤ → Bool) → Type 0
Refuses v is_false = (l : ℤ) → is_false l ≡ true → lit_true v l ≡ false

falsified : (v : ℕ → Bool) (is_false : ℤ → Bool) (clause : List ℤ) → Refuses v is_false → is_falsified is_false clause ≡ true → clause_true v clause ≡ false
falsified v is_false [] r h = refl
falsified v is_false (l ∷ ls) r h = let p = and_parts _ _ h in or_false _ _ (r l p.0) (falsified v is_false ls r p.1)

-- one more literal is false
refuses_also : (v : ℕ → Bool) (is_false : ℤ → Bool) (l : ℤ) → Refuses v is_false → lit_true v l ≡ false → Refuses v (also is_false l)
refuses_also v is_false l r f k h = ⊎_elim (λ same. ap (lit_true v) (sym (same_lit l k same)) ∙ f) (λ before. r k before) (or_cases (int_eq l k) (is_false k) h)

-- a unit of a clause that is true is true
unit_true : (v : ℕ → Bool) (is_false : ℤ → Bool) (clause : List ℤ) (l : ℤ) → Refuses v is_false → clause_true v clause ≡ true → unit_of is_false clause ≡ Some l → lit_true v l ≡ true
unit_true v is_false clause l r t u =
    ⊎_elim (λ y. y)
    (λ f. absurd (true≢false (sym t ∙ falsified v (also is_false l) clause (refuses_also v is_false l r f) (and_parts _ _ (unit_found is_false clause l u).1).1)))
    (true_or_false (lit_true v l))

-- the last hint's clause can't be all false
last_hint : (v : ℕ → Bool) (known : List (List ℤ)) (is_false : ℤ → Bool) (h : ℕ) (o : Option (List ℤ)) → Solves v known → Refuses v is_false → numbered known h ≡ o → if_some o (is_falsified is_false) ≡ true → ⊥
last_hint v known is_false h None s r e t = true≢false (sym t)
last_hint v known is_false h (Some clause) s r e t = true≢false (sym (at_number (λ c. clause_true v c ≡ true) known h clause s e) ∙ falsified v is_false clause r t)

hinted : (is_false : ℤ → Bool) (l : ℤ) (o : Option (List ℤ)) → option_and_then (unit_of is_false) o ≡ Some l → (clause : List ℤ) × (o ≡ Some clause) × (unit_of is_false clause ≡ Some l)
hinted is_false l None u = absurd (cc)
hinted is_false l (Some clause) u = (clause, refl, u)

some_unit : (u : Option ℤ) (f : ℤ → Bool) → if_some u f ≡ true → (l : ℤ) × (u ≡ Some l) × (f l ≡ true)
some_unit None f e = absurd (true≢false (sym e))
some_unit (Some l) f e = (l, refl, e)

isnt_zero : (most : ℕ) (l : ℤ) → Names most l → l ≢ pos 0
isnt_zero most l n e = let z : unsigned_abs l ≡ 0 = ap unsigned_abs e in absurd (omega (arith, z, n.0))

module _ (v : ℕ → Bool) (most : ℕ) (known : List (List ℤ)) (s : Solves v known) (names : All (λ c. All (Names most) c) known) where
  leads_nowhere : (hs : List ℕ) (is_false : ℤ → Bool) → Refuses v is_false → leads known is_false hs ≡ true → ⊥
  leads_nowhere [] is_false r e = true≢false (sym e)
  leads_nowhere (h ∷ []) is_false r e = last_hint v known is_false h (numbered known h) s r refl e
  leads_nowhere (h ∷ g ∷ hs) is_false r e =
      let u = some_unit (option_and_then (unit_of is_false) (numbered known h)) (λ l. leads known (also is_false (neg_ℤ l)) (g ∷ hs)) e in
      let c = hinted is_false u.0 (numbered known h) u.1 in
      let n : Names most u.0 = found_holds (Names most) (λ k. not (is_false k)) c.0 u.0 (at_number (λ d. All (Names most) d) known h c.0 names c.1) (unit_found is_false c.0 u.0 c.2).0 in
      let t : lit_true v u.0 ≡ true = unit_true v is_false c.0 u.0 r (at_number (λ d. clause_true v d ≡ true) known h c.0 s c.1) c.2 in
      leads_nowhere (g ∷ hs) (also is_false (neg_ℤ u.0)) (refuses_also v is_false (neg_ℤ u.0) r (opposite_false v u.0 (isnt_zero most u.0 n) t)) u.2

-- where no literal of a clause is true
refuses_all : (v : ℕ → Bool) (clause : List ℤ) → clause_true v clause ≡ false → Refuses v (among clause)
refuses_all v [] f l e = absurd (true≢false (sym e))
refuses_all v (x ∷ xs) f l e =
    let q = or_none _ _ f in
    ⊎_elim (λ same. ap (lit_true v) (sym (same_lit x l same)) ∙ q.0) (λ later. refuses_all v xs q.1 l later) (or_cases (int_eq x l) (among xs l) e)

-- a valid step follows from what stands before it
valid_follows : (v : ℕ → Bool) (most : ℕ) (known : List (List ℤ)) (clause : List ℤ) (hints : List ℕ) → Solves v known → All (λ c. All (Names most) c) known → is_valid known clause hints ≡ true → clause_true v clause ≡ true
valid_follows v most known clause hints s names e =
    ⊎_elim (λ t. t) (λ f. absurd (leads_nowhere v most known s names hints (among clause) (refuses_all v clause f) (and_parts _ _ e).1)) (true_or_false (clause_true v clause))

module _ (v : ℕ → Bool) (cnf : Cnf) (derivation : Derivation) (s : Solves v cnf.clauses) (within : IsWithin cnf) (steps : StepsWithin cnf.variables derivation.steps) (valid : AllValid cnf derivation) where
  abbrev TrueBelow : ℕ → Type 0
  TrueBelow n = (k : ℕ) (step : ProofStep) → k < n → slice_get derivation.steps k ≡ Some step → clause_true v step.clause ≡ true

  solves_known : (n : ℕ) → TrueBelow n → Solves v (known_before cnf derivation n)
  solves_known n b =
      All-append (λ c. clause_true v c ≡ true) cnf.clauses (map (λ step. step.clause) (take n derivation.steps)) s
      (All-map (λ c. clause_true v c ≡ true) (λ (step : ProofStep). step.clause) (take n derivation.steps)
      (λ i d w.
      let below : i < n = omega (arith, length-take n derivation.steps) in
      let there : i < length derivation.steps = omega (arith, length-take n derivation.steps) in
      subst (λ (step : ProofStep). clause_true v step.clause ≡ true) (sym (get_or-take n derivation.steps i d below)) (b i (get_or derivation.steps i d) below (slice_get-get_or derivation.steps i d there))))

  true_below : (n : ℕ) → TrueBelow n
  true_below zero k step w e = absurd (omega arith)
  true_below (suc n) k step w e =
      ⊎_elim (λ lt. true_below n k step lt e)
      (λ eq. valid_follows v cnf.variables (known_before cnf derivation n) step.clause step.hints (solves_known n (true_below n)) (known_names cnf (take n derivation.steps) within (all_take (λ (step : ProofStep). All (Names cnf.variables) step.clause) derivation.steps n steps)) (valid n step (ap (slice_get derivation.steps) (sym eq) ∙ e)))
      (below_or k n w)

  no_empty : HasEmpty derivation → ⊥
  no_empty h = true≢false (sym (true_below (suc h.0) h.0 h.1 (omega arith) h.2) ∙ ap (clause_true v) h.3)

pub refuted_has_no_model : (cnf : Cnf) (derivation : Derivation) → IsWithin cnf → StepsWithin cnf.variables derivation.steps → Refutes cnf derivation → HasNoModel cnf.clauses
refuted_has_no_model cnf derivation within steps r = λ v s. no_empty v cnf derivation s within steps r.0 r.1
