-- Units, and what the reasons of a trail lead to.
use Rattle.std.proofs.Common.{ℕ, zero, suc, ℤ, pos, negsuc, neg_ℤ, Bool, true, false, not, ◌&&◌, ◌||◌, List, [], ◌∷◌, ◌≡◌, ◌≢◌, refl, if◌then◌else◌, Option, Some, None, sym, subst, ap, ◌∙◌, true≢false, ◌⊎◌, inl, inr, ⊎_elim, option_and_then, cond}
use Rattle.std.specs.List.{find}
use Rattle.std.proofs.lemmas.List.Elements.{All-head, All-tail}
use Rattle.std.specs.Ordering.{int_eq}
use Rattle.std.specs.Cmp.{signed_Decides}
use Rattle.cnf_core.specs.Validity.{among, also, is_falsified, is_unit, unit_in, unit_of, numbered, if_some, leads}
use Rattle.sat_core.specs.declared.trail.Entry.{Entry}
use Rattle.sat_core.specs.Trails.{IsTrail, HasReason, falsified}
use Rattle.sat_core.specs.Learning.{reasons, with_reason}
use Rattle.sat_core.specs.Starting.{AreForced}

pub and_parts : (a b : Bool) → (a && b) ≡ true → (a ≡ true) × (b ≡ true)
and_parts true b h = (refl, h)
and_parts false b h = absurd (true≢false (sym h))

pub and_both : (a b : Bool) → a ≡ true → b ≡ true → (a && b) ≡ true
and_both true b h k = k
and_both false b h k = absurd (true≢false (sym h))

pub or_left : (a b : Bool) → a ≡ true → (a || b) ≡ true
or_left true b h = refl
or_left false b h = absurd (true≢false (sym h))

pub or_right : (a b : Bool) → b ≡ true → (a || b) ≡ true
or_right true b h = refl
or_right false b h = h

pub or_keep : (a b c : Bool) → (b ≡ true → c ≡ true) → (a || b) ≡ true → (a || c) ≡ true
or_keep true b c f h = refl
or_keep false b c f h = f h

pub or_none_of : (a b : Bool) → a ≡ false → b ≡ false → (a || b) ≡ false
or_none_of true b h k = absurd (true≢false h)
or_none_of false b h k = k

pub true_or_false : (b : Bool) → (b ≡ true) ⊎ (b ≡ false)
true_or_false true = inl refl
true_or_false false = inr refl

pub same : (a b : ℤ) → int_eq a b ≡ true → a ≡ b
same a b h = (signed_Decides a b).0 h

pub itself : (l : ℤ) → int_eq l l ≡ true
itself l = (signed_Decides l l).1 refl

pub twice : (l : ℤ) → neg_ℤ (neg_ℤ l) ≡ l
twice (pos zero) = refl
twice (pos (suc n)) = refl
twice (negsuc n) = refl

-- one set of false literals has another
abbrev pub Within : (ℤ → Bool) → (ℤ → Bool) → Type 0
Within p q = (k : ℤ) → p k ≡ true → q k ≡ true

pub falsified_under : (p q : ℤ → Bool) (c : List ℤ) → Within p q → is_falsified p c ≡ true → is_falsified q c ≡ true
falsified_under p q [] w h = refl
falsified_under p q (k ∷ ks) w h = let a = and_parts _ _ h in and_both _ _ (w k a.0) (falsified_under p q ks w a.1)

-- what is found stands in the list, and the test holds of it
find_case : (p : ℤ → Bool) (k l : ℤ) (b : Bool) (ks : List ℤ) → not (p k) ≡ b → (find (λ x. not (p x)) ks ≡ Some l → among ks l ≡ true) → cond b (Some k) (find (λ x. not (p x)) ks) ≡ Some l → among (k ∷ ks) l ≡ true
find_case p k l true ks t f e = or_left _ _ (subst (λ x. int_eq k x ≡ true) (let s : k ≡ l = cc in s) (itself k))
find_case p k l false ks t f e = or_right _ _ (f e)

pub found_among : (p : ℤ → Bool) (c : List ℤ) (l : ℤ) → find (λ x. not (p x)) c ≡ Some l → among c l ≡ true
found_among p [] l e = absurd (cc)
found_among p (k ∷ ks) l e = find_case p k l (not (p k)) ks refl (found_among p ks l) e

-- the only literal left is the one found
only_case : (q : ℤ → Bool) (k l : ℤ) (ks : List ℤ) (b : Bool) → q k ≡ b → q l ≡ false → (int_eq k l || among ks l) ≡ true → (int_eq l k || b) ≡ true →
    (among ks l ≡ true → find (λ x. not (q x)) ks ≡ Some l) → cond (not b) (Some k) (find (λ x. not (q x)) ks) ≡ Some l
only_case q k l ks true e f m o go =
    go (⊎_elim (λ s. absurd (true≢false (sym e ∙ (ap q (same k l s) ∙ f)))) (λ n. ap (λ b. b || among ks l) (sym n) ∙ m) (true_or_false (int_eq k l)))
only_case q k l ks false e f m o go = ap Some (sym (same l k (or_end _ o)))
  where
    or_end : (a : Bool) → (a || false) ≡ true → a ≡ true
    or_end true h = refl
    or_end false h = h

only_found : (q : ℤ → Bool) (c : List ℤ) (l : ℤ) → q l ≡ false → among c l ≡ true → is_falsified (also q l) c ≡ true → find (λ x. not (q x)) c ≡ Some l
only_found q [] l f m o = absurd (true≢false (sym m))
only_found q (k ∷ ks) l f m o = let a = and_parts _ _ o in only_case q k l ks (q k) refl f m a.0 (λ n. only_found q ks l f n a.1)

pub unit_here : (q : ℤ → Bool) (c : List ℤ) (l : ℤ) → q l ≡ false → q (neg_ℤ l) ≡ false → among c l ≡ true → is_falsified (also q l) c ≡ true → unit_of q c ≡ Some l
unit_here q c l f g m o =
    ap (option_and_then (unit_in q c)) (only_found q c l f m o)
    ∙ ap (λ b. if b then Some l else None) (and_both _ _ (ap not g) o)

unit_case : (b : Bool) (k l : ℤ) → (if b then Some k else None) ≡ Some l → (k ≡ l) × (b ≡ true)
unit_case true k l e = (cc, refl)
unit_case false k l e = absurd (cc)

pub unit_found : (p : ℤ → Bool) (c : List ℤ) (l : ℤ) (o : Option ℤ) → find (λ x. not (p x)) c ≡ o → option_and_then (unit_in p c) o ≡ Some l → (among c l ≡ true) × (is_falsified (also p l) c ≡ true)
unit_found p c l None e u = absurd (cc)
unit_found p c l (Some k) e u =
    let v = unit_case (is_unit p c k) k l u in
    (subst (λ x. among c x ≡ true) v.0 (found_among p c k e), subst (λ x. is_falsified (also p x) c ≡ true) v.0 (and_parts _ _ v.1).1)

module _ (known : List (List ℤ)) where
  more_than_one : (r : Option ℕ) (ns : List ℕ) → ((g : ℕ) × (hs : List ℕ) × (ns ≡ g ∷ hs)) → (g : ℕ) × (hs : List ℕ) × (with_reason r ns ≡ g ∷ hs)
  more_than_one None ns h = h
  more_than_one (Some n) ns h = (n, ns, refl)

  some_reason : (es : List Entry) (h : ℕ) → (g : ℕ) × (hs : List ℕ) × (reasons es (h ∷ []) ≡ g ∷ hs)
  some_reason [] h = (h, [], refl)
  some_reason (e ∷ es) h = more_than_one e.reason (reasons es (h ∷ [])) (some_reason es h)

  pub leads_cons : (q : ℤ → Bool) (n : ℕ) (ns : List ℕ) → ((g : ℕ) × (hs : List ℕ) × (ns ≡ g ∷ hs)) →
      leads known q (n ∷ ns) ≡ if_some (option_and_then (unit_of q) (numbered known n)) (λ l. leads known (also q (neg_ℤ l)) ns)
  leads_cons q n ns s = subst (λ v. leads known q (n ∷ v) ≡ if_some (option_and_then (unit_of q) (numbered known n)) (λ l. leads known (also q (neg_ℤ l)) v)) (sym s.2) refl

  one_entry : (r : Option ℕ) (l : ℤ) (p : ℤ → Bool) (ns : List ℕ) → r ≢ None → HasReason known p l r → ((g : ℕ) × (hs : List ℕ) × (ns ≡ g ∷ hs)) → leads known (also p (neg_ℤ l)) ns ≡ true → leads known p (with_reason r ns) ≡ true
  one_entry None l p ns some reason s go = absurd (some refl)
  one_entry (Some n) l p ns some reason s go =
      let u : option_and_then (unit_of p) (numbered known n) ≡ Some l = ap (option_and_then (unit_of p)) reason.1 ∙ reason.2 in
      leads_cons p n ns s
      ∙ (ap (λ (o : Option ℤ). if_some o (λ k. leads known (also p (neg_ℤ k)) ns)) u
      ∙ go)

  -- the reasons of a trail with no decision lead to its conflict
  pub forced_leads : (es : List Entry) (p : ℤ → Bool) (c : List ℤ) (h : ℕ) → IsTrail known p es → AreForced es → numbered known h ≡ Some c → is_falsified (falsified p es) c ≡ true → leads known p (reasons es (h ∷ [])) ≡ true
  forced_leads [] p c h tr forced e all = ap (λ (o : Option (List ℤ)). if_some o (is_falsified p)) e ∙ all
  forced_leads (x ∷ es) p c h tr forced e all =
      one_entry x.reason x.lit p (reasons es (h ∷ [])) (All-head (λ (y : Entry). y.reason ≢ None) x es forced) tr.1 (some_reason es h)
      (forced_leads es (also p (neg_ℤ x.lit)) c h tr.2 (All-tail (λ (y : Entry). y.reason ≢ None) x es forced) e all)
