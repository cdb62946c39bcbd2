-- Trails and what is learnt from them, one part after another.
use Rattle.std.proofs.Common.{ℕ, ℤ, neg_ℤ, Bool, List, [], ◌∷◌, ◌++◌, ◌≡◌, ◌≢◌, refl, Option, Some, None, sym, subst, ap, ◌∙◌, append_assoc, get_or, take, length, ◌<◌, ◌+◌}
use Rattle.std.proofs.lemmas.List.{take_more, append-nil}
use Rattle.std.proofs.lemmas.List.Elements.{All-nil, All-push, All-pop}
use Rattle.cnf_core.specs.Literals.{Names}
use Rattle.cnf_core.specs.Validity.{among, also}
use Rattle.sat_core.specs.declared.trail.Entry.{Entry}
use Rattle.sat_core.specs.Trails.{Assigned, IsTrail, IsFree, HasReason, falsified, is_false, AreFree, AreNamed}
use Rattle.sat_core.specs.Rest.{Grows}
use Rattle.sat_core.specs.Learning.{reasons, with_reason}

reason_append : (r : Option ℕ) (xs ys : List ℕ) → with_reason r (xs ++ ys) ≡ with_reason r xs ++ ys
reason_append None xs ys = refl
reason_append (Some n) xs ys = refl

-- the reasons behind others
reasons_append : (es fs : List Entry) (last : List ℕ) → reasons (es ++ fs) last ≡ reasons es [] ++ reasons fs last
reasons_append [] fs last = refl
reasons_append (e ∷ es) fs last = ap (with_reason e.reason) (reasons_append es fs last) ∙ reason_append e.reason (reasons es []) (reasons fs last)

pub reasons_last : (es : List Entry) (last : List ℕ) → reasons es last ≡ reasons es [] ++ last
reasons_last [] last = refl
reasons_last (e ∷ es) last = ap (with_reason e.reason) (reasons_last es last) ∙ reason_append e.reason (reasons es []) last

pub reasons_more : (es : List Entry) (i : ℕ) (e : Entry) → i < length es → reasons (take (i + 1) es) [] ≡ reasons (take i es) [] ++ with_reason (get_or es i e).reason []
reasons_more es i e w = ap (λ fs. reasons fs []) (take_more es i e w) ∙ reasons_append (take i es) (get_or es i e ∷ []) []

pub falsified_append : (p : ℤ → Bool) (es fs : List Entry) → falsified p (es ++ fs) ≡ falsified (falsified p es) fs
falsified_append p [] fs = refl
falsified_append p (e ∷ es) fs = falsified_append (also p (neg_ℤ e.lit)) es fs

pub free_push : (p : ℤ → Bool) (es : List Entry) (e : Entry) → AreFree p es → IsFree (falsified p es) e.lit → AreFree p (es ++ e ∷ [])
free_push p [] e t u = (u, tt)
free_push p (x ∷ es) e t u = (t.0, free_push (also p (neg_ℤ x.lit)) es e t.1 u)

-- without the last entry
pub free_pop : (p : ℤ → Bool) (es : List Entry) (e : Entry) → AreFree p (es ++ e ∷ []) → AreFree p es × IsFree (falsified p es) e.lit
free_pop p [] e t = (tt, t.0)
free_pop p (x ∷ es) e t = let r = free_pop (also p (neg_ℤ x.lit)) es e t.1 in ((t.0, r.0), r.1)

pub named_pop : (most : ℕ) (es : List Entry) (e : Entry) → AreNamed most (es ++ e ∷ []) → AreNamed most es × Names most e.lit
named_pop most es e a = All-pop (λ (x : Entry). Names most x.lit) (es ++ e ∷ []) es (Some e) refl a

module _ (known : List (List ℤ)) where
  pub trail_append : (p : ℤ → Bool) (es fs : List Entry) → IsTrail known p es → IsTrail known (falsified p es) fs → IsTrail known p (es ++ fs)
  trail_append p [] fs t u = u
  trail_append p (e ∷ es) fs t u = (t.0, t.1, trail_append (also p (neg_ℤ e.lit)) es fs t.2 u)

-- an entry that is a decision, and one that isn't
pub reasons_given : (es : List Entry) (i : ℕ) (e : Entry) (n : ℕ) (hints : List ℕ) → i < length es → e ≡ get_or es i e → e.reason ≡ Some n → hints ≡ reasons (take i es) [] → hints ++ n ∷ [] ≡ reasons (take (i + 1) es) []
reasons_given es i e n hints w is some so =
    ap (λ h. h ++ n ∷ []) so
    ∙ sym (reasons_more es i e w ∙ (ap (λ (x : Entry). reasons (take i es) [] ++ with_reason x.reason []) (sym is) ∙ ap (λ r. reasons (take i es) [] ++ with_reason r []) some))

pub reasons_kept : (es : List Entry) (i : ℕ) (e : Entry) (hints : List ℕ) → i < length es → e ≡ get_or es i e → e.reason ≡ None → hints ≡ reasons (take i es) [] → hints ≡ reasons (take (i + 1) es) []
reasons_kept es i e hints w is none so =
    so
    ∙ sym (reasons_more es i e w ∙ (ap (λ (x : Entry). reasons (take i es) [] ++ with_reason x.reason []) (sym is) ∙ (ap (λ r. reasons (take i es) [] ++ with_reason r []) none ∙ append-nil (reasons (take i es) []))))

-- one more entry
pub pushed : (old new : Assigned) (e : Entry) → new.entries ≡ old.entries ++ e ∷ [] → is_false new ≡ also (is_false old) (neg_ℤ e.lit)
pushed old new e so = ap (falsified (among [])) so ∙ falsified_append (among []) old.entries (e ∷ [])

module _ (known : List (List ℤ)) where
  pub grows_none : (old : Assigned) → Grows known old old
  grows_none old = ([], sym (append-nil old.entries), tt, All-nil (λ (e : Entry). e.reason ≢ None))

  -- one more unit
  pub grows_more : (start old new : Assigned) (e : Entry) → Grows known start old → new.entries ≡ old.entries ++ e ∷ [] → IsFree (is_false old) e.lit → HasReason known (is_false old) e.lit e.reason → e.reason ≢ None → Grows known start new
  grows_more start old new e g so free reason some =
      let more = g.0 in
      let before : is_false old ≡ falsified (is_false start) more = ap (falsified (among [])) g.1 ∙ falsified_append (among []) start.entries more in (
        more ++ e ∷ [],
        so ∙ (ap (λ es. es ++ e ∷ []) g.1 ∙ append_assoc start.entries more (e ∷ [])),
        trail_append known (is_false start) more (e ∷ []) g.2 (subst (λ (p : ℤ → Bool). IsFree p e.lit) before free, subst (λ (p : ℤ → Bool). HasReason known p e.lit e.reason) before reason, tt),
        All-push (λ (x : Entry). x.reason ≢ None) more e g.3 some,
      )

  pub grown_trail : (old new : Assigned) → IsTrail known (among []) old.entries → Grows known old new → IsTrail known (among []) new.entries
  grown_trail old new t g = subst (IsTrail known (among [])) (sym g.1) (trail_append known (among []) old.entries g.0 t g.2)
