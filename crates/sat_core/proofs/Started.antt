-- The clauses are watched one after another, and nothing is decided.
use Rattle.std.proofs.Common.{ℕ, suc, ◌+◌, ◌*◌, ℤ, neg_ℤ, Bool, true, false, not, List, [], ◌∷◌, ◌++◌, ◌≡◌, ◌≢◌, refl, Option, Some, None, length, slice_get, sym, subst, ap, ◌∙◌, arith, true≢false}
use Rattle.std.specs.List.{All, find}
use Rattle.std.specs.Ordering.{int_eq}
use Rattle.std.proofs.lemmas.List.Elements.{All-append, All-head, All-tail, All-nil}
use Rattle.cnf_core.specs.Literals.{Names}
use Rattle.cnf_core.specs.Validity.{among, also, is_falsified, unit_of, numbered}
use Rattle.sat_core.specs.declared.trail.Entry.{Entry}
use Rattle.sat_core.specs.declared.watching.Pair.{Pair}
use Rattle.sat_core.specs.declared.watching.Watches.{Watches}
use Rattle.sat_core.specs.Trails.{Assigned, unassigned, is_false, falsified, IsTrail, AreNamed}
use Rattle.sat_core.specs.Rest.{Grows}
use Rattle.sat_core.specs.Watching.{IsRoom, listed_pair, Stands, Guards, AreGuarded, AtDecisions, HeldAt}
use Rattle.sat_core.specs.States.{Stable, GuardedTo}
use Rattle.sat_core.specs.Cuts.{front}
use Rattle.sat_core.specs.Starting.{IsAlone, AreForced, Starting, Clashing}
use Rattle.sat_core.proofs.Replay.{Within, itself, same, or_left, unit_here}
use Rattle.sat_core.proofs.Known.{all_at}
use Rattle.sat_core.proofs.Clauses.{all_among}
use Rattle.sat_core.proofs.Room.{falsified_within}
use Rattle.sat_core.proofs.Growing.{falsified_append, grown_trail}
use Rattle.sat_core.proofs.Looks.{find_some, find_none, named_among}
use Rattle.sat_core.proofs.Passes.{guards_up, decisions_append}
use Rattle.sat_core.proofs.Adding.{added, each_push, get_last, place_for, room_in, trail_more, numbered_more}

-- ---- a clause with no two different literals
pub head_among : (c : List ℤ) (l : ℤ) → slice_get c 0 ≡ Some l → among c l ≡ true
head_among [] l e = absurd (cc)
head_among (x ∷ xs) l e = let q : x ≡ l = cc in or_left (int_eq x l) (among xs l) (subst (λ z. int_eq z l ≡ true) (sym q) (itself l))

none_among : (c : List ℤ) (k : ℤ) → slice_get c 0 ≡ None → among c k ≡ false
none_among [] k e = refl
none_among (x ∷ xs) k e = absurd (cc)

pub none_alone : (c : List ℤ) → slice_get c 0 ≡ None → IsAlone c
none_alone c e k l s t = absurd (true≢false (sym s ∙ none_among c k e))

pub none_falsified : (p : ℤ → Bool) (c : List ℤ) → slice_get c 0 ≡ None → is_falsified p c ≡ true
none_falsified p c e = all_among p c (λ k t. absurd (true≢false (sym t ∙ none_among c k e)))

not_not : (b : Bool) → not b ≡ false → b ≡ true
not_not true e = refl
not_not false e = absurd (true≢false e)

not_this : (b : Bool) → not b ≡ true → b ≡ false
not_this true e = absurd (true≢false (sym e))
not_this false e = refl

pub all_same : (c : List ℤ) (first : ℤ) → find (λ k. not (int_eq k first)) c ≡ None → IsAlone c
all_same c first e k l s t =
    let each : (x : ℤ) → among c x ≡ true → x ≡ first = λ x u. same x first (not_not (int_eq x first) (find_none (λ y. not (int_eq y first)) c x e u)) in
    each k s ∙ sym (each l t)

pub pair_stands : (c : List ℤ) (first second : ℤ) → slice_get c 0 ≡ Some first → find (λ k. not (int_eq k first)) c ≡ Some second → Stands c (Some (record { first = first; second = second }))
pair_stands c first second e f =
    let x = find_some (λ k. not (int_eq k first)) c second f in
    (head_among c first e, x.0, λ q. true≢false (sym (itself first) ∙ (ap (λ z. int_eq z first) q ∙ not_this (int_eq second first) x.1)))

pub alone_falsified : (p : ℤ → Bool) (c : List ℤ) (l : ℤ) → IsAlone c → among c l ≡ true → p l ≡ true → is_falsified p c ≡ true
alone_falsified p c l alone here t = all_among p c (λ k u. subst (λ z. p z ≡ true) (alone l k here u) t)

pub alone_unit : (p : ℤ → Bool) (c : List ℤ) (l : ℤ) → IsAlone c → among c l ≡ true → p l ≡ false → p (neg_ℤ l) ≡ false → unit_of p c ≡ Some l
alone_unit p c l alone here f g = unit_here p c l f g here (alone_falsified (also p l) c l alone here (or_left (int_eq l l) (p l) (itself l)))

pub pair_room : (lists : List (List ℕ)) (most : ℕ) (c : List ℤ) (o : Option Pair) → length lists ≡ 2 * most + 1 → All (Names most) c → Stands c o → IsRoom lists o
pair_room lists most c None wide names stands = tt
pair_room lists most c (Some w) wide names stands = (room_in lists most w.first wide (named_among most c w.first names stands.0), room_in lists most w.second wide (named_among most c w.second names stands.1))

-- ---- the trail grows by units
forced_decided : (P : (ℤ → Bool) → Type 0) (p : ℤ → Bool) (es : List Entry) → AreForced es → AtDecisions P p es
forced_decided P p [] a = tt
forced_decided P p (e ∷ es) a = (held e.reason (All-head (λ (x : Entry). x.reason ≢ None) e es a), forced_decided P (also p (neg_ℤ e.lit)) es (All-tail (λ (x : Entry). x.reason ≢ None) e es a))
  where
    held : (r : Option ℕ) → r ≢ None → HeldAt P r p
    held None n = absurd (n refl)
    held (Some m) n = tt

pub grown_within : (known : List (List ℤ)) (a b : Assigned) → Grows known a b → Within (is_false a) (is_false b)
grown_within known a b g k t =
    subst (λ es. falsified (among []) es k ≡ true) (sym g.1)
    (subst (λ (q : ℤ → Bool). q k ≡ true) (sym (falsified_append (among []) a.entries g.0)) (falsified_within (is_false a) g.0 k t))

pub grown_stable : (known : List (List ℤ)) (w : Watches) (a b : Assigned) → Stable known w a → Grows known a b → b.variables ≡ a.variables → AreNamed b.variables b.entries → Stable known w b
grown_stable known w a b s g kept named = record {
  long = s.long;
  wide = s.wide ∙ ap (λ m. 2 * m + 1) (sym kept);
  within = subst (λ m. All (λ d. All (Names m) d) known) (sym kept) s.within;
  placed = s.placed;
  listed = s.listed;
  decided = subst (AtDecisions (λ q. AreGuarded known w.pairs q q) (among [])) (sym g.1)
      (decisions_append (λ q. AreGuarded known w.pairs q q) (among []) a.entries g.0 s.decided (forced_decided (λ q. AreGuarded known w.pairs q q) (falsified (among []) a.entries) g.0 g.3));
  trail = grown_trail known a b s.trail g;
  named = named;
}

-- ---- one more clause
none_front : (es : List Entry) (k : ℤ) → front es 0 k ≡ false
none_front [] k = refl
none_front (e ∷ es) k = refl

pair_guards : (es : List Entry) (q : ℤ → Bool) (c : List ℤ) (w : Pair) → Guards (front es 0) q c (Some w)
pair_guards es q c w = (λ t. absurd (true≢false (sym t ∙ none_front es w.first)), λ t. absurd (true≢false (sym t ∙ none_front es w.second)))

same_front : (es fs : List Entry) (q : ℤ → Bool) (c : List ℤ) (o : Option Pair) → Guards (front es 0) q c o → Guards (front fs 0) q c o
same_front es fs q c None h = h
same_front es fs q c (Some w) h = pair_guards fs q c w

none_decided : (es : List Entry) → AreForced es → (i : ℕ) (e : Entry) → slice_get es i ≡ Some e → e.reason ≡ None → ⊥
none_decided es forced i e at none = all_at (λ (x : Entry). x.reason ≢ None) es i e forced at none

module _ (known : List (List ℤ)) (old new : Watches) (a : Assigned) (c : List ℤ) (o : Option Pair) (s : Starting known old a) (names : All (Names a.variables) c) (stands : Stands c o) (room : IsRoom old.lists o)
    (e : new.pairs ≡ old.pairs ++ o ∷ []) (g : new.lists ≡ listed_pair old.lists o (length old.pairs + 1)) where
  watched : Stable (known ++ c ∷ []) new a
  watched = added known old new a c o s.standing names stands (place_for old.lists o room) (λ i x at none. absurd (none_decided a.entries s.forced i x at none)) e g

  guarded_by : (b : Assigned) → Within (is_false a) (is_false b) → Guards (front b.entries 0) (is_false b) c o → GuardedTo (known ++ c ∷ []) new b 0
  guarded_by b up here =
      subst (λ ps. AreGuarded (known ++ c ∷ []) ps (front b.entries 0) (is_false b)) (sym e)
      (each_push (λ i. Guards (front b.entries 0) (is_false b)) known old.pairs c o s.standing.long
      (λ i d x gd gx. same_front a.entries b.entries (is_false b) d x (guards_up (front a.entries 0) (is_false a) (is_false b) d x up (s.guarded i d x gd gx)))
      here)

  pub begun_pair : (w : Pair) → o ≡ Some w → Starting (known ++ c ∷ []) new a
  begun_pair w is = record {
    standing = watched;
    guarded = guarded_by a (λ k t. t) (subst (λ z. Guards (front a.entries 0) (is_false a) c z) (sym is) (pair_guards a.entries (is_false a) c w));
    forced = s.forced;
  }

  module _ (b : Assigned) (n : ℕ) (number : n ≡ length old.pairs + 1) (grows : numbered (known ++ c ∷ []) n ≡ Some c → Grows (known ++ c ∷ []) a b) (kept : b.variables ≡ a.variables)
      (named : AreNamed a.variables a.entries → AreNamed b.variables b.entries) where
    at : numbered (known ++ c ∷ []) n ≡ Some c
    at = let x = s.standing.long in ap (numbered (known ++ c ∷ [])) (let q : n ≡ suc (length known) = omega (arith, number, x) in q) ∙ get_last known c

    forced_too : AreForced b.entries
    forced_too = let more = grows at in subst AreForced (sym more.1) (All-append (λ (x : Entry). x.reason ≢ None) a.entries more.0 s.forced more.3)

    pub begun_alone : o ≡ None → Guards (is_false b) (is_false b) c None → Starting (known ++ c ∷ []) new b
    begun_alone is true_one = record {
      standing = grown_stable (known ++ c ∷ []) new a b watched (grows at) kept (named s.standing.named);
      guarded = guarded_by b (grown_within (known ++ c ∷ []) a b (grows at)) (subst (λ z. Guards (front b.entries 0) (is_false b) c z) (sym is) true_one);
      forced = forced_too;
    }

    pub begun_false : is_falsified (is_false b) c ≡ true → Clashing (known ++ c ∷ []) b n
    begun_false false_one = record {
      trail = grown_trail (known ++ c ∷ []) a b watched.trail (grows at);
      named = named s.standing.named;
      forced = forced_too;
      conflict = (c, at, false_one);
    }

-- ---- all of them
pub start_none : (watches : Watches) (a : Assigned) (variables : ℕ) → a ≡ unassigned variables → watches.pairs ≡ [] → length watches.lists ≡ 2 * variables + 1 → Starting [] watches a
start_none watches a variables is none wide = record {
  standing = record {
    long = ap length none;
    wide = wide ∙ ap (λ (x : Assigned). 2 * x.variables + 1) (sym is);
    within = All-nil (λ c. All (Names a.variables) c);
    placed = λ i c o e f. absurd (cc);
    listed = λ i w e. absurd (let q = sym (ap (λ ps. slice_get ps i) none) ∙ e in cc);
    decided = subst (λ (x : Assigned). AtDecisions (λ p. AreGuarded [] watches.pairs p p) (among []) x.entries) (sym is) tt;
    trail = subst (λ (x : Assigned). IsTrail [] (among []) x.entries) (sym is) tt;
    named = subst (λ (x : Assigned). AreNamed x.variables x.entries) (sym is) (All-nil (λ (e : Entry). Names variables e.lit));
  };
  guarded = λ i c o e f. absurd (cc);
  forced = subst (λ (x : Assigned). AreForced x.entries) (sym is) (All-nil (λ (e : Entry). e.reason ≢ None));
}

pub clash_more : (known more all : List (List ℤ)) (a : Assigned) (n : ℕ) → all ≡ known ++ more → Clashing known a n → Clashing all a n
clash_more known more all a n is h = record {
  trail = subst (λ ks. IsTrail ks (among []) a.entries) (sym is) (trail_more known more (among []) a.entries h.trail);
  named = h.named;
  forced = h.forced;
  conflict = (h.conflict.0, ap (λ ks. numbered ks n) is ∙ numbered_more known more n h.conflict.0 h.conflict.1, h.conflict.2);
}
