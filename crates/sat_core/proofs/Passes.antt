-- A clause whose watched literal became false keeps its pair, moves one of it, or forces the other.
use Rattle.std.proofs.Common.{ℕ, zero, suc, ◌+◌, ◌*◌, ◌<◌, ℤ, pos, negsuc, neg_ℤ, Bool, true, false, ◌||◌, List, [], ◌∷◌, ◌++◌, ◌≡◌, ◌≢◌, refl, Option, Some, None, length, set, get_or, slice_get, sym, subst, ap, ◌∙◌, arith, true≢false, ⊎_elim, ◌⊎◌, inl, inr}
use Rattle.std.specs.List.{All}
use Rattle.std.specs.Ordering.{int_eq}
use Rattle.std.proofs.lemmas.Bool.{cases_eq}
use Rattle.std.proofs.lemmas.List.{length-set}
use Rattle.std.proofs.lemmas.List.Elements.{All-push, All-head, All-tail}
use Rattle.std.proofs.lemmas.Option.{slice_get_within}
use Rattle.cnf_core.specs.Literals.{Names}
use Rattle.cnf_core.specs.Validity.{among, also, unit_of, numbered}
use Rattle.sat_core.specs.declared.trail.Entry.{Entry}
use Rattle.sat_core.specs.declared.watching.Pair.{Pair}
use Rattle.sat_core.specs.declared.watching.Watches.{Watches}
use Rattle.sat_core.specs.Trails.{Assigned, is_false, falsified, IsTrail, IsFree, AreNamed}
use Rattle.sat_core.specs.Rest.{Grows}
use Rattle.sat_core.specs.Watching.{list_place, list_at, listed_more, Holds, Stands, Guards, EachPair, ArePlaced, AreGuarded, HeldAt, AtDecisions, IsListed, AreListed, IsPairOf, IsWatched, IsKept}
use Rattle.sat_core.specs.States.{Standing, Falling}
use Rattle.sat_core.proofs.Replay.{Within, or_left, or_right, or_none_of, true_or_false, same, itself, twice}
use Rattle.sat_core.proofs.Known.{at_number}
use Rattle.sat_core.proofs.Units.{unit_free, unit_named}
use Rattle.sat_core.proofs.Setting.{apart, get_here, get_there}
use Rattle.sat_core.proofs.Growing.{trail_append, pushed, grows_none, grows_more}
use Rattle.sat_core.proofs.Room.{falsified_within}
use Rattle.sat_core.proofs.Looks.{Agrees, watched_among}

-- ---- no literal is false with its opposite
own_opposite : (most : ℕ) (l : ℤ) → Names most l → neg_ℤ l ≢ l
own_opposite most (pos zero) n e = absurd (omega (arith, n.0))
own_opposite most (pos (suc k)) n e = cc
own_opposite most (negsuc k) n e = cc

back : (l k : ℤ) → neg_ℤ l ≡ neg_ℤ k → l ≡ k
back l k e = sym (twice l) ∙ (ap neg_ℤ e ∙ twice k)

also_agrees : (most : ℕ) (p : ℤ → Bool) (l : ℤ) → Names most l → IsFree p l → Agrees p → Agrees (also p (neg_ℤ l))
also_agrees most p l n free ok k t = ⊎_elim
    (λ (s : int_eq (neg_ℤ l) (neg_ℤ k) ≡ true).
    let e : l ≡ k = back l k (same (neg_ℤ l) (neg_ℤ k) s) in
    subst (λ x. also p (neg_ℤ l) x ≡ false) e (or_none_of _ _ (apart (neg_ℤ l) l (own_opposite most l n)) free.0))
    (λ (s : int_eq (neg_ℤ l) (neg_ℤ k) ≡ false).
    let u : p (neg_ℤ k) ≡ true = sym (ap (λ b. b || p (neg_ℤ k)) s) ∙ t in
    or_none_of _ _ (apart (neg_ℤ l) k (λ e. true≢false (sym u ∙ (ap p (ap neg_ℤ (sym e) ∙ twice l) ∙ free.0)))) (ok k u))
    (true_or_false (int_eq (neg_ℤ l) (neg_ℤ k)))

pub trail_agrees : (known : List (List ℤ)) (most : ℕ) (p : ℤ → Bool) (es : List Entry) → Agrees p → IsTrail known p es → AreNamed most es → Agrees (falsified p es)
trail_agrees known most p [] ok t n = ok
trail_agrees known most p (e ∷ es) ok t n =
    trail_agrees known most (also p (neg_ℤ e.lit)) es
    (also_agrees most p e.lit (All-head (λ (x : Entry). Names most x.lit) e es n) t.0 ok) t.2 (All-tail (λ (x : Entry). Names most x.lit) e es n)

pub none_agrees : Agrees (among [])
none_agrees k t = absurd (true≢false (sym t))

-- ---- lists
put_here : (xs : List (List ℕ)) (i : ℕ) (v : List ℕ) → i < length xs → get_or (set xs i v) i [] ≡ v
put_here [] i v w = absurd (omega arith)
put_here (x ∷ xs) zero v w = refl
put_here (x ∷ xs) (suc i) v w = put_here xs i v (omega arith)

pub put_there : (xs : List (List ℕ)) (i j : ℕ) (v : List ℕ) → i ≢ j → get_or (set xs i v) j [] ≡ get_or xs j []
put_there [] i j v n = refl
put_there (x ∷ xs) zero zero v n = absurd (n refl)
put_there (x ∷ xs) zero (suc j) v n = refl
put_there (x ∷ xs) (suc i) zero v n = refl
put_there (x ∷ xs) (suc i) (suc j) v n = put_there xs i j v (λ e. n (ap suc e))

pub holds_front : (ns : List ℕ) (n m : ℕ) → Holds ns m → Holds (ns ++ n ∷ []) m
holds_front [] n m h = absurd h
holds_front (k ∷ ns) n m h = ⊎_elim (λ e. inl e) (λ r. inr (holds_front ns n m r)) h

pub holds_last : (ns : List ℕ) (n : ℕ) → Holds (ns ++ n ∷ []) n
holds_last [] n = inl refl
holds_last (k ∷ ns) n = inr (holds_last ns n)

pub still_holds : (lists : List (List ℕ)) (l k : ℤ) (n m : ℕ) → list_place l < length lists → Holds (list_at lists k) m → Holds (list_at (listed_more lists l n) k) m
still_holds lists l k n m w h = ⊎_elim
    (λ (e : list_place l ≡ list_place k).
    subst (λ i. Holds (get_or (listed_more lists l n) i []) m) e
    (subst (λ ns. Holds ns m) (sym (put_here lists (list_place l) (list_at lists l ++ n ∷ []) w))
    (holds_front (list_at lists l) n m (subst (λ i. Holds (get_or lists i []) m) (sym e) h))))
    (λ ne. subst (λ ns. Holds ns m) (sym (put_there lists (list_place l) (list_place k) (list_at lists l ++ n ∷ []) ne)) h)
    (cases_eq (list_place l) (list_place k))

pub now_holds : (lists : List (List ℕ)) (l : ℤ) (n : ℕ) → list_place l < length lists → Holds (list_at (listed_more lists l n) l) n
now_holds lists l n w = subst (λ ns. Holds ns n) (sym (put_here lists (list_place l) (list_at lists l ++ n ∷ []) w)) (holds_last (list_at lists l) n)

pub place_within : (most : ℕ) (l : ℤ) → Names most l → list_place l < 2 * most + 1
place_within most (pos n) names = let h = names.1 in omega (arith, h)
place_within most (negsuc n) names = let h = names.1 in omega (arith, h)

-- the number n is listed under l again
listed_again : (lists : List (List ℕ)) (l k : ℤ) (n m : ℕ) (rest : List ℕ) → list_place l < length lists → IsListed lists l (n ∷ rest) k m → IsListed (listed_more lists l n) l rest k m
listed_again lists l k n m rest w h = ⊎_elim
    (λ a. inl (still_holds lists l k n m w a))
    (λ (a : (k ≡ l) × Holds (n ∷ rest) m).
    ⊎_elim
    (λ (e : n ≡ m). inl (subst (λ x. Holds (list_at (listed_more lists l n) x) m) (sym a.0) (subst (λ x. Holds (list_at (listed_more lists l n) l) x) e (now_holds lists l n w))))
    (λ (r : Holds rest m). inr (a.0, r))
    a.1)
    h

pub kept_listed : (lists : List (List ℕ)) (l : ℤ) (n : ℕ) (rest : List ℕ) (pairs : List (Option Pair)) → list_place l < length lists → AreListed lists l (n ∷ rest) pairs → AreListed (listed_more lists l n) l rest pairs
kept_listed lists l n rest pairs w h i v e = (listed_again lists l v.first n (suc i) rest w (h i v e).0, listed_again lists l v.second n (suc i) rest w (h i v e).1)

-- ---- pairs
-- what holds of each pair, where one is set
pub each_set : (P Q : ℕ → List ℤ → Option Pair → Type 0) (known : List (List ℤ)) (pairs : List (Option Pair)) (j : ℕ) (o : Option Pair) → j < length pairs → EachPair P known pairs →
    ((c : List ℤ) → slice_get known j ≡ Some c → Q j c o) → ((i : ℕ) (c : List ℤ) (x : Option Pair) → i ≢ j → slice_get known i ≡ Some c → slice_get pairs i ≡ Some x → P i c x → Q i c x) → EachPair Q known (set pairs j o)
each_set P Q known pairs j o w h here there i c x e f = ⊎_elim
    (λ (s : j ≡ i).
    let same_one : Some o ≡ Some x = sym (get_here pairs j o w) ∙ (ap (slice_get (set pairs j o)) s ∙ f) in
    let y : o ≡ x = cc in
    subst (λ k. Q k c x) s (subst (λ z. Q j c z) y (here c (ap (slice_get known) s ∙ e))))
    (λ (ne : j ≢ i).
    let f' : slice_get pairs i ≡ Some x = sym (get_there pairs j i o ne) ∙ f in
    there i c x (λ q. ne (sym q)) e f' (h i c x e f'))
    (cases_eq j i)

pub guards_up : (p q r : ℤ → Bool) (c : List ℤ) (o : Option Pair) → Within q r → Guards p q c o → Guards p r c o
guards_up p q r c None w g = (g.0, g.1, w (neg_ℤ g.0) g.2)
guards_up p q r c (Some v) w g = (λ t. w (neg_ℤ v.second) (g.0 t), λ t. w (neg_ℤ v.first) (g.1 t))

pub also_cases : (p : ℤ → Bool) (l k : ℤ) → also p l k ≡ true → (l ≡ k) ⊎ (p k ≡ true)
also_cases p l k t = ⊎_elim (λ s. inl (same l k s)) (λ n. inr (sym (ap (λ b. b || p k) n) ∙ t)) (true_or_false (int_eq l k))

-- the other watched literal is true
pub kept_guards : (p f : ℤ → Bool) (l : ℤ) (c : List ℤ) (o : Option Pair) → Guards p f c o → IsKept f o l → Guards (also p l) f c o
kept_guards p f l c None g k = g
kept_guards p f l c (Some w) g k = (
  λ t. ⊎_elim (λ (e : l ≡ w.first). (k w refl).0 (sym e)) (λ u. g.0 u) (also_cases p l w.first t),
  λ t. ⊎_elim (λ (e : l ≡ w.second). (k w refl).1 (sym e)) (λ u. g.1 u) (also_cases p l w.second t),
)

-- with the other of a pair false, l would be true
other_guards : (p q : ℤ → Bool) (c : List ℤ) (o : Option Pair) (other l : ℤ) → Guards p q c o → IsWatched o other l → p other ≡ true → q (neg_ℤ l) ≡ true
other_guards p q c o other l g w t =
    let h : Guards p q c (Some w.0) = subst (Guards p q c) w.1 g in
    ⊎_elim
    (λ (e : (w.0.first ≡ l) × (w.0.second ≡ other)). subst (λ x. q (neg_ℤ x) ≡ true) e.0 (h.1 (ap p e.1 ∙ t)))
    (λ (e : (w.0.first ≡ other) × (w.0.second ≡ l)). subst (λ x. q (neg_ℤ x) ≡ true) e.1 (h.0 (ap p e.0 ∙ t)))
    w.2

no_true : (b : Bool) → (b ≡ true → ⊥) → b ≡ false
no_true true h = absurd (h refl)
no_true false h = refl

-- so it isn't
other_out : (p q f : ℤ → Bool) (c : List ℤ) (o : Option Pair) (other l : ℤ) → Agrees f → Within q f → f l ≡ true → Guards p q c o → IsWatched o other l → p other ≡ false
other_out p q f c o other l ok up fell g w = no_true (p other) (λ t. true≢false (sym fell ∙ ok l (up (neg_ℤ l) (other_guards p q c o other l g w t))))

pub differing_pair : (c : List ℤ) (o : Option Pair) (other l : ℤ) → Stands c o → IsWatched o other l → other ≢ l
differing_pair c o other l s w e =
    let t : Stands c (Some w.0) = subst (Stands c) w.1 s in
    ⊎_elim
    (λ (h : (w.0.first ≡ l) × (w.0.second ≡ other)). t.2 (h.0 ∙ (sym e ∙ sym h.1)))
    (λ (h : (w.0.first ≡ other) × (w.0.second ≡ l)). t.2 (h.0 ∙ (e ∙ sym h.1)))
    w.2

abbrev pub pair_of : ℤ → ℤ → Option Pair
pair_of a b = Some (record { first = a; second = b })

out_guards : (p q : ℤ → Bool) (c : List ℤ) (a b : ℤ) → p a ≡ false → p b ≡ false → Guards p q c (pair_of a b)
out_guards p q c a b f g = (λ t. absurd (true≢false (sym t ∙ f)), λ t. absurd (true≢false (sym t ∙ g)))

out_of : (p f : ℤ → Bool) (k : ℤ) → Within p f → f k ≡ false → p k ≡ false
out_of p f k w e = no_true (p k) (λ t. true≢false (sym (w k t) ∙ e))

also_out : (p : ℤ → Bool) (l k : ℤ) → l ≢ k → p k ≡ false → also p l k ≡ false
also_out p l k ne f = or_none_of (int_eq l k) (p k) (apart l k ne) f

-- ---- decisions
pub decisions_append : (P : (ℤ → Bool) → Type 0) (p : ℤ → Bool) (es fs : List Entry) → AtDecisions P p es → AtDecisions P (falsified p es) fs → AtDecisions P p (es ++ fs)
decisions_append P p [] fs a b = b
decisions_append P p (e ∷ es) fs a b = (a.0, decisions_append P (also p (neg_ℤ e.lit)) es fs a.1 b)

held_map : (P Q : (ℤ → Bool) → Type 0) (r : Option ℕ) (p : ℤ → Bool) → (P p → Q p) → HeldAt P r p → HeldAt Q r p
held_map P Q None p f h = f h
held_map P Q (Some n) p f h = tt

pub decisions_map : (P Q : (ℤ → Bool) → Type 0) (p f : ℤ → Bool) (es : List Entry) → Within (falsified p es) f → ((q : ℤ → Bool) → Within q f → P q → Q q) → AtDecisions P p es → AtDecisions Q p es
decisions_map P Q p f [] w h a = tt
decisions_map P Q p f (e ∷ es) w h a = (
  held_map P Q e.reason p (h p (λ k t. w k (falsified_within p (e ∷ es) k t))) a.0,
  decisions_map P Q (also p (neg_ℤ e.lit)) f es w h a.1,
)

-- ---- the three ways
module _ (known : List (List ℤ)) (l : ℤ) (n : ℕ) (rest : List ℕ) (old : Watches) (a : Assigned) (s : Standing known l (n ∷ rest) old a) where
  pub agreeing : Agrees (is_false a)
  agreeing = trail_agrees known a.variables (among []) a.entries none_agrees s.trail s.named

  -- a pair that is kept
  pub kept_standing : (new : Watches) → list_place l < length old.lists → new.pairs ≡ old.pairs → new.lists ≡ listed_more old.lists l n → Standing known l rest new a
  kept_standing new w e g = record {
    long = ap length e ∙ s.long;
    wide = ap length g ∙ (length-set old.lists (list_place l) (list_at old.lists l ++ n ∷ []) ∙ s.wide);
    within = s.within;
    placed = subst (ArePlaced known) (sym e) s.placed;
    listed = subst (λ ls. AreListed ls l rest new.pairs) (sym g) (subst (AreListed (listed_more old.lists l n) l rest) (sym e) (kept_listed old.lists l n rest old.pairs w s.listed));
    decided = subst (λ ps. AtDecisions (λ q. AreGuarded known ps q q) (among []) a.entries) (sym e) s.decided;
    trail = s.trail;
    named = s.named;
  }

module _ (known : List (List ℤ)) (p : ℤ → Bool) (l : ℤ) (n : ℕ) (rest : List ℕ) (old : Watches) (a : Assigned) (f : Falling known p l (n ∷ rest) old a) where
  pub kept_falling : (new : Watches) → new.pairs ≡ old.pairs → EachPair (λ i c o. n ≡ suc i → IsKept (is_false a) o l) known old.pairs → Falling known p l rest new a
  kept_falling new e k = record {
    early = subst (λ ps. AreGuarded known ps p (is_false a)) (sym e) f.early;
    late = subst (EachPair (λ i c o. Holds rest (suc i) ⊎ Guards (also p l) (is_false a) c o) known) (sym e)
        (λ i c o d g. ⊎_elim
        (λ (h : Holds (n ∷ rest) (suc i)). ⊎_elim
        (λ (q : n ≡ suc i). inr (kept_guards p (is_false a) l c o (f.early i c o d g) (k i c o d g q)))
        (λ (r : Holds rest (suc i)). inl r) h)
        (λ h. inr h) (f.late i c o d g));
    before = f.before;
    fell = f.fell;
  }

forced_guards : (p g : ℤ → Bool) (c : List ℤ) (o : Option Pair) (other l : ℤ) → Stands c o → IsWatched o other l → Guards p g c o → g (neg_ℤ other) ≡ true → Guards (also p l) g c o
forced_guards p g c o other l s w h t =
    let s' : Stands c (Some w.0) = subst (Stands c) w.1 s in
    let h' : Guards p g c (Some w.0) = subst (Guards p g c) w.1 h in
    subst (Guards (also p l) g c) (sym w.1)
    (⊎_elim
    (λ (e : (w.0.first ≡ l) × (w.0.second ≡ other)). (
      λ u. subst (λ x. g (neg_ℤ x) ≡ true) (sym e.1) t,
      λ u. ⊎_elim (λ (q : l ≡ w.0.second). absurd (s'.2 (e.0 ∙ q))) (λ v. h'.1 v) (also_cases p l w.0.second u),
    ))
    (λ (e : (w.0.first ≡ other) × (w.0.second ≡ l)). (
      λ u. ⊎_elim (λ (q : l ≡ w.0.first). absurd (s'.2 (sym q ∙ sym e.1))) (λ v. h'.0 v) (also_cases p l w.0.first u),
      λ u. subst (λ x. g (neg_ℤ x) ≡ true) (sym e.0) t,
    ))
    w.2)

-- the pair's other literal is still listed
other_listed : (lists : List (List ℕ)) (l to other : ℤ) (n m : ℕ) (rest before : List ℕ) → list_place to < length lists → other ≢ l → IsListed lists l before other m → IsListed (listed_more lists to n) l rest other m
other_listed lists l to other n m rest before w ne h = ⊎_elim
    (λ x. inl (still_holds lists to other n m w x))
    (λ (x : (other ≡ l) × Holds before m). absurd (ne x.0))
    h

-- another clause is listed as before
elsewhere_listed : (lists : List (List ℕ)) (l to k : ℤ) (n m : ℕ) (rest : List ℕ) → list_place to < length lists → n ≢ m → IsListed lists l (n ∷ rest) k m → IsListed (listed_more lists to n) l rest k m
elsewhere_listed lists l to k n m rest w ne h = ⊎_elim
    (λ x. inl (still_holds lists to k n m w x))
    (λ (x : (k ≡ l) × Holds (n ∷ rest) m). ⊎_elim (λ (e : n ≡ m). absurd (ne e)) (λ (r : Holds rest m). inr (x.0, r)) x.1)
    h

pair_listed : (lists : List (List ℕ)) (l other : ℤ) (rest : List ℕ) (w : Pair) (m : ℕ) → IsPairOf w other l → IsListed lists l rest w.first m × IsListed lists l rest w.second m → IsListed lists l rest other m
pair_listed lists l other rest w m is h = ⊎_elim
    (λ (e : (w.first ≡ l) × (w.second ≡ other)). subst (λ x. IsListed lists l rest x m) e.1 h.1)
    (λ (e : (w.first ≡ other) × (w.second ≡ l)). subst (λ x. IsListed lists l rest x m) e.0 h.0)
    is

other_index : (n i j : ℕ) → n ≡ suc i → j ≢ i → n ≢ suc j
other_index n i j e ne q = ne (omega (arith, e, q))

pub at_index : (known : List (List ℤ)) (n i : ℕ) (c : List ℤ) → n ≡ suc i → slice_get known i ≡ Some c → numbered known n ≡ Some c
at_index known n i c e g = ap (numbered known) e ∙ g

module _ (known : List (List ℤ)) (p : ℤ → Bool) (l : ℤ) (n : ℕ) (rest : List ℕ) (old : Watches) (a : Assigned)
    (s : Standing known l (n ∷ rest) old a) (f : Falling known p l (n ∷ rest) old a)
    (i : ℕ) (c : List ℤ) (o : Option Pair) (other : ℤ) (is : n ≡ suc i) (gk : slice_get known i ≡ Some c) (gp : slice_get old.pairs i ≡ Some o) (watched : IsWatched o other l) where
  ok : Agrees (is_false a)
  ok = trail_agrees known a.variables (among []) a.entries none_agrees s.trail s.named

  -- the other watched literal isn't false where the pair was guarded
  out_at : (q r : ℤ → Bool) → Within r (is_false a) → Guards q r c o → q other ≡ false
  out_at q r up g = other_out q r (is_false a) c o other l ok up f.fell g watched

  -- one watch moves to another literal
  module _ (to : ℤ) (new : Watches) (inside : among c to ≡ true) (ne : to ≢ other) (free : is_false a to ≡ false) (room : list_place to < length old.lists)
      (e : new.pairs ≡ set old.pairs i (pair_of other to)) (g : new.lists ≡ listed_more old.lists to n) where
    moved_each : (q r : ℤ → Bool) → Within q (is_false a) → Within r (is_false a) → AreGuarded known old.pairs q r → AreGuarded known new.pairs q r
    moved_each q r up ur h =
        subst (λ ps. AreGuarded known ps q r) (sym e)
        (each_set (λ k. Guards q r) (λ k. Guards q r) known old.pairs i (pair_of other to) (slice_get_within old.pairs i o gp) h
        (λ d gd. out_guards q r d other to (out_at q r ur (h i c o gk gp)) (out_of q (is_false a) to up free))
        (λ k d x nk gd gx y. y))

    moved_placed : ArePlaced known new.pairs
    moved_placed =
        subst (ArePlaced known) (sym e)
        (each_set (λ k. Stands) (λ k. Stands) known old.pairs i (pair_of other to) (slice_get_within old.pairs i o gp) s.placed
        (λ d gd.
        let both : Some c ≡ Some d = sym gk ∙ gd in
        let y : c ≡ d = cc in
        subst (λ z. Stands z (pair_of other to)) y (watched_among c o other l (s.placed i c o gk gp) watched, inside, (λ q. ne (sym q))))
        (λ k d x nk gd gx y. y))

    moved_listed : AreListed new.lists l rest new.pairs
    moved_listed = subst (λ ls. AreListed ls l rest new.pairs) (sym g) (subst (AreListed (listed_more old.lists to n) l rest) (sym e) each)
      where
        each : AreListed (listed_more old.lists to n) l rest (set old.pairs i (pair_of other to))
        each j v d = ⊎_elim
            (λ (q : i ≡ j).
            let both : Some (pair_of other to) ≡ Some (Some v) = sym (get_here old.pairs i (pair_of other to) (slice_get_within old.pairs i o gp)) ∙ (ap (slice_get (set old.pairs i (pair_of other to))) q ∙ d) in
            let x : other ≡ v.first = cc in
            let y : to ≡ v.second = cc in
            let old_ones = s.listed i watched.0 (gp ∙ ap (λ z. Some z) watched.1) in (
              subst (λ k. IsListed (listed_more old.lists to n) l rest k (suc j)) x
                  (subst (λ m. IsListed (listed_more old.lists to n) l rest other (suc m)) q
                  (other_listed old.lists l to other n (suc i) rest (n ∷ rest) room (differing_pair c o other l (s.placed i c o gk gp) watched)
                  (pair_listed old.lists l other (n ∷ rest) watched.0 (suc i) watched.2 old_ones))),
              subst (λ k. IsListed (listed_more old.lists to n) l rest k (suc j)) y
                  (inl (subst (λ m. Holds (list_at (listed_more old.lists to n) to) m) (is ∙ ap suc q) (now_holds old.lists to n room))),
            ))
            (λ (q : i ≢ j).
            let h = s.listed j v (sym (get_there old.pairs i j (pair_of other to) q) ∙ d) in
            let far : n ≢ suc j = other_index n i j is (λ z. q (sym z)) in
            (elsewhere_listed old.lists l to v.first n (suc j) rest room far h.0, elsewhere_listed old.lists l to v.second n (suc j) rest room far h.1))
            (cases_eq i j)

    pub moved_standing : Standing known l rest new a
    moved_standing = record {
      long = ap length e ∙ (length-set old.pairs i (pair_of other to) ∙ s.long);
      wide = ap length g ∙ (length-set old.lists (list_place to) (list_at old.lists to ++ n ∷ []) ∙ s.wide);
      within = s.within;
      placed = moved_placed;
      listed = moved_listed;
      decided = decisions_map (λ q. AreGuarded known old.pairs q q) (λ q. AreGuarded known new.pairs q q) (among []) (is_false a) a.entries (λ k t. t) (λ q up h. moved_each q q up up h) s.decided;
      trail = s.trail;
      named = s.named;
    }

    pub moved_falling : Falling known p l rest new a
    moved_falling = record {
      early = moved_each p (is_false a) f.before (λ k t. t) f.early;
      late = subst (EachPair (λ k d x. Holds rest (suc k) ⊎ Guards (also p l) (is_false a) d x) known) (sym e)
          (each_set (λ k d x. Holds (n ∷ rest) (suc k) ⊎ Guards (also p l) (is_false a) d x) (λ k d x. Holds rest (suc k) ⊎ Guards (also p l) (is_false a) d x)
          known old.pairs i (pair_of other to) (slice_get_within old.pairs i o gp) f.late
          (λ d gd. inr (out_guards (also p l) (is_false a) d other to
          (also_out p l other (λ q. differing_pair c o other l (s.placed i c o gk gp) watched (sym q)) (out_at p (is_false a) (λ k t. t) (f.early i c o gk gp)))
          (also_out p l to (λ q. true≢false (sym f.fell ∙ (ap (is_false a) q ∙ free))) (out_of p (is_false a) to f.before free))))
          (λ k d x nk gd gx y. ⊎_elim
          (λ (h : Holds (n ∷ rest) (suc k)). ⊎_elim (λ (q : n ≡ suc k). absurd (other_index n i k is nk q)) (λ (r : Holds rest (suc k)). inl r) h)
          (λ h. inr h) y));
      before = f.before;
      fell = f.fell;
    }

  -- the other watched literal becomes true
  module _ (b : Assigned) (new : Watches) (unit : unit_of (is_false a) c ≡ Some other) (so : b.entries ≡ a.entries ++ record { lit = other; reason = Some n } ∷ []) (kept : b.variables ≡ a.variables)
      (room : list_place l < length old.lists) (e : new.pairs ≡ old.pairs) (g : new.lists ≡ listed_more old.lists l n) where
    entry : Entry
    entry = record { lit = other; reason = Some n }

    free_other : IsFree (is_false a) other
    free_other = unit_free (is_false a) c other unit

    names_other : Names a.variables other
    names_other = unit_named a.variables (is_false a) c other (at_number (All (Names a.variables)) known n c s.within (at_index known n i c is gk)) unit

    now : is_false b ≡ also (is_false a) (neg_ℤ other)
    now = pushed a b (record { lit = other; reason = Some n }) so

    up : Within (is_false a) (is_false b)
    up k t = subst (λ (q : ℤ → Bool). q k ≡ true) (sym now) (or_right (int_eq (neg_ℤ other) k) (is_false a k) t)

    made : is_false b (neg_ℤ other) ≡ true
    made = subst (λ (q : ℤ → Bool). q (neg_ℤ other) ≡ true) (sym now) (or_left (int_eq (neg_ℤ other) (neg_ℤ other)) (is_false a (neg_ℤ other)) (itself (neg_ℤ other)))

    pub forced_standing : Standing known l rest new b
    forced_standing =
        let k = kept_standing known l n rest old a s new room e g in
        record {
          long = k.long;
          wide = k.wide ∙ ap (λ m. 2 * m + 1) (sym kept);
          within = subst (λ m. All (λ d. All (Names m) d) known) (sym kept) s.within;
          placed = k.placed;
          listed = k.listed;
          decided = subst (AtDecisions (λ q. AreGuarded known new.pairs q q) (among [])) (sym so)
              (decisions_append (λ q. AreGuarded known new.pairs q q) (among []) a.entries (record { lit = other; reason = Some n } ∷ []) k.decided (tt, tt));
          trail = subst (IsTrail known (among [])) (sym so)
              (trail_append known (among []) a.entries (record { lit = other; reason = Some n } ∷ []) s.trail (free_other, (c, at_index known n i c is gk, unit), tt));
          named = subst (AreNamed b.variables) (sym so) (subst (λ m. AreNamed m (a.entries ++ record { lit = other; reason = Some n } ∷ [])) (sym kept)
              (All-push (λ (x : Entry). Names a.variables x.lit) a.entries (record { lit = other; reason = Some n }) s.named names_other));
        }

    pub forced_falling : Falling known p l rest new b
    forced_falling = record {
      early = subst (λ ps. AreGuarded known ps p (is_false b)) (sym e) (λ k d x gd gx. guards_up p (is_false a) (is_false b) d x up (f.early k d x gd gx));
      late = subst (EachPair (λ k d x. Holds rest (suc k) ⊎ Guards (also p l) (is_false b) d x) known) (sym e)
          (λ k d x gd gx. ⊎_elim
          (λ (h : Holds (n ∷ rest) (suc k)). ⊎_elim
          (λ (q : n ≡ suc k).
          let w : i ≡ k = omega (arith, q, is) in
          let both : Some o ≡ Some x = sym gp ∙ (ap (slice_get old.pairs) w ∙ gx) in
          let y : o ≡ x = cc in
          inr (forced_guards p (is_false b) d x other l (s.placed k d x gd gx) (subst (λ z. IsWatched z other l) y watched)
          (guards_up p (is_false a) (is_false b) d x up (f.early k d x gd gx)) made))
          (λ (r : Holds rest (suc k)). inl r) h)
          (λ h. inr (guards_up (also p l) (is_false a) (is_false b) d x up h)) (f.late k d x gd gx));
      before = λ k t. up k (f.before k t);
      fell = up l f.fell;
    }

    pub forced_grows : Grows known a b
    forced_grows = grows_more known a a b (record { lit = other; reason = Some n }) (grows_none known a) so free_other (c, at_index known n i c is gk, unit) (λ q. cc)
