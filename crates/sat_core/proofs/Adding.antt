-- One more clause is watched, and its unit made true.
use Rattle.std.proofs.Common.{ℕ, zero, suc, ◌+◌, ◌*◌, ◌<◌, ℤ, neg_ℤ, pos, Bool, true, false, List, [], ◌∷◌, ◌++◌, ◌≡◌, refl, Option, Some, None, length, take, slice_get, sym, subst, ap, ◌∙◌, arith, true≢false, ⊎_elim, ◌⊎◌, inl, inr}
use Rattle.std.specs.List.{All}
use Rattle.std.specs.Ordering.{int_eq}
use Rattle.std.proofs.lemmas.List.{length-set, length_push}
use Rattle.std.proofs.lemmas.List.Elements.{All-push, All-take, All-head, All-tail}
use Rattle.std.proofs.lemmas.Option.{slice_get_within}
use Rattle.cnf_core.specs.Literals.{Names}
use Rattle.cnf_core.specs.Validity.{among, also, numbered}
use Rattle.sat_core.specs.declared.trail.Entry.{Entry}
use Rattle.sat_core.specs.declared.watching.Pair.{Pair}
use Rattle.sat_core.specs.declared.watching.Watches.{Watches}
use Rattle.sat_core.specs.Trails.{Assigned, is_false, falsified, IsTrail, HasReason, AreNamed}
use Rattle.sat_core.specs.Watching.{IsRoom, list_place, list_at, listed_more, listed_pair, pair_of_rest, Holds, IsListed, AreListed, Stands, Guards, EachPair, ArePlaced, AreGuarded, AtDecisions}
use Rattle.sat_core.specs.States.{Stable}
use Rattle.sat_core.specs.Cuts.{front, IsDecision, Asserts}
use Rattle.sat_core.proofs.Replay.{itself, or_left, or_right}
use Rattle.sat_core.proofs.Passes.{place_within, still_holds, now_holds}
use Rattle.sat_core.proofs.Lessons.{decided_at, decisions_from}
use Rattle.sat_core.proofs.Cuts.{front_up, take_twice}

-- the last of a list, or one of the others
at_last : {X : Type 0} (xs : List X) (x y : X) (i : ℕ) → slice_get (xs ++ x ∷ []) i ≡ Some y → (slice_get xs i ≡ Some y) ⊎ ((i ≡ length xs) × (x ≡ y))
at_last [] x y zero e = inr (refl, cc)
at_last [] x y (suc i) e = absurd (cc)
at_last (z ∷ xs) x y zero e = inl e
at_last (z ∷ xs) x y (suc i) e = ⊎_elim (λ a. inl a) (λ a. inr (ap suc a.0, a.1)) (at_last xs x y i e)

pub get_more : {X : Type 0} (xs ys : List X) (i : ℕ) (y : X) → slice_get xs i ≡ Some y → slice_get (xs ++ ys) i ≡ Some y
get_more [] ys i y e = absurd (cc)
get_more (x ∷ xs) ys zero y e = e
get_more (x ∷ xs) ys (suc i) y e = get_more xs ys i y e

pub get_last : {X : Type 0} (xs : List X) (x : X) → slice_get (xs ++ x ∷ []) (length xs) ≡ Some x
get_last [] x = refl
get_last (y ∷ xs) x = get_last xs x

pub numbered_more : (known more : List (List ℤ)) (n : ℕ) (c : List ℤ) → numbered known n ≡ Some c → numbered (known ++ more) n ≡ Some c
numbered_more known more zero c e = absurd (cc)
numbered_more known more (suc n) c e = get_more known more n c e

reason_more : (known more : List (List ℤ)) (p : ℤ → Bool) (l : ℤ) (r : Option ℕ) → HasReason known p l r → HasReason (known ++ more) p l r
reason_more known more p l None h = tt
reason_more known more p l (Some n) h = (h.0, numbered_more known more n h.0 h.1, h.2)

pub trail_more : (known more : List (List ℤ)) (p : ℤ → Bool) (es : List Entry) → IsTrail known p es → IsTrail (known ++ more) p es
trail_more known more p [] t = tt
trail_more known more p (e ∷ es) t = (t.0, reason_more known more p e.lit e.reason t.1, trail_more known more (also p (neg_ℤ e.lit)) es t.2)

pub each_push : (P : ℕ → List ℤ → Option Pair → Type 0) (known : List (List ℤ)) (pairs : List (Option Pair)) (c : List ℤ) (o : Option Pair) → length pairs ≡ length known → EachPair P known pairs → P (length known) c o →
    EachPair P (known ++ c ∷ []) (pairs ++ o ∷ [])
each_push P known pairs c o long h here i d x e f = ⊎_elim
    (λ (a : slice_get known i ≡ Some d). ⊎_elim
    (λ (b : slice_get pairs i ≡ Some x). h i d x a b)
    (λ (b : (i ≡ length pairs) × (o ≡ x)). let w = slice_get_within known i d a in let q = b.0 in absurd (omega (arith, w, q, long)))
    (at_last pairs o x i f))
    (λ (a : (i ≡ length known) × (c ≡ d)). ⊎_elim
    (λ (b : slice_get pairs i ≡ Some x). let w = slice_get_within pairs i x b in let q = a.0 in absurd (omega (arith, w, q, long)))
    (λ (b : (i ≡ length pairs) × (o ≡ x)). subst (λ k. P k d x) (sym a.0) (subst (λ z. P (length known) z x) a.1 (subst (P (length known) c) b.1 here)))
    (at_last pairs o x i f))
    (at_last known c d i e)

-- ---- the trail is cut at a decision
pub cut_standing : (known : List (List ℤ)) (w : Watches) (a b : Assigned) (i : ℕ) → Stable known w a → b.entries ≡ take i a.entries → b.variables ≡ a.variables → Stable known w b
cut_standing known w a b i s so same = record {
  long = s.long;
  wide = s.wide ∙ ap (λ m. 2 * m + 1) (sym same);
  within = subst (λ m. All (λ c. All (Names m) c) known) (sym same) s.within;
  placed = s.placed;
  listed = s.listed;
  decided = subst (AtDecisions (λ p. AreGuarded known w.pairs p p) (among [])) (sym so) (front_decided (λ p. AreGuarded known w.pairs p p) (among []) a.entries i s.decided);
  trail = subst (IsTrail known (among [])) (sym so) (front_trail (among []) a.entries i s.trail);
  named = subst (AreNamed b.variables) (sym so) (subst (λ m. AreNamed m (take i a.entries)) (sym same) (All-take (λ (x : Entry). Names a.variables x.lit) i a.entries s.named));
}
  where
    front_decided : (P : (ℤ → Bool) → Type 0) (p : ℤ → Bool) (es : List Entry) (j : ℕ) → AtDecisions P p es → AtDecisions P p (take j es)
    front_decided P p [] zero h = tt
    front_decided P p [] (suc j) h = tt
    front_decided P p (e ∷ es) zero h = tt
    front_decided P p (e ∷ es) (suc j) h = (h.0, front_decided P (also p (neg_ℤ e.lit)) es j h.1)

    front_trail : (p : ℤ → Bool) (es : List Entry) (j : ℕ) → IsTrail known p es → IsTrail known p (take j es)
    front_trail p [] zero h = tt
    front_trail p [] (suc j) h = tt
    front_trail p (e ∷ es) zero h = tt
    front_trail p (e ∷ es) (suc j) h = (h.0, h.1, front_trail (also p (neg_ℤ e.lit)) es j h.2)

pub cut_guarded : (known : List (List ℤ)) (w : Watches) (a b : Assigned) (i : ℕ) → Stable known w a → IsDecision a.entries i → b.entries ≡ take i a.entries → AreGuarded known w.pairs (is_false b) (is_false b)
cut_guarded known w a b i s d so =
    subst (λ es. AreGuarded known w.pairs (falsified (among []) es) (falsified (among []) es)) (sym so)
    (decided_at (λ p. AreGuarded known w.pairs p p) (among []) a.entries i d.0 d.1 d.2 s.decided)

-- ---- the clause is listed
more_long : (lists : List (List ℕ)) (l : ℤ) (n : ℕ) → length (listed_more lists l n) ≡ length lists
more_long lists l n = length-set lists (list_place l) (list_at lists l ++ n ∷ [])

pub pair_long : (lists : List (List ℕ)) (o : Option Pair) (n : ℕ) → length (listed_pair lists o n) ≡ length lists
pair_long lists None n = refl
pair_long lists (Some w) n = more_long (listed_more lists w.first n) w.second n ∙ more_long lists w.first n

abbrev pub IsPlaceFor : List (List ℕ) → Option Pair → Type 0
IsPlaceFor lists o = (w : Pair) → o ≡ Some w → (list_place w.first < length lists) × (list_place w.second < length lists)

pair_holds : (lists : List (List ℕ)) (o : Option Pair) (n m : ℕ) (k : ℤ) → IsPlaceFor lists o → Holds (list_at lists k) m → Holds (list_at (listed_pair lists o n) k) m
pair_holds lists None n m k r h = h
pair_holds lists (Some w) n m k r h =
    still_holds (listed_more lists w.first n) w.second k n m (subst (λ x. list_place w.second < x) (sym (more_long lists w.first n)) (r w refl).1)
    (still_holds lists w.first k n m (r w refl).0 h)

only_listed : (lists : List (List ℕ)) (l k : ℤ) (m : ℕ) → IsListed lists l [] k m → Holds (list_at lists k) m
only_listed lists l k m h = ⊎_elim (λ x. x) (λ (x : (k ≡ l) × ⊥). absurd x.1) h

new_holds : (lists : List (List ℕ)) (w : Pair) (n : ℕ) → IsPlaceFor lists (Some w) → Holds (list_at (listed_pair lists (Some w) n) w.first) n × Holds (list_at (listed_pair lists (Some w) n) w.second) n
new_holds lists w n r =
    let second : list_place w.second < length (listed_more lists w.first n) = subst (λ x. list_place w.second < x) (sym (more_long lists w.first n)) (r w refl).1 in (
      still_holds (listed_more lists w.first n) w.second w.first n n second (now_holds lists w.first n (r w refl).0),
      now_holds (listed_more lists w.first n) w.second n second,
    )

pub pair_listed_more : (lists : List (List ℕ)) (l : ℤ) (pairs : List (Option Pair)) (o : Option Pair) → IsPlaceFor lists o → AreListed lists l [] pairs → AreListed (listed_pair lists o (length pairs + 1)) l [] (pairs ++ o ∷ [])
pair_listed_more lists l pairs o r h i w e = ⊎_elim
    (λ (a : slice_get pairs i ≡ Some (Some w)). (
      inl (pair_holds lists o (length pairs + 1) (suc i) w.first r (only_listed lists l w.first (suc i) (h i w a).0)),
      inl (pair_holds lists o (length pairs + 1) (suc i) w.second r (only_listed lists l w.second (suc i) (h i w a).1)),
    ))
    (λ (a : (i ≡ length pairs) × (o ≡ Some w)).
    let n : length pairs + 1 ≡ suc i = let q = a.0 in omega (arith, q) in
    let both = subst (λ z. IsPlaceFor lists z → Holds (list_at (listed_pair lists z (length pairs + 1)) w.first) (length pairs + 1) × Holds (list_at (listed_pair lists z (length pairs + 1)) w.second) (length pairs + 1)) (sym a.1) (new_holds lists w (length pairs + 1)) r in (
      inl (subst (Holds (list_at (listed_pair lists o (length pairs + 1)) w.first)) n both.0),
      inl (subst (Holds (list_at (listed_pair lists o (length pairs + 1)) w.second)) n both.1),
    ))
    (at_last pairs o (Some w) i e)

-- ---- a clause is added, at whose decisions it was guarded
pub added : (known : List (List ℤ)) (old new : Watches) (a : Assigned) (c : List ℤ) (o : Option Pair) → Stable known old a → All (Names a.variables) c → Stands c o → IsPlaceFor old.lists o →
    ((i : ℕ) (e : Entry) → slice_get a.entries i ≡ Some e → e.reason ≡ None → Guards (front a.entries i) (front a.entries i) c o) →
    new.pairs ≡ old.pairs ++ o ∷ [] → new.lists ≡ listed_pair old.lists o (length old.pairs + 1) → Stable (known ++ c ∷ []) new a
added known old new a c o s names stands room guards e g =
    let many = length_push known c in
    let pairs_many = length_push old.pairs o in
    let long = s.long in
    record {
      long = ap length e ∙ (let q : length (old.pairs ++ o ∷ []) ≡ length (known ++ c ∷ []) = omega (arith, many, pairs_many, long) in q);
      wide = ap length g ∙ (pair_long old.lists o (length old.pairs + 1) ∙ s.wide);
      within = All-push (λ d. All (Names a.variables) d) known c s.within names;
      placed = subst (ArePlaced (known ++ c ∷ [])) (sym e) (each_push (λ i. Stands) known old.pairs c o s.long s.placed stands);
      listed = subst (λ ls. AreListed ls (pos zero) [] new.pairs) (sym g) (subst (AreListed (listed_pair old.lists o (length old.pairs + 1)) (pos zero) []) (sym e) (pair_listed_more old.lists (pos zero) old.pairs o room s.listed));
      decided = decisions_from (λ p. AreGuarded (known ++ c ∷ []) new.pairs p p) (among []) a.entries (λ i x at none.
          subst (λ ps. AreGuarded (known ++ c ∷ []) ps (front a.entries i) (front a.entries i)) (sym e)
          (each_push (λ k. Guards (front a.entries i) (front a.entries i)) known old.pairs c o s.long
          (decided_at (λ p. AreGuarded known old.pairs p p) (among []) a.entries i x at none s.decided) (guards i x at none)));
      trail = trail_more known (c ∷ []) (among []) a.entries s.trail;
      named = s.named;
    }

pub head_is : (c : List ℤ) (l : ℤ) → slice_get c 0 ≡ Some l → (rest : List ℤ) × (c ≡ l ∷ rest)
head_is [] l e = absurd (cc)
head_is (x ∷ xs) l e = (xs, let q : x ≡ l = cc in ap (λ z. z ∷ xs) q)

pub room_in : (lists : List (List ℕ)) (most : ℕ) (l : ℤ) → length lists ≡ 2 * most + 1 → Names most l → list_place l < length lists
room_in lists most l e n = let h = place_within most l n in omega (arith, e, h)

pub room_of_rest : (lists : List (List ℕ)) (most : ℕ) (first : ℤ) (rest : List ℤ) → length lists ≡ 2 * most + 1 → All (Names most) (first ∷ rest) → IsRoom lists (pair_of_rest first rest)
room_of_rest lists most first [] e a = tt
room_of_rest lists most first (k ∷ ks) e a =
    (room_in lists most first e (All-head (Names most) first (k ∷ ks) a), room_in lists most k e (All-head (Names most) k ks (All-tail (Names most) first (k ∷ ks) a)))

pub place_for : (lists : List (List ℕ)) (o : Option Pair) → IsRoom lists o → IsPlaceFor lists o
place_for lists None r w e = absurd (cc)
place_for lists (Some v) r w e = let q : v ≡ w = cc in subst (λ z. (list_place z.first < length lists) × (list_place z.second < length lists)) q r

false_unless : (b : Bool) → (b ≡ true → ⊥) → b ≡ false
false_unless true f = absurd (f refl)
false_unless false f = refl

stands_rest : (p : ℤ → Bool) (first : ℤ) (rest : List ℤ) → p first ≡ false → ((k : ℤ) → among rest k ≡ true → p k ≡ true) → Stands (first ∷ rest) (pair_of_rest first rest)
stands_rest p first [] f others = tt
stands_rest p first (k ∷ ks) f others = (
  or_left (int_eq first first) (among (k ∷ ks) first) (itself first),
  or_right (int_eq first k) (among (k ∷ ks) k) (or_left (int_eq k k) (among ks k) (itself k)),
  λ e. true≢false (sym (others k (or_left (int_eq k k) (among ks k) (itself k))) ∙ (ap p (sym e) ∙ f)),
)

guards_rest : (es : List Entry) (cut : ℕ) (first : ℤ) (rest : List ℤ) → Asserts es first rest cut → (i : ℕ) (e : Entry) → i < cut → slice_get es i ≡ Some e → e.reason ≡ None → Guards (front es i) (front es i) (first ∷ rest) (pair_of_rest first rest)
guards_rest es cut first [] a i e low at none = absurd (a.only refl i e (omega arith) low at none)
guards_rest es cut first (k ∷ ks) a i e low at none = (
  λ t. absurd (true≢false (sym (front_up es i cut (omega (arith, low)) first t) ∙ a.free)),
  λ t. absurd (true≢false (sym t ∙ a.second k ks refl i e low at none)),
)

in_front : (es : List Entry) (cut i : ℕ) (e : Entry) → slice_get (take cut es) i ≡ Some e → (i < cut) × (slice_get es i ≡ Some e)
in_front [] zero i e g = absurd (cc)
in_front [] (suc cut) i e g = absurd (cc)
in_front (x ∷ es) zero i e g = absurd (cc)
in_front (x ∷ es) (suc cut) zero e g = (omega arith, g)
in_front (x ∷ es) (suc cut) (suc i) e g = let r = in_front es cut i e g in (let w = r.0 in omega (arith, w), r.1)

-- the learnt clause behind a cut
pub learnt_added : (known : List (List ℤ)) (old new : Watches) (a b : Assigned) (first : ℤ) (rest : List ℤ) (cut : ℕ) → Stable known old a → Asserts a.entries first rest cut → All (Names a.variables) (first ∷ rest) →
    b.entries ≡ take cut a.entries → b.variables ≡ a.variables →
    new.pairs ≡ old.pairs ++ pair_of_rest first rest ∷ [] → new.lists ≡ listed_pair old.lists (pair_of_rest first rest) (length old.pairs + 1) → Stable (known ++ (first ∷ rest) ∷ []) new b
learnt_added known old new a b first rest cut s asserts names so same e g =
    added known old new b (first ∷ rest) (pair_of_rest first rest) (cut_standing known old a b cut s so same)
    (subst (λ m. All (Names m) (first ∷ rest)) (sym same) names)
    (stands_rest (front a.entries cut) first rest asserts.free asserts.others)
    (place_for old.lists (pair_of_rest first rest) (room_of_rest old.lists a.variables first rest s.wide names))
    (λ i x at none.
    let r = in_front a.entries cut i x (subst (λ es. slice_get es i ≡ Some x) so at) in
    let f : front b.entries i ≡ front a.entries i = ap (λ es. falsified (among []) (take i es)) so ∙ ap (falsified (among [])) (take_twice a.entries i cut (let w = r.0 in omega (arith, w))) in
    subst (λ q. Guards q q (first ∷ rest) (pair_of_rest first rest)) (sym f) (guards_rest a.entries cut first rest asserts i x r.0 r.1 none))
    e g
