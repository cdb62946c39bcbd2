-- The learnt clause is watched and its unit true: all that propagation asks for stands again.
use Rattle.std.proofs.Common.{ℕ, suc, ◌+◌, ◌*◌, ℤ, neg_ℤ, Bool, true, false, ◌||◌, List, [], ◌∷◌, ◌++◌, ◌≡◌, Some, length, take, sym, subst, ap, ◌∙◌, arith, true≢false, ⊎_elim}
use Rattle.std.specs.List.{All}
use Rattle.std.specs.Ordering.{int_eq}
use Rattle.std.proofs.lemmas.List.Elements.{All-push, All-head}
use Rattle.std.proofs.Math.Seq.{take-append_seam}
use Rattle.cnf_core.specs.Literals.{Names}
use Rattle.cnf_core.specs.Validity.{among, also, is_falsified, unit_of, numbered}
use Rattle.sat_core.specs.declared.trail.Entry.{Entry}
use Rattle.sat_core.specs.declared.watching.Watches.{Watches}
use Rattle.sat_core.specs.Trails.{Assigned, is_false, falsified, IsTrail, IsFree, AreNamed}
use Rattle.sat_core.specs.Watching.{Guards, AreGuarded, AtDecisions, pair_of_rest}
use Rattle.sat_core.specs.States.{Stable, GuardedTo}
use Rattle.sat_core.specs.Cuts.{front, Asserts}
use Rattle.sat_core.specs.Taking.{TakenUp}
use Rattle.sat_core.proofs.Replay.{Within, itself, or_left, or_right, true_or_false, unit_here}
use Rattle.sat_core.proofs.Clauses.{all_among}
use Rattle.sat_core.proofs.Growing.{trail_append, pushed}
use Rattle.sat_core.proofs.Passes.{guards_up, decisions_append}
use Rattle.sat_core.proofs.Adding.{learnt_added, each_push, cut_guarded, get_last}

asserted_all : (p : ℤ → Bool) (first : ℤ) (rest : List ℤ) → ((k : ℤ) → among rest k ≡ true → p k ≡ true) → is_falsified (also p first) (first ∷ rest) ≡ true
asserted_all p first rest others = all_among (also p first) (first ∷ rest) (λ k t. ⊎_elim
    (λ (s : int_eq first k ≡ true). or_left (int_eq first k) (p k) s)
    (λ (s : int_eq first k ≡ false). or_right (int_eq first k) (p k) (others k (sym (ap (λ b. b || among rest k) s) ∙ t)))
    (true_or_false (int_eq first k)))

new_guards : (p q : ℤ → Bool) (first : ℤ) (rest : List ℤ) → p first ≡ false → q (neg_ℤ first) ≡ true → Guards p q (first ∷ rest) (pair_of_rest first rest)
new_guards p q first [] f t = (first, or_left (int_eq first first) false (itself first), t)
new_guards p q first (k ∷ ks) f t = (λ u. absurd (true≢false (sym u ∙ f)), λ u. t)

pub number_is : (known : List (List ℤ)) (c : List ℤ) (n : ℕ) → n ≡ length known + 1 → numbered (known ++ c ∷ []) n ≡ Some c
number_is known c n e = ap (numbered (known ++ c ∷ [])) (let q : n ≡ suc (length known) = omega (arith, e) in q) ∙ get_last known c

module _ (known : List (List ℤ)) (old new : Watches) (a b d : Assigned) (first : ℤ) (rest : List ℤ) (cut : ℕ) (s : Stable known old a) (asserts : Asserts a.entries first rest cut) (names : All (Names a.variables) (first ∷ rest))
    (so : b.entries ≡ take cut a.entries) (same : b.variables ≡ a.variables) (up : TakenUp first rest old new b d) (kept : d.variables ≡ b.variables) (free : IsFree (is_false b) first) where
  n : ℕ
  n = length old.pairs + 1

  before : is_false b ≡ front a.entries cut
  before = ap (falsified (among [])) so

  mid : Stable (known ++ (first ∷ rest) ∷ []) new b
  mid = learnt_added known old new a b first rest cut s asserts names so same up.pairs up.lists

  others : (k : ℤ) → among rest k ≡ true → is_false b k ≡ true
  others k t = subst (λ (q : ℤ → Bool). q k ≡ true) (sym before) (asserts.others k t)

  unit : unit_of (is_false b) (first ∷ rest) ≡ Some first
  unit = unit_here (is_false b) (first ∷ rest) first free.0 free.1 (or_left (int_eq first first) (among rest first) (itself first)) (asserted_all (is_false b) first rest others)

  number : numbered (known ++ (first ∷ rest) ∷ []) (length old.pairs + 1) ≡ Some (first ∷ rest)
  number = number_is known (first ∷ rest) (length old.pairs + 1) (ap (λ m. m + 1) s.long)

  after : is_false d ≡ also (is_false b) (neg_ℤ first)
  after = pushed b d (record { lit = first; reason = Some (length old.pairs + 1) }) up.entries

  within : Within (is_false b) (is_false d)
  within k t = subst (λ (q : ℤ → Bool). q k ≡ true) (sym after) (or_right (int_eq (neg_ℤ first) k) (is_false b k) t)

  made : is_false d (neg_ℤ first) ≡ true
  made = subst (λ (q : ℤ → Bool). q (neg_ℤ first) ≡ true) (sym after) (or_left (int_eq (neg_ℤ first) (neg_ℤ first)) (is_false b (neg_ℤ first)) (itself (neg_ℤ first)))

  pub taken_stable : Stable (known ++ (first ∷ rest) ∷ []) new d
  taken_stable = record {
    long = mid.long;
    wide = mid.wide ∙ ap (λ m. 2 * m + 1) (sym kept);
    within = subst (λ m. All (λ c. All (Names m) c) (known ++ (first ∷ rest) ∷ [])) (sym kept) mid.within;
    placed = mid.placed;
    listed = mid.listed;
    decided = subst (AtDecisions (λ q. AreGuarded (known ++ (first ∷ rest) ∷ []) new.pairs q q) (among [])) (sym up.entries)
        (decisions_append (λ q. AreGuarded (known ++ (first ∷ rest) ∷ []) new.pairs q q) (among []) b.entries (record { lit = first; reason = Some (length old.pairs + 1) } ∷ []) mid.decided (tt, tt));
    trail = subst (IsTrail (known ++ (first ∷ rest) ∷ []) (among [])) (sym up.entries)
        (trail_append (known ++ (first ∷ rest) ∷ []) (among []) b.entries (record { lit = first; reason = Some (length old.pairs + 1) } ∷ []) mid.trail (free, (first ∷ rest, number, unit), tt));
    named = subst (AreNamed d.variables) (sym up.entries) (subst (λ m. AreNamed m (b.entries ++ record { lit = first; reason = Some (length old.pairs + 1) } ∷ [])) (sym (kept ∙ same))
        (All-push (λ (x : Entry). Names a.variables x.lit) b.entries (record { lit = first; reason = Some (length old.pairs + 1) }) (subst (λ m. AreNamed m b.entries) same mid.named) (All-head (Names a.variables) first rest names)));
  }

  pub taken_guarded : GuardedTo (known ++ (first ∷ rest) ∷ []) new d (length b.entries)
  taken_guarded =
      let all = cut_guarded known old a b cut s asserts.decision so in
      let head : take (length b.entries) d.entries ≡ b.entries = ap (take (length b.entries)) up.entries ∙ take-append_seam b.entries (record { lit = first; reason = Some (length old.pairs + 1) } ∷ []) in
      subst (λ es. AreGuarded (known ++ (first ∷ rest) ∷ []) new.pairs (falsified (among []) es) (is_false d)) (sym head)
      (subst (λ ps. AreGuarded (known ++ (first ∷ rest) ∷ []) ps (is_false b) (is_false d)) (sym up.pairs)
      (each_push (λ i. Guards (is_false b) (is_false d)) known old.pairs (first ∷ rest) (pair_of_rest first rest) s.long
      (λ i c o gk gp. guards_up (is_false b) (is_false b) (is_false d) c o within (all i c o gk gp))
      (new_guards (is_false b) (is_false d) first rest free.0 made)))
