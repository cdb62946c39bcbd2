-- A search from one conflict to the next.
use Rattle.std.proofs.Common.{ℕ, ◌+◌, ◌-◌, ◌*◌, ◌<◌, ◌≤◌, ℤ, neg_ℤ, Bool, true, List, [], ◌∷◌, ◌++◌, ◌≡◌, ◌≢◌, refl, Some, None, map, length, take, get_or, sym, subst, ap, ◌∙◌, arith, append_assoc}
use Rattle.std.specs.List.{All}
use Rattle.std.proofs.lemmas.List.{length_push, append-nil}
use Rattle.std.proofs.lemmas.List.Elements.{All-nil, All-push}
use Rattle.std.proofs.lemmas.Option.{slice_get-get_or}
use Rattle.std.proofs.Math.Seq.{take-append_seam}
use Rattle.cnf_core.specs.declared.clauses.Cnf.{Cnf}
use Rattle.cnf_core.specs.declared.clauses.ProofStep.{ProofStep}
use Rattle.cnf_core.specs.Literals.{Names}
use Rattle.std.specs.Ordering.{int_eq}
use Rattle.cnf_core.specs.Validity.{among, also}
use Rattle.cnf_core.specs.Derivations.{known_with}
use Rattle.sat_core.specs.declared.trail.Entry.{Entry}
use Rattle.sat_core.specs.declared.watching.Watches.{Watches}
use Rattle.sat_core.specs.declared.cutting.Lesson.{Lesson}
use Rattle.sat_core.specs.Endings.{derivation_of, IsSpent, IsRefuted, IsFull}
use Rattle.sat_core.specs.Trails.{Assigned, is_false, falsified, IsTrail, IsFree, AreNamed, IsTotal}
use Rattle.sat_core.specs.Rest.{IsConflict}
use Rattle.sat_core.specs.Watching.{AreGuarded, AtDecisions}
use Rattle.sat_core.specs.States.{Stable, GuardedTo, Stopped, Rested}
use Rattle.sat_core.specs.Cuts.{front, NoDecision, Teaches}
use Rattle.sat_core.specs.Learning.{reasons}
use Rattle.sat_core.specs.Taking.{TakesUp, IsFirstFree}
use Rattle.sat_core.specs.Starting.{AreForced, Starting, Clashing}
use Rattle.sat_core.specs.Searches.{Searches, Learns}
use Rattle.sat_core.proofs.Replay.{Within, or_right}
use Rattle.sat_core.proofs.Growing.{pushed, trail_append}
use Rattle.sat_core.proofs.Passes.{guards_up, decisions_append}
use Rattle.sat_core.proofs.Room.{room, room_most, next_smaller, decision_smaller}
use Rattle.sat_core.proofs.Counting.{few_steps}
use Rattle.sat_core.proofs.Steps.{refuted}
use Rattle.sat_core.proofs.Taught.{lesson_free, lesson_fresh, lesson_valid, lesson_within}
use Rattle.sat_core.proofs.TakenUp.{taken_stable, taken_guarded}

map_push : (f : ProofStep → List ℤ) (ss : List ProofStep) (s : ProofStep) → map f (ss ++ s ∷ []) ≡ map f ss ++ f s ∷ []
map_push f [] s = refl
map_push f (x ∷ ss) s = ap (λ cs. f x ∷ cs) (map_push f ss s)

pub known_more : (cnf : Cnf) (steps more : List ProofStep) (s : ProofStep) → more ≡ steps ++ s ∷ [] → known_with cnf more ≡ known_with cnf steps ++ s.clause ∷ []
known_more cnf steps more s so =
    ap (known_with cnf) so
    ∙ (ap (λ cs. cnf.clauses ++ cs) (map_push (λ (x : ProofStep). x.clause) steps s)
    ∙ sym (append_assoc cnf.clauses (map (λ (x : ProofStep). x.clause) steps) (s.clause ∷ [])))

-- ---- a step is learnt
module _ (cnf : Cnf) (steps : List ProofStep) (old : Watches) (a b : Assigned) (lesson : Lesson) (s : Stable (known_with cnf steps) old a) (t : Teaches (known_with cnf steps) cnf.variables a.entries lesson) (so : b.entries ≡ take lesson.cut a.entries) where
  front_is : is_false b ≡ front a.entries lesson.cut
  front_is = ap (falsified (among [])) so

  pub unit_free : IsFirstFree lesson.step.clause (is_false b)
  unit_free first rest is =
      let both : t.first ∷ t.rest ≡ first ∷ rest = sym t.clause ∙ is in
      let q : t.first ≡ first = cc in
      subst (λ (p : ℤ → Bool). IsFree p first) (sym front_is) (subst (IsFree (front a.entries lesson.cut)) q (lesson_free cnf steps old a lesson s t))

  module _ (more : List ProofStep) (new : Watches) (d : Assigned) (kept : a.variables ≡ cnf.variables) (same : b.variables ≡ a.variables) (up : TakesUp lesson.step.clause old new b d) (still : d.variables ≡ b.variables)
      (push : more ≡ steps ++ lesson.step ∷ []) where
    known_is : known_with cnf more ≡ known_with cnf steps ++ (t.first ∷ t.rest) ∷ []
    known_is = known_more cnf steps more lesson.step push ∙ ap (λ c. known_with cnf steps ++ c ∷ []) t.clause

    names : All (Names a.variables) (t.first ∷ t.rest)
    names = subst (λ c. All (Names a.variables) c) t.clause (subst (λ m. All (Names m) lesson.step.clause) (sym kept) t.named)

    pub learnt : Learns cnf steps more new d (length b.entries)
    learnt =
        let u = up t.first t.rest t.clause in
        let free = unit_free t.first t.rest t.clause in
        let long : length d.entries ≡ length b.entries + 1 = ap length u.entries ∙ length_push b.entries (record { lit = t.first; reason = Some (length old.pairs + 1) }) in
        record {
          standing = subst (λ ks. Stable ks new d) (sym known_is) (taken_stable (known_with cnf steps) old new a b d t.first t.rest lesson.cut s t.asserts names so same u still free);
          guarded = subst (λ ks. GuardedTo ks new d (length b.entries)) (sym known_is) (taken_guarded (known_with cnf steps) old new a b d t.first t.rest lesson.cut s t.asserts names so same u still free);
          low = omega (arith, long);
          valid = lesson_valid cnf steps old a lesson s t more push;
          fresh = lesson_fresh cnf steps old a lesson s t more push;
          within = lesson_within cnf steps old a lesson s t more push;
          same = still ∙ (same ∙ kept);
          more = ap length push ∙ length_push steps lesson.step;
        }

-- ---- the search
pub started : (cnf : Cnf) (budget : ℕ) (steps : List ProofStep) (w : Watches) (a : Assigned) → steps ≡ [] → Starting cnf.clauses w a → a.variables ≡ cnf.variables → 1 ≤ budget → Searches cnf budget steps w a 0
started cnf budget steps w a none s same some =
    let known : cnf.clauses ≡ known_with cnf [] = sym (append-nil cnf.clauses) in
    subst (λ ss. Searches cnf budget ss w a 0) (sym none)
    (record {
      standing = subst (λ ks. Stable ks w a) known s.standing;
      guarded = subst (λ ks. GuardedTo ks w a 0) known s.guarded;
      low = omega arith;
      valid = λ n step e. absurd (cc);
      fresh = λ n step e. absurd (cc);
      within = All-nil (λ (x : ProofStep). All (Names cnf.variables) x.clause);
      same = same;
      few = some;
    })

pub forced_all : (es : List Entry) → NoDecision es 0 (length es) → AreForced es
forced_all es none = λ i d w. none i (get_or es i d) (omega arith) w (slice_get-get_or es i d w)

module _ (cnf : Cnf) (budget : ℕ) (steps : List ProofStep) (w : Watches) (a : Assigned) (head : ℕ) (s : Searches cnf budget steps w a head) where
  -- a conflict where nothing is decided
  pub ends_refuted : (v : Watches) (b : Assigned) (n : ℕ) (es : List Entry) (more : List ProofStep) (step : ProofStep) → Stopped (known_with cnf steps) v a b n → es ≡ b.entries → NoDecision es 0 (length es) → step.clause ≡ [] → step.hints ≡ reasons es (n ∷ []) →
      more ≡ steps ++ step ∷ [] → IsRefuted cnf budget more
  ends_refuted v b n es more step stop read none clause hints so =
      refuted cnf budget steps more b n step s.valid s.within s.few stop.standing.trail (subst AreForced read (forced_all es none)) stop.conflict clause (hints ∙ ap (λ fs. reasons fs (n ∷ [])) read) so

  -- as many steps as the budget
  pub ends_spent : (more : List ProofStep) (v : Watches) (b : Assigned) (h : ℕ) → Learns cnf steps more v b h → length more ≡ budget → IsSpent cnf budget more
  ends_spent more v b h l all =
      let valid = l.valid s.valid in
      let fresh = l.fresh s.fresh in
      let within = l.within s.within in
      let few = few_steps cnf (derivation_of more) valid fresh within in
      record { valid = valid; fresh = fresh; all = all; within = within; few = λ enough. absurd (omega (arith, few, all, enough)) }

  pub goes_on : (more : List ProofStep) (v : Watches) (b : Assigned) (h : ℕ) → Learns cnf steps more v b h → length more ≢ budget → Searches cnf budget more v b h
  goes_on more v b h l left =
      let few = s.few in
      let one = l.more in
      record {
        standing = l.standing;
        guarded = l.guarded;
        low = l.low;
        valid = l.valid s.valid;
        fresh = l.fresh s.fresh;
        within = l.within s.within;
        same = l.same;
        few = omega (arith, few, one, left);
      }

  pub step_smaller : (more : List ProofStep) (v : Watches) (b : Assigned) (h : ℕ) → Learns cnf steps more v b h → length more ≢ budget →
      (budget - length more) * (cnf.variables + 1) + room cnf.variables (is_false b) < (budget - length steps) * (cnf.variables + 1) + room cnf.variables (is_false a)
  step_smaller more v b h l left =
      let few = s.few in
      let one = l.more in
      subst (λ n. (budget - n) * (cnf.variables + 1) + room cnf.variables (is_false b) < (budget - length steps) * (cnf.variables + 1) + room cnf.variables (is_false a)) (sym one)
      (next_smaller budget (length steps) cnf.variables (room cnf.variables (is_false a)) (room cnf.variables (is_false b)) (omega (arith, few, one, left)) (room_most cnf.variables (is_false b)))

  module _ (v : Watches) (b : Assigned) (rest : Rested (known_with cnf steps) v a b) where
    -- nothing is left to decide
    pub ends_full : IsTotal b → IsFull cnf b steps
    ends_full total = record { variables = rest.same ∙ s.same; rest = rest.rest; total = total }

    module _ (d : Assigned) (l : ℤ) (free : IsFree (is_false b) l) (named : Names b.variables l) (so : d.entries ≡ b.entries ++ record { lit = l; reason = None } ∷ []) (same : d.variables ≡ b.variables) where
      now : is_false d ≡ also (is_false b) (neg_ℤ l)
      now = pushed b d (record { lit = l; reason = None }) so

      up : Within (is_false b) (is_false d)
      up k t = subst (λ (q : ℤ → Bool). q k ≡ true) (sym now) (or_right (int_eq (neg_ℤ l) k) (is_false b k) t)

      -- a decision at rest
      pub decided : Searches cnf budget steps v d (length b.entries)
      decided =
          let st = rest.standing in
          let known = known_with cnf steps in
          let e : Entry = record { lit = l; reason = None } in
          let long : length d.entries ≡ length b.entries + 1 = ap length so ∙ length_push b.entries (record { lit = l; reason = None }) in
          let head_is : take (length b.entries) d.entries ≡ b.entries = ap (take (length b.entries)) so ∙ take-append_seam b.entries (record { lit = l; reason = None } ∷ []) in
          record {
            standing = record {
              long = st.long;
              wide = st.wide ∙ ap (λ m. 2 * m + 1) (sym same);
              within = subst (λ m. All (λ c. All (Names m) c) (known_with cnf steps)) (sym same) st.within;
              placed = st.placed;
              listed = st.listed;
              decided = subst (AtDecisions (λ q. AreGuarded (known_with cnf steps) v.pairs q q) (among [])) (sym so)
                  (decisions_append (λ q. AreGuarded (known_with cnf steps) v.pairs q q) (among []) b.entries (record { lit = l; reason = None } ∷ []) st.decided (rest.guarded, tt));
              trail = subst (IsTrail (known_with cnf steps) (among [])) (sym so) (trail_append (known_with cnf steps) (among []) b.entries (record { lit = l; reason = None } ∷ []) st.trail (free, tt, tt));
              named = subst (AreNamed d.variables) (sym so) (subst (λ m. AreNamed m (b.entries ++ record { lit = l; reason = None } ∷ [])) (sym same)
                  (All-push (λ (x : Entry). Names b.variables x.lit) b.entries (record { lit = l; reason = None }) st.named named));
            };
            guarded = subst (λ es. AreGuarded (known_with cnf steps) v.pairs (falsified (among []) es) (is_false d)) (sym head_is)
                (λ i c o gk gp. guards_up (is_false b) (is_false b) (is_false d) c o up (rest.guarded i c o gk gp));
            low = omega (arith, long);
            valid = s.valid;
            fresh = s.fresh;
            within = s.within;
            same = same ∙ (rest.same ∙ s.same);
            few = s.few;
          }

      pub decision_less : (x : ℕ) → x + room cnf.variables (is_false d) < x + room cnf.variables (is_false a)
      decision_less x = decision_smaller (known_with cnf steps) cnf.variables a b d (record { lit = l; reason = None }) x rest.grows so (subst (λ m. Names m l) (rest.same ∙ s.same) named) free

-- a clause is false before anything is decided
pub clashed : (cnf : Cnf) (budget : ℕ) (steps more : List ProofStep) (a : Assigned) (es : List Entry) (n : ℕ) (s : ProofStep) → steps ≡ [] → 1 ≤ budget → Clashing cnf.clauses a n → es ≡ a.entries → s.clause ≡ [] → s.hints ≡ reasons es (n ∷ []) →
    more ≡ steps ++ s ∷ [] → IsRefuted cnf budget more
clashed cnf budget steps more a es n s none some h read clause hints so =
    let known : cnf.clauses ≡ known_with cnf [] = sym (append-nil cnf.clauses) in
    refuted cnf budget [] more a n s (λ k step e. absurd (cc)) (All-nil (λ (x : ProofStep). All (Names cnf.variables) x.clause)) some
    (subst (λ ks. IsTrail ks (among []) a.entries) known h.trail) h.forced (subst (λ ks. IsConflict ks (is_false a) n) known h.conflict) clause (hints ∙ ap (λ fs. reasons fs (n ∷ [])) read) (so ∙ ap (λ ss. ss ++ s ∷ []) none)
