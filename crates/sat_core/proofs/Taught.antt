-- The steps with a learnt one are valid, new and in range.
use Rattle.std.proofs.Common.{ℤ, neg_ℤ, pos, Bool, true, false, List, [], ◌∷◌, ◌++◌, ◌≡◌, refl, sym, subst, ap, ◌∙◌, true≢false}
use Rattle.std.specs.List.{All}
use Rattle.std.specs.Ordering.{int_eq}
use Rattle.std.proofs.lemmas.List.Elements.{All-push}
use Rattle.cnf_core.specs.declared.clauses.Cnf.{Cnf}
use Rattle.cnf_core.specs.declared.clauses.ProofStep.{ProofStep}
use Rattle.cnf_core.specs.Literals.{Names}
use Rattle.cnf_core.specs.Validity.{among, is_valid}
use Rattle.cnf_core.specs.Derivations.{known_with, StepsWithin, AllValid, IsFresh, AllFresh}
use Rattle.sat_core.specs.declared.watching.Watches.{Watches}
use Rattle.sat_core.specs.declared.cutting.Lesson.{Lesson}
use Rattle.sat_core.specs.Trails.{Assigned, falsified, IsFree}
use Rattle.sat_core.specs.Watching.{AreGuarded}
use Rattle.sat_core.specs.States.{Stable}
use Rattle.sat_core.specs.Cuts.{front, Teaches}
use Rattle.sat_core.proofs.Replay.{twice, or_left, itself}
use Rattle.sat_core.specs.Endings.{derivation_of}
use Rattle.sat_core.proofs.Steps.{each_push}
use Rattle.sat_core.proofs.Looks.{Agrees}
use Rattle.sat_core.proofs.Passes.{trail_agrees, none_agrees}
use Rattle.sat_core.proofs.Settling.{front_within, all_rest}
use Rattle.sat_core.proofs.Lessons.{asserted_new, decided_at}

false_unless : (b : Bool) → (b ≡ true → ⊥) → b ≡ false
false_unless true f = absurd (f refl)
false_unless false f = refl

module _ (cnf : Cnf) (steps : List ProofStep) (w : Watches) (a : Assigned) (lesson : Lesson) (s : Stable (known_with cnf steps) w a) (t : Teaches (known_with cnf steps) cnf.variables a.entries lesson) where
  agrees : Agrees (falsified (among []) a.entries)
  agrees = trail_agrees (known_with cnf steps) a.variables (among []) a.entries none_agrees s.trail s.named

  lower : (k : ℤ) → falsified (among []) a.entries k ≡ false → front a.entries lesson.cut k ≡ false
  lower k f = false_unless (front a.entries lesson.cut k) (λ u. true≢false (sym (front_within a.entries lesson.cut k u) ∙ f))

  front_agrees : Agrees (front a.entries lesson.cut)
  front_agrees k u = lower k (agrees k (front_within a.entries lesson.cut (neg_ℤ k) u))

  first_false : falsified (among []) a.entries t.first ≡ true
  first_false = t.falses t.first (subst (λ c. among c t.first ≡ true) (sym t.clause) (or_left (int_eq t.first t.first) (among t.rest t.first) (itself t.first)))

  opposite_out : front a.entries lesson.cut (neg_ℤ t.first) ≡ false
  opposite_out = lower (neg_ℤ t.first) (agrees (neg_ℤ t.first) (ap (falsified (among []) a.entries) (twice t.first) ∙ first_false))

  pub lesson_free : IsFree (front a.entries lesson.cut) t.first
  lesson_free = (t.asserts.free, opposite_out)

  module _ (more : List ProofStep) (so : more ≡ steps ++ lesson.step ∷ []) where
    pub lesson_fresh : AllFresh cnf (derivation_of steps) → AllFresh cnf (derivation_of more)
    lesson_fresh fresh =
        let d = t.asserts.decision in
        let rests = all_rest (known_with cnf steps) (pos 0) w a (front a.entries lesson.cut) front_agrees s
        (decided_at (λ p. AreGuarded (known_with cnf steps) w.pairs p p) (among []) a.entries lesson.cut d.0 d.1 d.2 s.decided) in
        subst (λ ss. AllFresh cnf (derivation_of ss)) (sym so)
        (each_push (λ known (x : ProofStep). IsFresh known x.clause) cnf steps lesson.step fresh
        (subst (IsFresh (known_with cnf steps)) (sym t.clause)
        (asserted_new (known_with cnf steps) (front a.entries lesson.cut) t.first t.rest rests t.asserts.free opposite_out t.asserts.others)))

    pub lesson_valid : AllValid cnf (derivation_of steps) → AllValid cnf (derivation_of more)
    lesson_valid valid =
        subst (λ ss. AllValid cnf (derivation_of ss)) (sym so)
        (each_push (λ known (x : ProofStep). is_valid known x.clause x.hints ≡ true) cnf steps lesson.step valid t.valid)

    pub lesson_within : StepsWithin cnf.variables steps → StepsWithin cnf.variables more
    lesson_within within =
        subst (StepsWithin cnf.variables) (sym so)
        (All-push (λ (x : ProofStep). All (Names cnf.variables) x.clause) steps lesson.step within t.named)
