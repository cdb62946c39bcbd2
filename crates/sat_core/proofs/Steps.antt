-- Steps.
use Rattle.std.proofs.Common.{ℕ, zero, suc, ◌+◌, ◌<◌, ◌≤◌, ◌≡◌, refl, ℤ, true, List, [], ◌∷◌, ◌++◌, length, take, Some, slice_get, sym, subst, ap, ◌∙◌, arith, ◌⊎◌, inl, inr, ⊎_elim}
use Rattle.std.specs.List.{All}
use Rattle.std.proofs.lemmas.List.{take-append-le, length_push}
use Rattle.std.proofs.lemmas.List.Elements.{All-nil, All-push}
use Rattle.std.proofs.Math.Seq.{take-append_seam}
use Rattle.cnf_core.specs.declared.clauses.Cnf.{Cnf}
use Rattle.cnf_core.specs.declared.clauses.ProofStep.{ProofStep}
use Rattle.cnf_core.specs.Literals.{Names}
use Rattle.cnf_core.specs.Validity.{among, is_valid}
use Rattle.cnf_core.specs.Derivations.{known_with, StepsWithin, AllValid, HasEmpty}
use Rattle.sat_core.specs.Endings.{derivation_of, IsRefuted}
use Rattle.sat_core.specs.Trails.{Assigned, is_false, IsTrail}
use Rattle.sat_core.specs.Rest.{IsConflict}
use Rattle.sat_core.specs.Learning.{reasons}
use Rattle.sat_core.specs.Starting.{AreForced}
use Rattle.sat_core.proofs.Replay.{forced_leads}

-- ---- one more step
at_push : (steps : List ProofStep) (s x : ProofStep) (n : ℕ) → slice_get (steps ++ s ∷ []) n ≡ Some x → ((n ≤ length steps) × (slice_get steps n ≡ Some x)) ⊎ ((n ≡ length steps) × (s ≡ x))
at_push [] s x zero e = inr (refl, cc)
at_push [] s x (suc n) e = absurd (cc)
at_push (y ∷ ys) s x zero e = inl (omega arith, e)
at_push (y ∷ ys) s x (suc n) e = ⊎_elim (λ a. inl (omega (arith, a.0), a.1)) (λ a. inr (ap suc a.0, a.1)) (at_push ys s x n e)

pub each_push : (P : List (List ℤ) → ProofStep → Type 0) (cnf : Cnf) (steps : List ProofStep) (s : ProofStep) →
    ((n : ℕ) (x : ProofStep) → slice_get steps n ≡ Some x → P (known_with cnf (take n steps)) x) → P (known_with cnf steps) s →
    (n : ℕ) (x : ProofStep) → slice_get (steps ++ s ∷ []) n ≡ Some x → P (known_with cnf (take n (steps ++ s ∷ []))) x
each_push P cnf steps s each here n x e = ⊎_elim
    (λ (a : (n ≤ length steps) × (slice_get steps n ≡ Some x)). subst (λ before. P (known_with cnf before) x) (sym (take-append-le n steps (s ∷ []) a.0)) (each n x a.1))
    (λ (a : (n ≡ length steps) × (s ≡ x)).
    subst (P (known_with cnf (take n (steps ++ s ∷ [])))) a.1
    (subst (λ before. P (known_with cnf before) s) (sym (ap (λ k. take k (steps ++ s ∷ [])) a.0 ∙ take-append_seam steps (s ∷ []))) here))
    (at_push steps s x n e)

-- an empty step was added
pub ends_empty : (steps more : List ProofStep) (s : ProofStep) → more ≡ steps ++ s ∷ [] → s.clause ≡ [] → HasEmpty (derivation_of more)
ends_empty steps more s so empty = (length steps, s, ap (λ ss. slice_get ss (length steps)) so ∙ get_last steps s, empty)
  where
    get_last : (ss : List ProofStep) (x : ProofStep) → slice_get (ss ++ x ∷ []) (length ss) ≡ Some x
    get_last [] x = refl
    get_last (y ∷ ys) x = get_last ys x

-- the empty step behind others
pub refuted : (cnf : Cnf) (budget : ℕ) (steps more : List ProofStep) (a : Assigned) (n : ℕ) (s : ProofStep) → AllValid cnf (derivation_of steps) → StepsWithin cnf.variables steps → length steps < budget →
    IsTrail (known_with cnf steps) (among []) a.entries → AreForced a.entries → IsConflict (known_with cnf steps) (is_false a) n → s.clause ≡ [] → s.hints ≡ reasons a.entries (n ∷ []) → more ≡ steps ++ s ∷ [] → IsRefuted cnf budget more
refuted cnf budget steps more a n s valid within few trail forced conflict clause hints so =
    let leads_to : is_valid (known_with cnf steps) s.clause s.hints ≡ true =
    ap (λ c. is_valid (known_with cnf steps) c s.hints) clause ∙ (ap (is_valid (known_with cnf steps) []) hints ∙ forced_leads (known_with cnf steps) a.entries (among []) conflict.0 n trail forced conflict.1 conflict.2) in
    let all : AllValid cnf (derivation_of more) = subst (λ ss. AllValid cnf (derivation_of ss)) (sym so) (each_push (λ known (x : ProofStep). is_valid known x.clause x.hints ≡ true) cnf steps s valid leads_to) in
    let long : length more ≡ length steps + 1 = ap length so ∙ length_push steps s in
    record {
      refutes = (all, ends_empty steps more s so clause);
      last = (steps, s, so, clause);
      most = omega (arith, few, long);
      within = subst (StepsWithin cnf.variables) (sym so)
          (All-push (λ (x : ProofStep). All (Names cnf.variables) x.clause) steps s within (subst (All (Names cnf.variables)) (sym clause) (All-nil (Names cnf.variables))));
    }
