-- Clauses by their numbers.
use Rattle.std.proofs.Common.{ℕ, zero, suc, ◌+◌, ℤ, List, [], ◌∷◌, ◌++◌, map, take, length, ◌≡◌, ◌<◌, Some, sym, ap, ◌∙◌, subst, slice_get, arith, get_or-take}
use Rattle.std.specs.List.{All}
use Rattle.std.specs.Option.{option_map}
use Rattle.std.proofs.lemmas.List.{length-take}
use Rattle.std.proofs.lemmas.List.Elements.{All-append, All-map}
use Rattle.std.proofs.lemmas.Option.{slice_get-map, slice_get_within, get_or_from_slice_get}
use Rattle.cnf_core.specs.declared.clauses.Cnf.{Cnf}
use Rattle.cnf_core.specs.declared.clauses.ProofStep.{ProofStep}
use Rattle.cnf_core.specs.Literals.{Names}
use Rattle.cnf_core.specs.Validity.{numbered}
use Rattle.cnf_core.specs.Derivations.{known_with, IsWithin, StepsWithin}

get_back : {X : Type 0} (xs ys : List X) (i k : ℕ) → i ≡ length xs + k → slice_get (xs ++ ys) i ≡ slice_get ys k
get_back [] ys i k e = ap (slice_get ys) (let h : i ≡ k = omega arith in h)
get_back (x ∷ xs) ys zero k e = absurd (omega arith)
get_back (x ∷ xs) ys (suc i) k e = get_back xs ys i k (omega arith)

pub all_head : {X : Type 0} (P : X → Type 0) (x : X) (xs : List X) → All P (x ∷ xs) → P x
all_head P x xs h = h 0 x (omega arith)

pub all_tail : {X : Type 0} (P : X → Type 0) (x : X) (xs : List X) → All P (x ∷ xs) → All P xs
all_tail P x xs h = λ k d w. h (suc k) d (omega arith)

pub all_at : {X : Type 0} (P : X → Type 0) (xs : List X) (k : ℕ) (x : X) → All P xs → slice_get xs k ≡ Some x → P x
all_at P xs k x a e = subst P (get_or_from_slice_get xs k x x e) (a k x (slice_get_within xs k x e))

pub all_take : {X : Type 0} (P : X → Type 0) (xs : List X) (n : ℕ) → All P xs → All P (take n xs)
all_take P xs n a = λ k d w.
    let s : k < n = omega (arith, length-take n xs) in
    let b : k < length xs = omega (arith, length-take n xs) in
    subst P (sym (get_or-take n xs k d s)) (a k d b)

module _ (cnf : Cnf) (steps : List ProofStep) where
  pub numbered_step : (number step : ℕ) → number ≡ length cnf.clauses + step + 1 → numbered (known_with cnf steps) number ≡ option_map (λ s. s.clause) (slice_get steps step)
  numbered_step zero step e = absurd (omega arith)
  numbered_step (suc n) step e =
      get_back cnf.clauses (map (λ s. s.clause) steps) n step (omega arith)
      ∙ slice_get-map (λ (s : ProofStep). s.clause) steps step

  -- what stands before a step has its literals in range
  pub known_names : IsWithin cnf → StepsWithin cnf.variables steps → All (λ c. All (Names cnf.variables) c) (known_with cnf steps)
  known_names a b =
      All-append (λ c. All (Names cnf.variables) c) cnf.clauses _ a
      (All-map (λ c. All (Names cnf.variables) c) (λ (s : ProofStep). s.clause) steps b)

-- what holds of each clause holds of the one that has this number
pub at_number : (P : List ℤ → Type 0) (known : List (List ℤ)) (number : ℕ) (clause : List ℤ) → All P known → numbered known number ≡ Some clause → P clause
at_number P known zero clause a e = absurd (cc)
at_number P known (suc k) clause a e = all_at P known k clause a e
