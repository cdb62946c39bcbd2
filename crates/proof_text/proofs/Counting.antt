-- A loop that reads so many lines.
use Rattle.std.proofs.Common.{◌≡◌, ℕ, zero, suc, ◌-◌, ◌<◌, ◌≤◌, List, [], ◌∷◌, ◌++◌, Option, Some, None, refl, sym, ap, ◌∙◌, arith, append_assoc, append-nil}
use Rattle.std.specs.Prelude.{Result, Ok, Err}
use Rattle.proof_text.specs.Counted.{in_front, one_then, times}

abbrev pub behind : {X : Type 0} → List X → Result (List X × List ℕ) (List ℕ) → Result (List X × List ℕ) (List ℕ)
behind xs (Ok r) = Ok (xs ++ r.0, r.1)
behind xs (Err at) = Err at

-- these are read, and so many are still to be read
pub record Counts {X : Type 0} (take : List ℕ → Option (X × List ℕ)) (n : ℕ) (list : List ℕ) (found : List X) (left : List ℕ) (remaining : ℕ) : Type 0 where
  pub reads : times take n list ≡ behind found (times take remaining left)

behind_nil : {X : Type 0} (r : Result (List X × List ℕ) (List ℕ)) → r ≡ behind [] r
behind_nil (Ok r) = refl
behind_nil (Err at) = refl

behind_front : {X : Type 0} (xs : List X) (x : X) (r : Result (List X × List ℕ) (List ℕ)) → behind xs (in_front x r) ≡ behind (xs ++ x ∷ []) r
behind_front xs x (Ok r) = ap (λ q. Ok (q, r.1)) (sym (append_assoc xs (x ∷ []) r.0))
behind_front xs x (Err at) = refl

pub counts_start : {X : Type 0} (take : List ℕ → Option (X × List ℕ)) (n : ℕ) (list : List ℕ) → Counts take n list [] list n
counts_start take n list = record { reads = behind_nil (times take n list) }

pub counts_more : {X : Type 0} (take : List ℕ → Option (X × List ℕ)) (n : ℕ) (list : List ℕ) (found : List X) (left : List ℕ) (remaining : ℕ) (x : X) (rest : List ℕ) → Counts take n list found left remaining → 0 < remaining → take left ≡ Some (x, rest) → Counts take n list (found ++ x ∷ []) rest (remaining - 1)
counts_more take n list found left zero x rest c h e = absurd (omega (arith, h))
counts_more take n list found left (suc m) x rest c h e = record {
  reads =
      c.reads ∙ ap (λ o. behind found (one_then o left (times take m))) e ∙ behind_front found x (times take m rest)
      ∙ ap (λ (q : ℕ). behind (found ++ x ∷ []) (times take q rest)) (less_one m);
}
  where
    less_one : (m : ℕ) → m ≡ suc m - 1
    less_one m = omega arith

pub counts_wrong : {X : Type 0} (take : List ℕ → Option (X × List ℕ)) (n : ℕ) (list : List ℕ) (found : List X) (left : List ℕ) (remaining : ℕ) → Counts take n list found left remaining → 0 < remaining → take left ≡ None → times take n list ≡ Err left
counts_wrong take n list found left zero c h e = absurd (omega (arith, h))
counts_wrong take n list found left (suc m) c h e = c.reads ∙ ap (λ o. behind found (one_then o left (times take m))) e

pub counts_end : {X : Type 0} (take : List ℕ → Option (X × List ℕ)) (n : ℕ) (list : List ℕ) (found : List X) (left : List ℕ) (remaining : ℕ) → Counts take n list found left remaining → remaining ≤ 0 → times take n list ≡ Ok (found, left)
counts_end take n list found left zero c h = c.reads ∙ ap (λ q. Ok (q, left)) (append-nil found)
counts_end take n list found left (suc m) c h = absurd (omega (arith, h))
